use Rattle.std.proofs.Common.{◌∙◌, ap, map}
use Rattle.wt_chain.specs.declared.raw.RawChain.{RawChain}
use Rattle.wt_search.specs.Light.{light_link}
use Rattle.wt_search.proofs.LightChains.{made_good, all_faultless}
use Rattle.wt_search.proofs.lightening.lighten.Goals as goal

pub light_links-requires : goal.light_links-requires
light_links-requires c = all_faultless c.args.chain c.as_slice.result.now c.raw.ensures.good (c.as_slice.ensures ∙ ap (λ (r : RawChain). r.steps) c.raw.ensures.value)

pub of-requires : goal.of-requires
of-requires c =
    made_good c.args.chain c.new.result c.into_raw-raw.result.end c.raw.ensures.good
    (c.new.ensures ∙ ((c.in-Ok.ensures {u = tt}).links ∙ ap (map light_link) (c.as_slice.ensures ∙ ap (λ (r : RawChain). r.steps) c.raw.ensures.value)))
    (ap (λ (r : RawChain). r.end) c.into_raw-raw.ensures.same)
