-- The trees of light chains have few nodes.
use Rattle.std.proofs.Common.{◌≡◌, ◌≤◌, ℕ, Result, Ok, Err, sym, ap, ◌∙◌}
use Rattle.wt_chain.specs.declared.raw.RawChain.{RawChain}
use Rattle.wt_chain.specs.Limits.{nodes_through}
use Rattle.wt_search.specs.declared.light_end.LightenEnd.{LightenEnd}
use Rattle.wt_search.specs.declared.limits.TheConstants.{MAX_NODES}
use Rattle.wt_search.specs.Light.{light}
use Rattle.wt_search.specs.Lightened.{MayAnswerLighten}
use Rattle.wt_search.proofs.LightCounts.{chain_counted}

-- a chain that is answered has no more nodes than the limit
pub few : (c l : RawChain) (budget : ℕ) (answer : Result RawChain (RawChain × LightenEnd)) → answer ≡ Ok l → MayAnswerLighten c budget answer → nodes_through 0 l.steps ≤ MAX_NODES
few c l budget (Ok x) e m =
    let same : x ≡ l = cc in
    let k = chain_counted c budget m.1.0 m.1.1 in
    let at : l.steps ≡ (light c).steps = ap (λ (r : RawChain). r.steps) (sym same ∙ m.0) in
    rw (at, k.0) k.1
few c l budget (Err x) e m = absurd cc
