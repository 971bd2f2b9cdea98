use Rattle.std.proofs.Common.{length, sym, ◌∙◌}
use Rattle.wt_mask.specs.Masks.{may_stand}
use Rattle.wt_mask.specs.declared.sides.Way.TheVariants.{Up, Down}
use Rattle.wt_strip.proofs.Bears.{shown}
use Rattle.wt_strip.proofs.Led.{same_colour}
use Rattle.wt_strip.proofs.leads.lead.Goals as goal

pub returns : goal.returns
returns c = λ v.
    let ts = c.args.sides.now.tiles.now in
    let u = shown c.in-Some.u (length ts) (may_stand ts Up c.args.a c.in-Some.u) (sym (c.beside.ensures c.in-Some.u) ∙ c.in-Some.ensures.2) in
    let t = shown c.in-Some-next_bit.t (length ts) (may_stand ts Down c.in-Some.u c.in-Some-next_bit.t) (sym (c.beside-2.ensures c.in-Some-next_bit.t) ∙ c.in-Some-next_bit.ensures.2) in
    same_colour ts c.args.a c.in-Some-next_bit.t c.in-Some.u v u.1 t.1
