use Rattle.std.proofs.Common.{arith, ◌^◌, ap, sym, subst, ◌∙◌}
use Rattle.std.specs.Prelude.{ℤ, pos, ◌*ℤ◌, ◌<ℤ◌}
use Rattle.wt_golden.specs.Whole.{Whole, whole, times}
use Rattle.wt_golden.specs.Wide.{number}
use Rattle.wt_golden.proofs.Sizes.{times_whole_within}
use Rattle.wt_golden.proofs.WholeRing.{whole_times}
use Rattle.wt_golden.proofs.Products.{mul_above}
use Rattle.wt_torus.proofs.turned.all_bottoms.Goals as goal

pub returns-clause-value : goal.returns-clause-value
returns-clause-value c =
    let m = c.args.g.d *ℤ c.args.h.d in
    c.times.ensures
    ∙ (ap (λ (w : Whole). times w (number c.both_bottoms.result)) c.bottom.ensures.value
    ∙ (ap (times (whole c.args.f.d)) c.both_bottoms.ensures.value ∙ sym (whole_times c.args.f.d m)))

pub returns-clause-small : goal.returns-clause-small
returns-clause-small c = (times_whole_within (number c.bottom.result) (number c.both_bottoms.result) (number c.times.result) (c.args.g.d *ℤ c.args.h.d) (2 ^ 30) (2 ^ 60) (2 ^ 126) c.times.ensures c.both_bottoms.ensures.value c.bottom.ensures.small c.both_bottoms.ensures.small (omega arith)).a

pub returns-clause-above : goal.returns-clause-above
returns-clause-above c =
    let e = ap (λ (w : Whole). w.a) (returns-clause-value c) in
    subst (λ (n : ℤ). pos 0 <ℤ n) (sym e) (mul_above c.args.f.d (c.args.g.d *ℤ c.args.h.d) c.bottom.ensures.above c.both_bottoms.ensures.above)
