use Rattle.std.proofs.Common.{arith, ◌^◌, ap, sym, ◌∙◌}
use Rattle.wt_golden.specs.Whole.{Whole, whole, times}
use Rattle.wt_golden.specs.Fractions.{sum}
use Rattle.wt_golden.specs.Wide.{number}
use Rattle.wt_golden.proofs.Sizes.{times_whole_within}
use Rattle.wt_golden.proofs.WholeRing.{whole_times}
use Rattle.wt_induce.proofs.zones.twice_bottom.Goals as goal

pub returns-clause-value : goal.returns-clause-value
unfolding sum
returns-clause-value c =
    c.times.ensures
    ∙ (ap (λ (w : Whole). times w (number c.bottom-2.result)) c.bottom.ensures.value
    ∙ (ap (times (whole c.args.f.d)) c.bottom-2.ensures.value ∙ sym (whole_times c.args.f.d c.args.f.d)))

pub returns-clause-small : goal.returns-clause-small
returns-clause-small c = times_whole_within (number c.bottom.result) (number c.bottom-2.result) (number c.times.result) c.args.f.d (2 ^ 30) (2 ^ 30) (2 ^ 60) c.times.ensures c.bottom-2.ensures.value c.bottom.ensures.small c.bottom-2.ensures.small (omega arith)
