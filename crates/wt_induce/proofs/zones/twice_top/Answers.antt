use Rattle.std.proofs.Common.{arith, ◌≡◌, ◌^◌, ap, ◌∙◌}
use Rattle.wt_golden.specs.Whole.{Whole, whole, plus, times}
use Rattle.wt_golden.specs.Fractions.{top, sum}
use Rattle.wt_golden.specs.Wide.{number}
use Rattle.wt_golden.proofs.Sizes.{times_whole_within, plus_within}
use Rattle.wt_induce.proofs.zones.twice_top.Goals as goal

pub plus-requires-clause-left : goal.plus-requires-clause-left
plus-requires-clause-left c = times_whole_within (number c.top.result) (number c.bottom.result) (number c.times-once.result) c.args.f.d (2 ^ 30) (2 ^ 30) (2 ^ 125) c.times-once.ensures c.bottom.ensures.value c.top.ensures.small c.bottom.ensures.small (omega arith)

pub plus-requires-clause-right : goal.plus-requires-clause-right
plus-requires-clause-right c = times_whole_within (number c.top.result) (number c.bottom.result) (number c.times-once.result) c.args.f.d (2 ^ 30) (2 ^ 30) (2 ^ 125) c.times-once.ensures c.bottom.ensures.value c.top.ensures.small c.bottom.ensures.small (omega arith)

pub returns-clause-value : goal.returns-clause-value
unfolding sum
returns-clause-value c =
    c.plus.ensures
    ∙ ap (λ (w : Whole). plus w w) (c.times-once.ensures
    ∙ (ap (λ (w : Whole). times w (number c.bottom.result)) c.top.ensures.value ∙ ap (times (top c.args.f)) c.bottom.ensures.value))

pub returns-clause-small : goal.returns-clause-small
returns-clause-small c =
    let once = times_whole_within (number c.top.result) (number c.bottom.result) (number c.times-once.result) c.args.f.d (2 ^ 30) (2 ^ 30) (2 ^ 60) c.times-once.ensures c.bottom.ensures.value c.top.ensures.small c.bottom.ensures.small (omega arith) in
    plus_within (number c.times-once.result) (number c.times-once.result) (number c.plus.result) (2 ^ 60) (2 ^ 60) (2 ^ 61) c.plus.ensures once once (omega arith)
