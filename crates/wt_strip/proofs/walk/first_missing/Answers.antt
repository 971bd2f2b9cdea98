use Rattle.std.proofs.Common.{arith}
use Rattle.wt_strip.proofs.Walked.{way_of_fewer}
use Rattle.wt_strip.proofs.walk.first_missing.Goals as goal

pub returns-clause-missed : goal.returns-clause-missed
returns-clause-missed c = λ e.
    let m = c.misses_from.ensures.missed e in (
      way_of_fewer c.args.sides.now.tiles.now c.prune.new.allowed c.args.allowed.now c.args.w c.misses_from.new.row (c.prune.ensures.left c.if-not-prune.false).fewer m.0,
      m.1,
    )

pub returns-clause-first : goal.returns-clause-first
returns-clause-first c = λ e q long way missing. c.misses_from.ensures.first e q long ((c.prune.ensures.left c.if-not-prune.false).kept q way) (λ x lt. absurd (omega (arith, lt))) missing

pub returns-clause-none : goal.returns-clause-none
returns-clause-none c = λ e q long way. c.misses_from.ensures.none e q long ((c.prune.ensures.left c.if-not-prune.false).kept q way) (λ x lt. absurd (omega (arith, lt)))
