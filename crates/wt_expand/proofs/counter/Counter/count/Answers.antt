use Rattle.std.proofs.Common.{arith, sym}
use Rattle.wt_expand.proofs.Levels.{length_levels}
use Rattle.wt_expand.proofs.counter.Counter.count.Goals as goal

pub returns-clause-value : goal.returns-clause-value
returns-clause-value c =
    let counter = c.args.self.now in
    sym (length_levels counter.steps.now counter.start counter.turns (omega (arith, counter.inside)))
