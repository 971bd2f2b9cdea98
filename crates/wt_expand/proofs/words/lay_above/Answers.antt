use Rattle.std.proofs.Common.{arith, ◌+◌}
use Rattle.wt_expand.specs.Counters.{counter_levels}
use Rattle.wt_expand.proofs.Joined.{shorter}
use Rattle.wt_expand.proofs.words.lay_above.Goals as goal

pub set_words-requires-clause-short : goal.set_words-requires-clause-short
set_words-requires-clause-short c =
    let less = shorter (counter_levels c.args.counter.now) (c.loop-k.k + 1) c.args.low (omega (arith, c.loop-k-test.true)) in
    omega (arith, less, c.requires.short)

pub set_words-requires-in-loop-k-clause-short : goal.set_words-requires-in-loop-k-clause-short
set_words-requires-in-loop-k-clause-short c =
    let less = shorter (counter_levels c.args.counter.now) (c.loop-k.k + 1 + 1) c.args.low (omega (arith, c.loop-k-test.true)) in
    omega (arith, less, c.requires.short)
