use Rattle.std.proofs.Common.{arith}
use Rattle.wt_expand.proofs.Counters.{few_levels, small_place}
use Rattle.wt_expand.proofs.counter.Counter.place.Goals as goal

pub overflow_mul-result : goal.overflow_mul-result
overflow_mul-result c =
    let counter = c.args.self.now in
    omega (arith, small_place c.args.i _ counter.block c.requires (few_levels counter.steps.now counter.start counter.turns counter.inside counter.few counter.short) counter.thin)
