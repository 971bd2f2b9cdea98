use Rattle.std.proofs.Common.{arith, ℕ, nat_eq}
use Rattle.wt_lane.proofs.Counts.{eight_more, few}
use Rattle.wt_lane.proofs.rows.count_equal.Goals as goal

pub overflow_add-count : goal.overflow_add-count
overflow_add-count c = record {
  fits = omega (arith, c.loop-at.invariant.counted, c.count_equal_in-count.ensures, few (λ (x : ℕ). nat_eq x c.args.value) c.loop-at.at c.args.row.now (omega (arith, c.loop-at-test.true)));
}

pub loop-at-preserved : goal.loop-at-preserved
loop-at-preserved c = record {
  within = omega (arith, c.loop-at-test.true);
  counted = omega (arith, c.loop-at.invariant.counted, c.count_equal_in-count.ensures, eight_more (λ (x : ℕ). nat_eq x c.args.value) c.loop-at.at c.args.row.now);
}
