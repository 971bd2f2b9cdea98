use Rattle.std.proofs.Common.{rules, arith, ℕ, nat_lt, ◌∙◌}
use Rattle.wt_lane.proofs.Alls.{all_further}
use Rattle.wt_lane.proofs.rows.all_below.Goals as goal

pub loop-at-preserved : goal.loop-at-preserved
loop-at-preserved c = record {
  within = omega (arith, c.loop-at-test.true);
  left = all_further (λ (x : ℕ). nat_lt x c.args.bound) 8 c.loop-at.at c.args.row.now c.all_below_in.result (search rules) c.all_below_in.ensures ∙ c.loop-at.invariant.left;
}
