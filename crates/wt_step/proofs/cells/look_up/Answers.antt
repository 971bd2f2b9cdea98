use Rattle.std.proofs.Common.{arith, ℕ, get_or, ap, ◌∙◌}
use Rattle.std.proofs.lemmas.List.{length-set}
use Rattle.wt_step.specs.Blocks.{found_at}
use Rattle.wt_step.proofs.CoarseRows.{stored}
use Rattle.wt_step.proofs.cells.look_up.Goals as goal

pub loop-i-preserved : goal.loop-i-preserved
loop-i-preserved c = record {
  done = stored (found_at c.args.table.now c.args.line.now) c.loop-i.out c.loop-i.i (get_or c.args.table.now c.from.result 0) (omega (arith, c.loop-i-test.true, c.loop-i.invariant.size)) c.loop-i.invariant.done
      (ap (λ (k : ℕ). get_or c.args.table.now k 0) c.from.ensures);
  size = length-set c.loop-i.out c.loop-i.i (get_or c.args.table.now c.from.result 0) ∙ c.loop-i.invariant.size;
}
