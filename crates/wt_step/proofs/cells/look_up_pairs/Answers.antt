use Rattle.std.proofs.Common.{arith, ◌+◌, ◌*◌, get_or, refl, ◌≡◌, ◌∙◌}
use Rattle.std.proofs.lemmas.List.{length-set}
use Rattle.wt_step.specs.Blocks.{pair_found_at}
use Rattle.wt_step.proofs.CoarseRows.{stored}
use Rattle.wt_step.proofs.cells.look_up_pairs.Goals as goal

pub loop-i-preserved : goal.loop-i-preserved
loop-i-preserved c =
    let v = get_or c.args.table.now (c.from.result * c.args.tiles + c.from-in-loop-i.result) 0 in
    let e : v ≡ pair_found_at c.args.table.now c.args.tiles c.args.low.now c.args.high.now c.loop-i.i = rw (c.from.ensures, c.from-in-loop-i.ensures) refl in
    record {
      done = stored (pair_found_at c.args.table.now c.args.tiles c.args.low.now c.args.high.now) c.loop-i.out c.loop-i.i v (omega (arith, c.loop-i-test.true, c.loop-i.invariant.size)) c.loop-i.invariant.done e;
      size = length-set c.loop-i.out c.loop-i.i v ∙ c.loop-i.invariant.size;
    }
