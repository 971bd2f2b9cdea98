use Rattle.std.proofs.Common.{arith, ap, ◌∙◌}
use Rattle.std.proofs.lemmas.List.{length-set}
use Rattle.wt_step.specs.declared.blocks.Block.{Block}
use Rattle.wt_step.specs.Blocks.{block_in, tile_in}
use Rattle.wt_step.proofs.CoarseRows.{stored}
use Rattle.wt_step.proofs.cells.look_up_blocks.Goals as goal

pub loop-i-preserved : goal.loop-i-preserved
loop-i-preserved c =
    let n = c.args.tiles in
    let ones = c.args.index.now.singles.items in
    let twos = c.args.index.now.pairs.items in
    record {
      done = stored (block_in n ones twos c.args.row.now c.args.blocks.now) c.loop-i.out c.loop-i.i c.tile_in.result (omega (arith, c.loop-i-test.true, c.loop-i.invariant.size)) c.loop-i.invariant.done
          (c.tile_in.ensures ∙ ap (λ (b : Block). tile_in n ones twos c.args.row.now b) c.block_at.ensures);
      size = length-set c.loop-i.out c.loop-i.i c.tile_in.result ∙ c.loop-i.invariant.size;
    }
