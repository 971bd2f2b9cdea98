use Rattle.wt_step.specs.Blocks.{pairs_at, blocks_in}
use Rattle.std.proofs.Common.{◌-◌, false}
use Rattle.wt_step.proofs.BlockLists.{step_inside, step_begin}
use Rattle.wt_step.proofs.blocks.find_blocks.Goals.{then-inside, else-inside+in_ok-push}
use Rattle.wt_step.proofs.blocks.find_blocks.Goals as goal

pub loop-line-preserved : goal.loop-line-preserved
loop-line-preserved c =
    let pairs = pairs_at c.args.raw.now c.args.p.now in
    let whole = blocks_in pairs false c.args.from (c.args.end - c.args.from) in
    elim c.if-inside.branch [
      | then-inside w ↦ rw (w.blocks-is, w.inside-is) (step_inside pairs c.loop-line.blocks.items whole c.loop-line.line c.args.end c.loop-line-test.true c.loop-line.inside w.if-inside.true c.loop-line.invariant)
      | else-inside+in_ok-push w ↦ rw (w.blocks-is, w.inside-is, w.in_ok-push.ensures.items)
          (step_begin pairs c.loop-line.blocks.items whole c.loop-line.line c.args.end c.loop-line-test.true c.loop-line.inside w.is_double-inside.result w.if-inside.false w.is_double-inside.ensures c.loop-line.invariant)
    ]
