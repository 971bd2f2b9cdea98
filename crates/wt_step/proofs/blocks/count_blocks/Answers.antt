use Rattle.std.proofs.Common.{◌≤◌, ◌+◌, ◌-◌, length, false, rules, arith}
use Rattle.wt_step.specs.Blocks.{pairs_at, blocks_in}
use Rattle.wt_step.proofs.BlockLists.{length-blocks, count_inside, count_begin, count_room}
use Rattle.wt_step.proofs.blocks.count_blocks.Goals.{then-inside, else-inside}
use Rattle.wt_step.proofs.blocks.count_blocks.Goals as goal

pub overflow_add-blocks : goal.overflow_add-blocks
overflow_add-blocks c =
    let pairs = pairs_at c.args.raw.now c.args.p.now in
    let all = length-blocks pairs false c.args.from (c.args.end - c.args.from) in
    let room = count_room pairs c.loop-line.blocks (length (blocks_in pairs false c.args.from (c.args.end - c.args.from))) c.loop-line.line c.args.end c.loop-line-test.true c.loop-line.inside c.if-inside.false c.loop-line.invariant in
    let few : c.loop-line.blocks + 1 ≤ c.args.end = omega arith in
    search rules

pub loop-line-preserved : goal.loop-line-preserved
loop-line-preserved c =
    let pairs = pairs_at c.args.raw.now c.args.p.now in
    let whole = length (blocks_in pairs false c.args.from (c.args.end - c.args.from)) in
    elim c.if-inside.branch [
      | then-inside w ↦ rw (w.blocks-is, w.inside-is) (count_inside pairs c.loop-line.blocks whole c.loop-line.line c.args.end c.loop-line-test.true c.loop-line.inside w.if-inside.true c.loop-line.invariant)
      | else-inside w ↦ rw (w.blocks-is, w.inside-is)
          (count_begin pairs c.loop-line.blocks whole c.loop-line.line c.args.end c.loop-line-test.true c.loop-line.inside w.is_double-inside.result w.if-inside.false w.is_double-inside.ensures c.loop-line.invariant)
    ]
