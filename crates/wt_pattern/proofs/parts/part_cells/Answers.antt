use Rattle.std.proofs.Common.{arith, rules, ◌*◌, ◌≤◌, ◌∙◌}
use Rattle.std.proofs.Math.Nat.{mul-le-mul}
use Rattle.wt_pattern.proofs.PartCells.{part_more, inside}
use Rattle.wt_pattern.proofs.parts.part_cells.Goals as goal

pub overflow_mul-w : goal.overflow_mul-w
overflow_mul-w c =
    let i = inside c.args.p.now c.args.x c.args.y c.args.w c.args.h c.requires.inside in
    let s = c.requires.shape in
    let few : c.args.w * c.args.h ≤ 4096 * 4096 = mul-le-mul {n₁ = c.args.w} {m₁ = c.args.h} {n₂ = 4096} {m₂ = 4096} (omega arith) (omega arith) in
    search rules

pub loop-j-preserved : goal.loop-j-preserved
loop-j-preserved c =
    let i = inside c.args.p.now c.args.x c.args.y c.args.w c.args.h c.requires.inside in
    (c.in_ok-extend_from_slice.ensures {u = tt}).items
    ∙ part_more c.args.p.now c.args.x c.args.y c.args.w c.loop-j.j c.loop-j.cells.items c.row-row.result.now c.loop-j.invariant c.row-row.ensures.cells c.requires.shape.grid (omega arith) (omega arith)
