use Rattle.std.proofs.Common.{sym, ◌∙◌}
use Rattle.wt_pattern.proofs.PartCells.{part_shape}
use Rattle.wt_pattern.proofs.parts.part.Goals as goal

pub of-requires : goal.of-requires
of-requires c = part_shape c.args.p.now c.args.x c.args.y c.args.w c.args.h c.in_ok-cells.cells.items c.is_inside.ensures.shape (sym c.is_inside.ensures.value ∙ c.if-not-is_inside.false) (c.in_ok-cells.ensures {u = tt})
