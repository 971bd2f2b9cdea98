use Rattle.std.proofs.Common.{◌≡◌, ◌-◌, ◌≤◌, length, drop}
use Rattle.std.specs.Str.{bytes_eq}
use Rattle.wt_refute.specs.Refutation.{tiles_in}
use Rattle.wt_refute.specs.View.{children_view}
use Rattle.wt_refute.specs.Placed.{placed, fitting, passing, fits_cell}
use Rattle.wt_refute.proofs.check.is_branching.Given as goal

abbrev pub invariant-loop-child : goal.invariant-loop-child
invariant-loop-child l = record {
  low : l.from ≤ length l.sides.tiles.now;
  same : bytes_eq (tiles_in (children_view (drop l.child-index l.children))) (passing (fits_cell l.sides.tiles.now (placed l.fn.shape l.cells) l.cell) l.from (length l.sides.tiles.now - l.from))
      ≡ bytes_eq (tiles_in (children_view l.children)) (fitting l.sides.tiles.now (placed l.fn.shape l.cells) l.cell);
}
