use Rattle.std.proofs.Common.{◌≡◌, ◌+◌, ◌-◌, ◌<◌, ◌≤◌, length, None}
use Rattle.wt_refute.specs.Refutation.{count_in}
use Rattle.wt_refute.specs.View.{children_view}
use Rattle.wt_refute.specs.Placed.{placed, tile_in, fitting, passing, fits_cell}
use Rattle.wt_refute.specs.Fitted.{IsFitMask}
use Rattle.wt_refute.specs.Standard.{branches_with}
use Rattle.wt_refute.proofs.Grown.{join, tree_at}
use Rattle.wt_refute.proofs.build.+grow.Given as goal

abbrev pub decreases-grow : goal.decreases-grow
decreases-grow l = l.depth

abbrev pub invariant-tiles : goal.invariant-tiles
invariant-tiles l = record {
  same : l.cells ≡ l.fn.cells;
  within : l.at < length l.cells;
  free : tile_in (placed l.shape l.cells) l.at ≡ None;
  fit : IsFitMask l.sides.tiles.now (placed l.shape l.cells) l.at l.fit;
  low : l.from ≤ length l.sides.tiles.now;
  made : join (children_view l.children) (branches_with (tree_at l.sides.tiles.now l.radius l.known l.below (placed l.shape l.cells) l.at) (passing (fits_cell l.sides.tiles.now (placed l.shape l.cells) l.at) l.from (length l.sides.tiles.now - l.from)))
      ≡ branches_with (tree_at l.sides.tiles.now l.radius l.known l.below (placed l.shape l.cells) l.at) (fitting l.sides.tiles.now (placed l.shape l.cells) l.at);
  spent : l.left + 1 + count_in (children_view l.children) ≡ l.budget;
}

abbrev pub decreases-tiles : goal.decreases-tiles
decreases-tiles l = 257 - l.from
