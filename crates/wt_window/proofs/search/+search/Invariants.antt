use Rattle.std.proofs.Common.{◌≡◌, ℕ, ◌+◌, ◌-◌, ◌<◌, ◌≤◌, List, length, take, get_or}
use Rattle.wt_window.specs.Trials.{IsFilling, cells}
use Rattle.wt_window.specs.Frames.{frame_window, HasAllFrom}
use Rattle.wt_lane.specs.Masks.{mask_bit}
use Rattle.wt_window.proofs.Searched.{tried}
use Rattle.wt_window.proofs.search.+search.Given as goal

abbrev pub decreases-search : goal.decreases-search
decreases-search l = length l.filled.now - l.at

abbrev pub invariant-tiles : goal.invariant-tiles
invariant-tiles l = record {
  long : length l.filled ≡ length l.fn.filled;
  within : l.at < length l.filled;
  same : take l.at l.filled ≡ take l.at l.fn.filled;
  low : l.from ≤ length l.tables.tiles.now;
  room : length l.filled ≤ l.at + 1 + length l.spare;
  whole : (t : ℕ) → l.from ≤ t → mask_bit l.fit t ≡ 1 → HasAllFrom l.tables.tiles.now l.frame l.at l.fn.filled l.masks;
  none : (g : List ℕ) → IsFilling l.tables.tiles.now (frame_window l.frame) (cells (frame_window l.frame)) g → take l.at g ≡ take l.at l.fn.filled → get_or g l.at 0 < l.from → ⊥;
  paid : l.budget ≤ l.left + 1 + tried l.tables.tiles.now (frame_window l.frame) (cells (frame_window l.frame) - (l.at + 1)) (take l.at l.fn.filled) l.from;
}

abbrev pub decreases-tiles : goal.decreases-tiles
decreases-tiles l = 257 - l.from
