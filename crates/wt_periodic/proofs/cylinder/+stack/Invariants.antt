use Rattle.std.proofs.Common.{◌≡◌, ℕ, ◌-◌, ◌<◌, List, length, take, get_or}
use Rattle.wt_periodic.specs.Cylinders.{IsCylinder}
use Rattle.wt_periodic.proofs.cylinder.+stack.Given as goal

abbrev pub decreases-stack : goal.decreases-stack
decreases-stack l = length l.filled.now - l.at

abbrev pub invariant-tiles : goal.invariant-tiles
invariant-tiles l = record {
  long : length l.filled ≡ length l.fn.filled;
  within : l.at < length l.filled;
  same : take l.at l.filled ≡ take l.at l.fn.filled;
  none : (g : List ℕ) → IsCylinder l.along.tiles.now l.along.axis l.width (length l.fn.filled) g → take l.at g ≡ take l.at l.fn.filled → get_or g l.at 0 < l.from → ⊥;
}

abbrev pub decreases-tiles : goal.decreases-tiles
decreases-tiles l = 257 - l.from
