-- Partitions whose codes are valid patterns over a tile set.
use Rattle.std.specs.Prelude.{◌≡◌, ℕ, ◌<◌, true, List, length, slice_get, Some}
use Rattle.wt_tile.specs.declared.tile.Tile.{Tile}
use Rattle.wt_grid.specs.declared.axis.Axis.{Axis}
use Rattle.wt_tile.specs.Matching.{matches}
use Rattle.wt_torus.specs.declared.partition.Labelled.{Labelled}
use Rattle.wt_torus.specs.declared.partition.Partition.{Partition}
use Rattle.wt_markov.specs.Follow.{can_follow}

-- the partition has this region, as number i
abbrev pub IsRegion : Partition → ℕ → Labelled → Type 0
IsRegion p i r = slice_get p.regions i ≡ Some r

-- The labels of a partition are tiles of a set, and match wherever a turn can lead from one region into another.
pub record Markov (ts : List Tile) (p : Partition) : Type 0 where
  -- every label is a tile
  pub tiles : (i : ℕ) (r : Labelled) → IsRegion p i r → r.label < length ts
  -- wherever a region can be followed by another along an axis, their labels match along it
  pub matched : (axis : Axis) (i j : ℕ) (r q : Labelled) → IsRegion p i r → IsRegion p j q
      → can_follow axis p.torus r q ≡ true → matches ts axis r.label q.label ≡ true
