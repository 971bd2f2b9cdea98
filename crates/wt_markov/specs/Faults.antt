-- Why a partition isn't one that codes valid patterns, in the order of the causes.
use Rattle.std.specs.Prelude.{◌≡◌, ℕ, zero, suc, ◌+◌, ◌<◌, ◌≤◌, nat_lt, Bool, true, false, ◌&&◌, not, List, [], length, slice_index_or, Option, None, Some, if◌then◌else◌}
use Rattle.std.specs.List.{list_all}
use Rattle.wt_grid.specs.declared.axis.Axis.{Axis}
use Rattle.wt_grid.specs.declared.axis.Axis.TheVariants.{One, Two}
use Rattle.wt_grid.specs.First.{or_else, first_from}
use Rattle.wt_tile.specs.declared.tile.Tile.{Tile}
use Rattle.wt_tile.specs.Matching.{matches}
use Rattle.wt_torus.specs.declared.partition.Labelled.{Labelled}
use Rattle.wt_torus.specs.declared.partition.Partition.{Partition}
use Rattle.wt_torus.specs.Boxes.{Rotation}
use Rattle.wt_induce.specs.Faults.{is_small_half, moved_back}
use Rattle.wt_markov.specs.declared.fault.MarkovFault.{MarkovFault}
use Rattle.wt_markov.specs.declared.fault.MarkovFault.TheVariants as fault
use Rattle.wt_markov.specs.Follow.{box, turn_zone, turn_move, can_follow}

-- the region with this number; a number past the list counts as a region without half-planes
abbrev pub region_at : Partition → ℕ → Labelled
region_at p i = slice_index_or p.regions i (record { label = 0; region = record { planes = [] } })

-- region i, where its label is none of these tiles
abbrev pub tile_fault_at : List Tile → Partition → ℕ → Option MarkovFault
tile_fault_at ts p i = if nat_lt (region_at p i).label (length ts) then None else Some (fault.Tile i)

-- the first region whose label is none of these tiles
abbrev pub tile_fault : List Tile → Partition → Option MarkovFault
tile_fault ts p = first_from (tile_fault_at ts p) 0 (length p.regions)

-- the half-planes of the box and of both zones are within the limit
abbrev pub zones_fit : Axis → Rotation → Bool
zones_fit axis r =
    list_all is_small_half (box r) && list_all is_small_half (turn_zone axis r false)
    && list_all is_small_half (turn_zone axis r true)

-- those of a region moved back, by the move of either zone
abbrev pub moved_fit : Axis → Rotation → Labelled → Bool
moved_fit axis r q =
    list_all is_small_half (moved_back axis (turn_move axis r false) q.region.planes)
    && list_all is_small_half (moved_back axis (turn_move axis r true) q.region.planes)

-- all half-planes that are asked whether a region can be followed by region q
abbrev pub turns_fit : Axis → Rotation → Labelled → Bool
turns_fit axis r q = zones_fit axis r && moved_fit axis r q

-- so they are for each region, along both axes
abbrev pub AllTurnsFit : Partition → Type 0
AllTurnsFit p = (axis : Axis) (j : ℕ) → j < length p.regions → turns_fit axis p.torus (region_at p j) ≡ true

-- region i is followed by region j, and their labels don't match
abbrev pub unmatched : Axis → ℕ → ℕ → Bool → Bool → Option MarkovFault
unmatched axis i j follows matched = if follows && not matched then Some (fault.Pair axis i j) else None

-- the same, where region i can be followed by region j; or a number is out of limit
abbrev pub pair_fault_at : List Tile → Axis → Partition → ℕ → ℕ → Option MarkovFault
pair_fault_at ts axis p i j =
    if turns_fit axis p.torus (region_at p j)
    then unmatched axis i j (can_follow axis p.torus (region_at p i) (region_at p j)) (matches ts axis (region_at p i).label (region_at p j).label)
    else Some fault.TooLarge

-- the first fault of region i with a region that may follow it
abbrev pub pair_row : List Tile → Axis → Partition → ℕ → Option MarkovFault
pair_row ts axis p i = first_from (pair_fault_at ts axis p i) 0 (length p.regions)

-- the first fault of a pair of regions along the axis
abbrev pub pair_fault : List Tile → Axis → Partition → Option MarkovFault
pair_fault ts axis p = first_from (pair_row ts axis p) 0 (length p.regions)

-- the first fault of a partition
unfoldable pub markov_fault : List Tile → Partition → Option MarkovFault
markov_fault ts p = or_else (tile_fault ts p) (or_else (pair_fault ts One p) (pair_fault ts Two p))

-- how many of n regions, from number j on, can follow region i
abbrev pub followers : Axis → Partition → ℕ → ℕ → ℕ → ℕ
followers axis p i j zero = 0
followers axis p i j (suc n) =
    (if can_follow axis p.torus (region_at p i) (region_at p j) then 1 else 0) + followers axis p i (j + 1) n

-- the pairs of regions that can follow each other, the first of them one of n from region i on
abbrev pub pairs_from : Axis → Partition → ℕ → ℕ → ℕ
pairs_from axis p i zero = 0
pairs_from axis p i (suc n) = followers axis p i 0 (length p.regions) + pairs_from axis p (i + 1) n

-- all pairs of regions that can follow each other along the axis
abbrev pub pair_count : Axis → Partition → ℕ
pair_count axis p = pairs_from axis p 0 (length p.regions)

-- region i can be followed by region j along the axis
abbrev pub can_follow_at : Axis → Partition → ℕ → ℕ → Bool
can_follow_at axis p i j = can_follow axis p.torus (region_at p i) (region_at p j)

-- region i has no fault with a region that may follow it, and n can follow it
abbrev pub CountsFollowers : List Tile → Axis → Partition → ℕ → ℕ → Type 0
CountsFollowers ts axis p i n =
    (pair_row ts axis p i ≡ None) × (n ≡ followers axis p i 0 (length p.regions)) × (n ≤ length p.regions)

-- the pairs along axis 1, and those along axis 2
abbrev pub pair_counts : Partition → ℕ × ℕ
pair_counts p = (pair_count One p, pair_count Two p)
