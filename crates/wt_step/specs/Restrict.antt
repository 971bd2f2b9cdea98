-- Restrict steps: some tiles are kept, and the others stand in no core of the radius.
use Rattle.std.specs.Prelude.{ℕ, ◌≡◌, ◌<◌, ◌≤◌, true, length, slice_index, Option, None, Bool, ◌&&◌, not, nat_eq, nat_lt, nat_le, option_map}
use Rattle.wt_grid.specs.Unless.{unless}
use Rattle.std.specs.List.{list_any}
use Rattle.wt_grid.specs.declared.axis.Axis.TheVariants.{One, Two}
use Rattle.wt_grid.specs.declared.axis.Axis.{Axis}
use Rattle.wt_tile.specs.Sets.{set_fault}
use Rattle.wt_tile.specs.Matching.{matches}
use Rattle.wt_refute.specs.Refutes.{tile_tree_fault}
use Rattle.wt_step.specs.declared.raw.RawRestrict.{RawRestrict}
use Rattle.wt_step.specs.declared.raw.Lost.{Lost}
use Rattle.wt_step.specs.declared.raw.StepFault.{StepFault}
use Rattle.wt_step.specs.declared.raw.StepFault.TheVariants.{Radius, Fine, Coarse, Kept, LostList, LostNode, Join}
use Rattle.wt_grid.specs.First.{or_else, first_from}
use Rattle.wt_grid.specs.Order.{in_order, first_in, is_below, comes_before, agree}

-- The kept tiles ascend, are fine tiles, and are as many as the coarse tiles.

-- the kept tiles ascend, are fine tiles, and are as many as the coarse tiles
abbrev pub kept_fit : RawRestrict → Bool
kept_fit s = in_order (is_below (length s.fine.tiles)) comes_before s.kept && nat_eq (length s.kept) (length s.coarse.tiles)

-- tile t is kept
abbrev pub is_kept : RawRestrict → ℕ → Bool
is_kept s t = list_any (nat_eq t) s.kept

-- The lost tiles are exactly the other fine tiles, ascending.

-- the lost tile is one of n tiles
abbrev pub lost_below : ℕ → Lost → Bool
lost_below n l = nat_lt l.tile n

-- the first of two lost tiles is less
abbrev pub losses_follow : Lost → Lost → Bool
losses_follow l m = nat_lt l.tile m.tile

-- the lost tile is t
abbrev pub loses : ℕ → Lost → Bool
loses t l = nat_eq t l.tile

-- tile t is lost
abbrev pub is_lost : RawRestrict → ℕ → Bool
is_lost s t = list_any (loses t) s.lost

-- the lost tiles ascend and are fine tiles
abbrev pub lost_fit : RawRestrict → Bool
lost_fit s = in_order (lost_below (length s.fine.tiles)) losses_follow s.lost

-- a tile is lost where it isn't kept
abbrev pub sorted_fault_at : RawRestrict → ℕ → Option StepFault
sorted_fault_at s t = unless (agree (is_lost s t) (not (is_kept s t))) LostList

-- some tile is both kept and lost, or neither
abbrev pub sorted_fault : RawRestrict → Option StepFault
sorted_fault s = first_from (sorted_fault_at s) 0 (length s.fine.tiles)

-- The tree of each lost tile refutes its window.

-- the first wrong node of a lost tile's tree
abbrev pub lost_fault_at : RawRestrict → Lost → Option StepFault
lost_fault_at s l = option_map (LostNode l.tile) (tile_tree_fault s.fine.tiles l.tile s.radius l.tree)

-- that of the first lost tile whose tree doesn't refute its window
abbrev pub lost_fault : RawRestrict → Option StepFault
lost_fault s = first_in (lost_fault_at s) s.lost

-- Coarse tiles match as the fine tiles that they stand for.

-- the fine tile that coarse tile i stands for; 0 past the last
abbrev pub kept_at : RawRestrict → ℕ → ℕ
kept_at s i = slice_index s.kept i

-- the fine tiles that coarse tiles i and j stand for match
abbrev pub kept_match : RawRestrict → Axis → ℕ → ℕ → Bool
kept_match s axis i j = matches s.fine.tiles axis (kept_at s i) (kept_at s j)

-- coarse tiles i and j match where these don't, or the other way round
abbrev pub kept_join_at : RawRestrict → Axis → ℕ → ℕ → Option StepFault
kept_join_at s axis i j = unless (agree (matches s.coarse.tiles axis i j) (kept_match s axis i j)) (Join axis i j)

-- the first such pair with first tile i
abbrev pub kept_join_row : RawRestrict → Axis → ℕ → Option StepFault
kept_join_row s axis i = first_from (kept_join_at s axis i) 0 (length s.coarse.tiles)

-- the first such pair of an axis
abbrev pub kept_join_fault : RawRestrict → Axis → Option StepFault
kept_join_fault s axis = first_from (kept_join_row s axis) 0 (length s.coarse.tiles)

-- the first condition that fails of those on the radius, the sets and the lists
unfoldable pub sorting_fault : RawRestrict → Option StepFault
sorting_fault s =
    or_else (unless (nat_le s.radius 4) Radius)
    (or_else (option_map Fine (set_fault s.fine))
    (or_else (option_map Coarse (set_fault s.coarse))
    (or_else (unless (kept_fit s) Kept)
    (or_else (unless (lost_fit s) LostList)
    (sorted_fault s)))))

-- the first fault of its trees and of its coarse set
abbrev pub use_fault : RawRestrict → Option StepFault
use_fault s =
    or_else (lost_fault s)
    (or_else (kept_join_fault s One)
    (kept_join_fault s Two))

-- the first failing condition of a restrict step, in the order of the variants
unfoldable pub restrict_fault : RawRestrict → Option StepFault
restrict_fault s =
    or_else (sorting_fault s) (use_fault s)

-- what the tests of trees stand on: each fine tile is either kept or lost
pub record IsSorted (s : RawRestrict) : Type 0 where
  pub radius : s.radius ≤ 4
  pub fine : set_fault s.fine ≡ None
  pub coarse : set_fault s.coarse ≡ None
  pub kept : kept_fit s ≡ true
  pub lost : lost_fit s ≡ true
  pub sorted : (t : ℕ) → t < length s.fine.tiles → is_lost s t ≡ not (is_kept s t)
