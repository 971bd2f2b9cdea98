-- What callers need: a class that was listed makes a plan.
use Rattle.std.proofs.Common.{arith, ℕ, ◌<◌, Bool, List, length, map, get_or, Contains}
use Rattle.wt_grid.specs.Axes.{other}
use Rattle.wt_grid.specs.declared.axis.Side.{Side}
use Rattle.wt_grid.specs.declared.axis.Axis.TheVariants.{One, Two}
use Rattle.wt_grid.specs.declared.axis.Axis.{Axis}
use Rattle.wt_tile.specs.declared.tile.TileList.{TileList}
use Rattle.wt_window.specs.Surrounded.{Tells, on}
use Rattle.wt_marker.specs.Classes.{kept_classes}
use Rattle.wt_marker.specs.Derived.{plan, IsPlan}
use Rattle.wt_marker.proofs.Joins.{map_at, length_mapped}
use Rattle.wt_marker.proofs.KeptClasses.{kept_exactly}

by_axis : (P : Axis → Type 0) → P One → P Two → (axis : Axis) → P axis
by_axis P o t One = o
by_axis P o t Two = t

-- an element is listed among all, as code keeps them
pub contains_mapped : {A B : Type 0} (f : A → B) (xs : List A) (i : ℕ) (d : A) → i < length xs → Contains (map f xs) (f (get_or xs i d))
contains_mapped f xs i d lt = (i, (let n = length_mapped f xs in omega (arith, n, lt)), map_at f xs i d (f (get_or xs i d)) lt)

pub listed_plan : (fine : TileList) (axis : Axis) (side : Side) (radius : ℕ) (c : List ℕ) (one two : ℕ → ℕ → Bool) → Tells fine.tiles One radius one → Tells fine.tiles Two radius two
    → Contains (kept_classes (length fine.tiles) (on (other axis) one two) (on axis one two)) c → IsPlan (plan fine axis side radius c one two)
listed_plan fine axis side radius c one two t u h = record {
  tells = by_axis (λ x. Tells fine.tiles x radius (on x one two)) t u;
  kept = (kept_exactly (length fine.tiles) (on (other axis) one two) (on axis one two) c).0 h;
}
