-- Pairs that have no window.
use Rattle.std.proofs.Common.{◌≡◌, ℕ, Bool, true, not, List, length}
use Rattle.std.specs.List.{All}
use Rattle.std.proofs.lemmas.Bool.{and_parts, not-true}
use Rattle.wt_grid.specs.declared.axis.Axis.{Axis}
use Rattle.wt_tile.specs.declared.tile.Tile.{Tile}
use Rattle.wt_tile.specs.Matching.{matches}
use Rattle.wt_pattern.specs.Windows.{IsEmptyWindow}
use Rattle.wt_window.specs.Surrounded.{Tells}
use Rattle.wt_marker.specs.Derived.{Plan, IsPlan, dominoes, is_refuted, refuted_pairs, IsRefutable}
use Rattle.wt_window.proofs.Outcomes.{empty_or_not}
use Rattle.wt_marker.proofs.Truth.{not_both}
use Rattle.wt_marker.proofs.Listed.{Each, each_imp, each_at}
use Rattle.wt_marker.proofs.Pairs.{Listed, each_listed}

-- a pair for which a table says no
pub unsaid : (ts : List Tile) (axis : Axis) (r : ℕ) (f : ℕ → ℕ → Bool) → Tells ts axis r f → (a b : ℕ) → not (f a b) ≡ true → IsEmptyWindow ts axis a b r
unsaid ts axis r f h a b e = (empty_or_not ts axis a b r).1 (λ s. not_both (f a b) ((h a b).1 s) (not-true (f a b) e))

pub refutable : (ts : List Tile) (axis : Axis) (r : ℕ) (f : ℕ → ℕ → Bool) → Tells ts axis r f → All (IsRefutable ts axis r) (refuted_pairs ts axis f)
refutable ts axis r f h k d lt = each_at (IsRefutable ts axis r) (refuted_pairs ts axis f) k d
    (each_imp (Listed (is_refuted ts axis f) (length ts)) (IsRefutable ts axis r) (refuted_pairs ts axis f) (λ q l.
    let g = and_parts (matches ts axis q.0 q.1) (not (f q.0 q.1)) l.passes in
    record { first = l.first; second = l.second; fits = g.0; empty = unsaid ts axis r f h q.0 q.1 g.1 })
    (each_listed (is_refuted ts axis f) (length ts))) lt

pub refutable_in : (p : Plan) → IsPlan p → (axis : Axis) → All (IsRefutable p.fine.tiles axis p.radius) (refuted_pairs p.fine.tiles axis (dominoes p axis))
refutable_in p h axis = refutable p.fine.tiles axis p.radius (dominoes p axis) (h.tells axis)
