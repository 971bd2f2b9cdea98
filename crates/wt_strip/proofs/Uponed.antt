-- Missing rows upon listed rows.
use Rattle.std.proofs.Common.{arith, ◌≡◌, ℕ, zero, suc, ◌<◌, List, length, slice_index, refl, ap, ◌∙◌}
use Rattle.wt_tile.specs.declared.tile.Tile.{Tile}
use Rattle.wt_grid.specs.declared.axis.Axis.TheVariants.{Two}
use Rattle.wt_tile.specs.Matching.{matches}
use Rattle.wt_strip.specs.Layers.{IsRow, IsUnder}
use Rattle.wt_strip.specs.Listed.{rows_in, row_at, IsListed, IsUpon}
use Rattle.wt_strip.specs.Walks.{is_allowed, IsWay}
use Rattle.wt_strip.specs.Exact.{HasMissing}
use Rattle.wt_strip.proofs.Walked.{row_of_way, under_of_way, way_upon}

-- the columns allow what may stand upon row p
abbrev pub IsTableOf : List Tile → List ℕ → List (List ℕ) → Type 0
IsTableOf ts p allowed = (x t : ℕ) → x < length p → t < length ts → is_allowed allowed x t ≡ matches ts Two (slice_index p x) t

pub table_of : (ts : List Tile) (w : ℕ) (p row : List ℕ) (allowed : List (List ℕ)) → row ≡ p → length row ≡ w → IsTableOf ts row allowed
    → (x t : ℕ) → x < w → t < length ts → is_allowed allowed x t ≡ matches ts Two (slice_index p x) t
table_of ts w p row allowed e long table x t lx lt = table x t (omega (arith, long)) lt ∙ ap (λ (r : List ℕ). matches ts Two (slice_index r x) t) e

pub missing_upon : (ts : List Tile) (w n : ℕ) (below cells : List ℕ) (r : ℕ) (row : List ℕ) (allowed : List (List ℕ)) → (n ≡ 0 → ⊥) → r < rows_in w below → row ≡ row_at w below r → length row ≡ w → IsTableOf ts row allowed
    → ((q : List ℕ) × (length q ≡ w) × IsWay ts allowed w q × (IsListed w cells q → ⊥)) → HasMissing (IsUpon ts w n below) w cells
missing_upon ts w zero below cells r row allowed some lt e long table m = absurd (some refl)
missing_upon ts w (suc n) below cells r row allowed some lt e long table m =
    (m.0, (row_of_way ts allowed w m.0 m.1 m.2, (r, lt, under_of_way ts allowed w (row_at w below r) m.0 (table_of ts w (row_at w below r) row allowed e long table) m.2)), m.3)

pub whole_upon : (ts : List Tile) (w : ℕ) (below cells : List ℕ) (r : ℕ) (row : List ℕ) (allowed : List (List ℕ)) → row ≡ row_at w below r → length row ≡ w → IsTableOf ts row allowed
    → ((q : List ℕ) → length q ≡ w → IsWay ts allowed w q → IsListed w cells q) → (q : List ℕ) → IsRow ts w q → IsUnder ts w (row_at w below r) q → IsListed w cells q
whole_upon ts w below cells r row allowed e long table none q valid under =
    none q valid.long (way_upon ts allowed w (row_at w below r) q (table_of ts w (row_at w below r) row allowed e long table) valid under)

pub whole_rows : (ts : List Tile) (w n : ℕ) (below cells : List ℕ) → (n ≡ 0 → ⊥) → ((r : ℕ) → r < rows_in w below → (q : List ℕ) → IsRow ts w q → IsUnder ts w (row_at w below r) q → IsListed w cells q)
    → (q : List ℕ) → IsUpon ts w n below q → IsListed w cells q
whole_rows ts w zero below cells some h q upon = absurd (some refl)
whole_rows ts w (suc n) below cells some h q upon = h upon.1.0 upon.1.1 q upon.0 upon.1.2
