-- What a search of the sizes up to a limit may answer, from what it found.
use Rattle.std.proofs.Common.{arith, ◌≡◌, ℕ, ◌<◌, ◌≤◌, List, [], inl, inr, refl, subst}
use Rattle.std.specs.Prelude.{None, Some, Ok, Err}
use Rattle.wt_tile.specs.declared.tile.Tile.{Tile}
use Rattle.wt_grid.specs.Grid.{Grid}
use Rattle.wt_window.specs.Trials.{cells}
use Rattle.wt_window.proofs.Sums.{summed}
use Rattle.wt_window.proofs.Searched.{trials_some}
use Rattle.wt_periodic.specs.Fillings.{open_window}
use Rattle.wt_periodic.specs.Least.{IsEarlier, HasNone, IsLeastWrap, IsSpentAt, MayAnswerWrap}
use Rattle.wt_periodic.specs.declared.least.WrapEnd.TheVariants.{Spent}
use Rattle.wt_periodic.proofs.Sizes.{some_cells}

none_earlier : (m n : ℕ) → 1 ≤ m → 1 ≤ n → IsEarlier m n 1 1 → ⊥
none_earlier m n wide high (inl lt) = let some = some_cells m n wide high in absurd (omega (arith, some, lt))
none_earlier m n wide high (inr same) = absurd (omega (arith, wide, same.1))

pub spent_at_zero : (ts : List Tile) (limit budget : ℕ) → 1 ≤ limit → budget ≡ 0 → IsSpentAt ts limit budget 1 1
spent_at_zero ts limit budget low zero = record {
  size = record { wide = omega arith; high = omega arith; low_width = low; low_height = low };
  first = λ m n s e. absurd (none_earlier m n s.wide s.high e);
  over =
      let some = subst (λ (n : ℕ). 0 < n) (summed ts (open_window 1 1)) (trials_some ts (open_window 1 1) (cells (open_window 1 1)) []) in
      omega (arith, zero, some);
  at_zero = λ e. (refl, refl);
}

pub answers_spent : (ts ts' : List Tile) (limit budget w h : ℕ) → ts ≡ ts' → IsSpentAt ts limit budget w h → MayAnswerWrap ts' limit budget (Err (Spent w h))
answers_spent ts ts' limit budget w h e s = inr (w, h, refl, subst (λ (l : List Tile). IsSpentAt l limit budget w h) e s)

pub answers_zero : (ts : List Tile) (limit budget : ℕ) → 1 ≤ limit → budget ≡ 0 → MayAnswerWrap ts limit budget (Err (Spent 1 1))
answers_zero ts limit budget low zero = answers_spent ts ts limit budget 1 1 refl (spent_at_zero ts limit budget low zero)

pub answers_none : (ts ts' : List Tile) (limit budget : ℕ) → ts ≡ ts' → 0 < budget → HasNone ts limit → MayAnswerWrap ts' limit budget (Ok None)
answers_none ts ts' limit budget e some none = (subst (λ (l : List Tile). HasNone l limit) e none, some)

pub answers_wrap : (ts ts' : List Tile) (limit budget : ℕ) (g : Grid) → ts ≡ ts' → 0 < budget → IsLeastWrap ts limit g → MayAnswerWrap ts' limit budget (Ok (Some g))
answers_wrap ts ts' limit budget g e some p = (subst (λ (l : List Tile). IsLeastWrap l limit g) e p, some)
