-- What searches of windows may answer, and pairs that have a window.
use Rattle.std.proofs.Common.{arith, ◌≡◌, ◌↔◌, ℕ, ◌<◌, true, false, List, [], ◌∷◌, length, None, inr, refl, sym, ◌∙◌}
use Rattle.std.specs.Prelude.{Ok, Err}
use Rattle.std.proofs.lemmas.Bool.{ltb-true}
use Rattle.std.proofs.lemmas.Bool.Decides.{nat_tests}
use Rattle.wt_grid.specs.declared.axis.Axis.{Axis}
use Rattle.wt_tile.specs.declared.tile.Tile.{Tile}
use Rattle.wt_tile.specs.Matching.{matches}
use Rattle.wt_pattern.specs.Windows.{IsEmptyWindow, IsSurroundable}
use Rattle.wt_window.specs.declared.window.WindowEnd.TheVariants as window_end
use Rattle.wt_window.specs.Trials.{window, cells, fillings}
use Rattle.wt_window.specs.Surrounded.{surroundable}
use Rattle.wt_window.specs.Outcomes.{MayAnswerWindow}
use Rattle.wt_window.proofs.Windows.{empty_windows, filled_window}
use Rattle.wt_window.proofs.Searched.{trials_some}
use Rattle.wt_window.proofs.Tabled.{no_match}
use Rattle.wt_window.proofs.Found.{surroundable_match}

-- ---- pairs that have a window

pub empty_or_not : (ts : List Tile) (axis : Axis) (a b r : ℕ) → IsEmptyWindow ts axis a b r ↔ (IsSurroundable ts axis a b r → ⊥)
empty_or_not ts axis a b r = (λ empty s. empty s.0 s.1, λ none g p. none (g, p))

pub matched : (ts : List Tile) (axis : Axis) (a b r : ℕ) → IsSurroundable ts axis a b r → (a < length ts) × (b < length ts) × (matches ts axis a b ≡ true)
matched ts axis a b r s = let m = surroundable_match ts axis a b r s in (m.first, m.second, m.fits)

some_filling : (ts : List Tile) (axis : Axis) (a b r : ℕ) → 0 < length (fillings ts (window axis a b r) (cells (window axis a b r))) → IsSurroundable ts axis a b r
some_filling ts axis a b r lt = by (fillings ts (window axis a b r) (cells (window axis a b r))) refl lt
  where
    by : (fs : List (List ℕ)) → fillings ts (window axis a b r) (cells (window axis a b r)) ≡ fs → 0 < length fs → IsSurroundable ts axis a b r
    by [] e lt = absurd (omega (arith, lt))
    by (f ∷ fs) e lt = filled_window ts axis a b r f fs e

no_filling : (ts : List Tile) (axis : Axis) (a b r : ℕ) → IsSurroundable ts axis a b r → 0 < length (fillings ts (window axis a b r) (cells (window axis a b r)))
no_filling ts axis a b r s = by (fillings ts (window axis a b r) (cells (window axis a b r))) refl
  where
    by : (fs : List (List ℕ)) → fillings ts (window axis a b r) (cells (window axis a b r)) ≡ fs → 0 < length fs
    by [] e = absurd ((empty_windows ts axis a b r).0 e s.0 s.1)
    by (f ∷ fs) e = omega arith

pub tested : (ts : List Tile) (axis : Axis) (a b r : ℕ) → (surroundable ts axis r a b ≡ true) ↔ IsSurroundable ts axis a b r
unfolding surroundable
tested ts axis a b r = (
  λ e. some_filling ts axis a b r (ltb-true 0 (length (fillings ts (window axis a b r) (cells (window axis a b r)))) e),
  λ s. let lt = no_filling ts axis a b r s in grind (arith, nat_tests, lt),
)

-- ---- the search of one window

-- tiles that don't match have no window
pub unmatched : (ts : List Tile) (axis : Axis) (a b r budget : ℕ) → matches ts axis a b ≡ false → MayAnswerWindow ts axis a b r budget (Ok None)
unmatched ts axis a b r budget e = (λ g p. no_match ts axis a b r e (g, p), λ m. let both : true ≡ false = sym m ∙ e in cc)

-- tiles that match are spent at budget 0
pub at_zero : (ts : List Tile) (axis : Axis) (a b r budget : ℕ) → matches ts axis a b ≡ true → budget ≡ 0 → MayAnswerWindow ts axis a b r budget (Err window_end.Spent)
at_zero ts axis a b r budget m z = (m, inr (refl, rw z (trials_some ts (window axis a b r) (cells (window axis a b r)) [])))
