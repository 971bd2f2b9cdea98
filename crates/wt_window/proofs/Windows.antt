-- Fillings of all cells of a window are the valid windows of its pair.
use Rattle.std.proofs.Common.{arith, ◌≡◌, ◌↔◌, ℕ, suc, ◌+◌, ◌*◌, ◌/◌, ◌%◌, ◌<◌, ◌≤◌, List, [], ◌∷◌, length, get_or, refl, sym, ◌∙◌, inl, inr, subst}
use Rattle.wt_tile.specs.Matching.{matches}
use Rattle.wt_grid.specs.declared.axis.Axis.TheVariants.{One, Two}
use Rattle.wt_grid.specs.declared.axis.Axis.{Axis}
use Rattle.std.proofs.lemmas.Bool.{cases_lt}
use Rattle.std.proofs.lemmas.Nat.{mul-add-lt, div-add-mod'}
use Rattle.std.proofs.Math.Nat.{mod-lt, mul-le-mul_left}
use Rattle.wt_tile.specs.declared.tile.Tile.{Tile}
use Rattle.wt_grid.specs.Grid.{Grid, IsGrid}
use Rattle.wt_grid.specs.Parts.{AllBelow, IsValid, IsWindow}
use Rattle.wt_pattern.specs.Windows.{IsEmptyWindow, IsSurroundable}
use Rattle.wt_window.specs.Trials.{Window, IsFilling, window, cells, fillings}
use Rattle.wt_window.proofs.Members.{In}
use Rattle.wt_window.proofs.Listed.{listed, listing, is_wide}

pub row_below : (w h x y : ℕ) → y * w + x < w * h → y < h
row_below w h x y lt = elim (cases_lt y h) [ inl l ↦ l | inr ge ↦ absurd (let m = mul-le-mul_left w ge in omega (arith, m, lt)) ]

below_at : (n : ℕ) (g : Grid) (k x y : ℕ) → AllBelow n g → x < g.width → k < g.width * g.height → k ≡ y * g.width + x → get_or g.cells k 0 < n
below_at n g k x y b lx lk e = rw e (b x y lx (row_below g.width g.height x y (omega (arith, e, lk))))

-- The rectangle's cells fill a window of its sides, where they are valid and the pair stands in its cells.
filled : (ts : List Tile) (w : Window) (g : Grid) → 1 ≤ g.width → g.width ≡ w.width → g.height ≡ w.height → length g.cells ≡ g.width * g.height → AllBelow (length ts) g → IsValid (matches ts) g
    → get_or g.cells w.first 0 ≡ w.a → get_or g.cells w.second 0 ≡ w.b → IsFilling ts w (cells w) g.cells
filled ts w g wide ew eh size b v first second = record {
  size = size ∙ rw (ew, eh) refl;
  tiles = λ k lk.
      let l : k < g.width * g.height = rw (ew, eh) lk in
      below_at (length ts) g k (k % g.width) (k / g.width) b (mod-lt k wide) l (sym (div-add-mod' k g.width));
  right = λ x y lx lk.
      let l : y * g.width + suc x < g.width * g.height = rw (ew, eh) lk in
      let m : suc x < g.width = rw ew lx in
      rw (sym ew) (v One x y m (row_below g.width g.height (suc x) y l));
  above = λ x y lx lk.
      let l : suc y * g.width + x < g.width * g.height = rw (ew, eh) lk in
      let m : x < g.width = rw ew lx in
      rw (sym ew) (v Two y x (row_below g.width g.height x (suc y) l) m);
  first = λ lk. first;
  second = λ lk. second;
}

-- and back

tiles_below : (ts : List Tile) (w : Window) (g : Grid) → g.width ≡ w.width → g.height ≡ w.height → IsFilling ts w (cells w) g.cells → AllBelow (length ts) g
tiles_below ts w g ew eh p x y lx ly =
    let mx : x < w.width = rw (sym ew) lx in
    let my : y < w.height = rw (sym eh) ly in
    rw ew (p.tiles (y * w.width + x) (mul-add-lt y w.width x w.height my mx))

neighbours : (ts : List Tile) (w : Window) (g : Grid) → g.width ≡ w.width → g.height ≡ w.height → IsFilling ts w (cells w) g.cells → IsValid (matches ts) g
neighbours ts w g ew eh p One x y lx ly =
    let mx : suc x < w.width = rw (sym ew) lx in
    let my : y < w.height = rw (sym eh) ly in
    rw ew (p.right x y mx (mul-add-lt y w.width (suc x) w.height my mx))
neighbours ts w g ew eh p Two y x ly lx =
    let mx : x < w.width = rw (sym ew) lx in
    let my : suc y < w.height = rw (sym eh) ly in
    rw ew (p.above x y mx (mul-add-lt (suc y) w.width x w.height my mx))

grid_whole : (ts : List Tile) (w : Window) (g : Grid) → g.width ≡ w.width → g.height ≡ w.height → 1 ≤ w.width → 1 ≤ w.height → IsFilling ts w (cells w) g.cells → IsGrid g
grid_whole ts w g ew eh lw lh p = record { wide = rw ew lw; high = rw eh lh; whole = rw (ew, eh) p.size }

to_filling : (ts : List Tile) (axis : Axis) (a b r : ℕ) (g : Grid) → IsWindow (length ts) (matches ts) axis a b r g
    → (g.width ≡ (window axis a b r).width) × (g.height ≡ (window axis a b r).height) × IsFilling ts (window axis a b r) (cells (window axis a b r)) g.cells
to_filling ts One a b r g p = (p.long, p.wide, filled ts (window One a b r) g p.grid.wide p.long p.wide p.grid.whole p.tiles p.valid (rw (sym p.long) p.first) (rw (sym p.long) p.second))
to_filling ts Two a b r g p = (p.wide, p.long, filled ts (window Two a b r) g p.grid.wide p.wide p.long p.grid.whole p.tiles p.valid (rw (sym p.wide) p.first) (rw (sym p.wide) p.second))

from_filling : (ts : List Tile) (axis : Axis) (a b r : ℕ) (g : Grid) → g.width ≡ (window axis a b r).width → g.height ≡ (window axis a b r).height
    → IsFilling ts (window axis a b r) (cells (window axis a b r)) g.cells → IsWindow (length ts) (matches ts) axis a b r g
from_filling ts One a b r g ew eh p = record {
  grid = grid_whole ts (window One a b r) g ew eh (omega arith) (omega arith) p;
  long = ew;
  wide = eh;
  tiles = tiles_below ts (window One a b r) g ew eh p;
  valid = neighbours ts (window One a b r) g ew eh p;
  first = rw ew (p.first (mul-add-lt r (r + r + 2) r (r + r + 1) (omega arith) (omega arith)));
  second = rw ew (p.second (mul-add-lt r (r + r + 2) (suc r) (r + r + 1) (omega arith) (omega arith)));
}
from_filling ts Two a b r g ew eh p = record {
  grid = grid_whole ts (window Two a b r) g ew eh (omega arith) (omega arith) p;
  long = eh;
  wide = ew;
  tiles = tiles_below ts (window Two a b r) g ew eh p;
  valid = neighbours ts (window Two a b r) g ew eh p;
  first = rw ew (p.first (mul-add-lt r (r + r + 1) r (r + r + 2) (omega arith) (omega arith)));
  second = rw ew (p.second (mul-add-lt (suc r) (r + r + 1) r (r + r + 2) (omega arith) (omega arith)));
}

pub whole_windows : (ts : List Tile) (axis : Axis) (a b r : ℕ) (g : Grid) → IsWindow (length ts) (matches ts) axis a b r g
    ↔ ((g.width ≡ (window axis a b r).width) × (g.height ≡ (window axis a b r).height) × IsFilling ts (window axis a b r) (cells (window axis a b r)) g.cells)
whole_windows ts axis a b r g = (to_filling ts axis a b r g, λ h. from_filling ts axis a b r g h.0 h.1 h.2)

nothing_in : {A : Type 0} (xs : List A) → ((x : A) → In xs x → ⊥) → xs ≡ []
nothing_in [] h = refl
nothing_in (x ∷ xs) h = absurd (h x (inl refl))

none_left : (ts : List Tile) (axis : Axis) (a b r : ℕ) → fillings ts (window axis a b r) (cells (window axis a b r)) ≡ [] → IsEmptyWindow ts axis a b r
none_left ts axis a b r e g p =
    let there : In (fillings ts (window axis a b r) (cells (window axis a b r))) g.cells = listing ts (window axis a b r) (cells (window axis a b r)) g.cells (is_wide axis a b r) (to_filling ts axis a b r g p).2 in
    subst (λ (fs : List (List ℕ)). In fs g.cells) e there

pub empty_windows : (ts : List Tile) (axis : Axis) (a b r : ℕ) → (fillings ts (window axis a b r) (cells (window axis a b r)) ≡ []) ↔ IsEmptyWindow ts axis a b r
empty_windows ts axis a b r = (
  none_left ts axis a b r,
  λ h. nothing_in (fillings ts (window axis a b r) (cells (window axis a b r))) (λ f k.
      let g : Grid = record { width = (window axis a b r).width; height = (window axis a b r).height; cells = f } in
      h g (from_filling ts axis a b r g refl refl (listed ts (window axis a b r) (cells (window axis a b r)) f k))),
)

-- a window that is filled as listed is a window of the pair
pub filled_window : (ts : List Tile) (axis : Axis) (a b r : ℕ) (f : List ℕ) (fs : List (List ℕ)) → fillings ts (window axis a b r) (cells (window axis a b r)) ≡ f ∷ fs → IsSurroundable ts axis a b r
filled_window ts axis a b r f fs e =
    let g : Grid = record { width = (window axis a b r).width; height = (window axis a b r).height; cells = f } in
    let there : In (fillings ts (window axis a b r) (cells (window axis a b r))) f = subst (λ (l : List (List ℕ)). In l f) (sym e) (inl refl) in
    (g, from_filling ts axis a b r g refl refl (listed ts (window axis a b r) (cells (window axis a b r)) f there))
