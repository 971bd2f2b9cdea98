-- The cut lines of a field have exactly one coarse field, for both sides.
use Rattle.std.proofs.Common.{arith, ◌≡◌, ◌≤◌, ◌+◌, ℕ, List, [], ◌∷◌, ◌++◌, length, map, Option, Some, None, option_map, slice_get, Bool, true, false, refl, sym, ◌∙◌, ap, subst}
use Rattle.wt_grid.specs.declared.image.Image.TheVariants.{One as Single, Two as Double}
use Rattle.wt_grid.specs.declared.image.Image.{Image}
use Rattle.wt_grid.specs.declared.axis.Side.TheVariants.{After, Before}
use Rattle.wt_grid.specs.declared.axis.Side.{Side}
use Rattle.wt_grid.specs.declared.axis.Axis.{Axis}
use Rattle.std.proofs.lemmas.Option.{slice_get-map}
use Rattle.wt_grid.specs.Lines.{IsGood, IsField, IsImage, AllFilled, is_marker_line, cut_end}
use Rattle.wt_grid.specs.Grid.{Grid, IsGrid, lines}
use Rattle.wt_grid.proofs.Desub.{one_parse}
use Rattle.wt_grid.specs.Cuts.{backwards, opposite, cut_front, cut_lines, cut, flip, step_table}
use Rattle.wt_grid.proofs.Cut.{parse_cut, filled_cut, field_cut, length_cut}
use Rattle.wt_grid.proofs.Backwards.{backwards_twice, length-backwards, field_backwards, filled_backwards, AreOpposite, image_backwards}
use Rattle.wt_grid.specs.Grid.{of_lines}
use Rattle.wt_grid.specs.Lines.{AllLong}
use Rattle.wt_grid.proofs.Grids.{long_coarse, lines_of, grid_of_lines}

from_map : (o : Option Image) (p : Image) → o ≡ Some p → option_map flip o ≡ Some (flip p)
from_map o p e = rw e refl

pub flipped : (im : List Image) → AreOpposite im (map flip im)
flipped im = record {
  ones = λ i a e. slice_get-map flip im i ∙ from_map (slice_get im i) (Single a) e;
  twos = λ i a b e. slice_get-map flip im i ∙ from_map (slice_get im i) (Double a b) e;
}

back_one : (o : Option Image) (a : ℕ) → option_map flip o ≡ Some (Single a) → o ≡ Some (Single a)
back_one None a e = absurd cc
back_one (Some (Single x)) a e = e
back_one (Some (Double x y)) a e = absurd cc

back_two : (o : Option Image) (a b : ℕ) → option_map flip o ≡ Some (Double a b) → o ≡ Some (Double b a)
back_two None a b e = absurd cc
back_two (Some (Single x)) a b e = absurd cc
back_two (Some (Double x y)) a b e = let f : Some (Double y x) ≡ Some (Double a b) = e in cc

pub unflipped : (im : List Image) → AreOpposite (map flip im) im
unflipped im = record {
  ones = λ i a e. back_one (slice_get im i) a (sym (slice_get-map flip im i) ∙ e);
  twos = λ i a b e. back_two (slice_get im i) a b (sym (slice_get-map flip im i) ∙ e);
}

pub some_coarse : (side : Side) (al ac : ℕ → ℕ → Bool) (marker : ℕ → Bool) (im : List Image) → IsGood (step_table side al ac marker im)
    → (ls : List (List ℕ)) → AllFilled ls → IsField al ac ls → (qs : List (List ℕ)) × IsImage im qs (cut side marker ls)
some_coarse After al ac marker im good ls n f = parse_cut (step_table After al ac marker im) good ls n f
some_coarse Before al ac marker im good ls n f =
    let r = parse_cut (step_table Before al ac marker im) good (backwards ls) (filled_backwards ls n) (field_backwards al ac ls f) in
    (backwards r.0, image_backwards (map flip im) im (unflipped im) r.0 (cut_lines marker (backwards ls)) r.1)

pub one_coarse : (side : Side) (al ac : ℕ → ℕ → Bool) (marker : ℕ → Bool) (im : List Image) → IsGood (step_table side al ac marker im)
    → (ls qs rs : List (List ℕ)) → AllFilled ls → IsImage im qs (cut side marker ls) → IsImage im rs (cut side marker ls) → qs ≡ rs
one_coarse After al ac marker im good ls qs rs n i j = one_parse (step_table After al ac marker im) good (cut_lines marker ls) qs rs (filled_cut marker ls n) i j
one_coarse Before al ac marker im good ls qs rs n i j =
    let L = cut_lines marker (backwards ls) in
    let P : List (List ℕ) → List (List ℕ) → Type 0 = λ xs ys. IsImage (map flip im) xs ys in
    let i' = subst (P (backwards qs)) (backwards_twice L) (image_backwards im (map flip im) (flipped im) qs (backwards L) i) in
    let j' = subst (P (backwards rs)) (backwards_twice L) (image_backwards im (map flip im) (flipped im) rs (backwards L) j) in
    let e = one_parse (step_table Before al ac marker im) good L (backwards qs) (backwards rs) (filled_cut marker (backwards ls) (filled_backwards ls n)) i' j' in
    sym (backwards_twice qs) ∙ (ap backwards e ∙ backwards_twice rs)

pub cut_field : (side : Side) (f g : ℕ → ℕ → Bool) (marker : ℕ → Bool) (ls : List (List ℕ)) → IsField f g ls → IsField f g (cut side marker ls)
cut_field After f g marker ls h = field_cut f g marker ls h
cut_field Before f g marker ls h = field_backwards (opposite f) g (cut_lines marker (backwards ls)) (field_cut (opposite f) g marker (backwards ls) (field_backwards f g ls h))

pub cut_length : (side : Side) (marker : ℕ → Bool) (ls : List (List ℕ)) → length ls ≤ length (cut side marker ls) + 2
cut_length After marker ls = length_cut marker ls
cut_length Before marker ls =
    let a = length_cut marker (backwards ls) in
    let b = length-backwards ls in
    let c = length-backwards (cut_lines marker (backwards ls)) in omega arith

-- Lines of one length, cut.
pub long_more : (m : ℕ) (ls : List (List ℕ)) (u : List ℕ) → AllLong m ls → length u ≡ m → AllLong m (ls ++ u ∷ [])
long_more m [] u h e = (e, tt)
long_more m (v ∷ ls) u h e = (h.0, long_more m ls u h.1 e)

pub long_backwards : (m : ℕ) (ls : List (List ℕ)) → AllLong m ls → AllLong m (backwards ls)
long_backwards m [] h = tt
long_backwards m (u ∷ ls) h = long_more m (backwards ls) u (long_backwards m ls h.1) h.0

pub long_front : (m : ℕ) (marker : ℕ → Bool) (ls : List (List ℕ)) → AllLong m ls → AllLong m (cut_front marker ls)
long_front m marker [] h = tt
long_front m marker (u ∷ ls) h = at_first (is_marker_line marker u) refl
  where
    at_first : (b : Bool) → is_marker_line marker u ≡ b → AllLong m (cut_front marker (u ∷ ls))
    at_first true e = rw e h.1
    at_first false e = rw e h

long_end : (m : ℕ) (marker : ℕ → Bool) (ls : List (List ℕ)) → AllLong m ls → AllLong m (cut_end marker ls)
long_end m marker [] h = tt
long_end m marker (u ∷ []) h = at_last (is_marker_line marker u) refl
  where
    at_last : (b : Bool) → is_marker_line marker u ≡ b → AllLong m (cut_end marker (u ∷ []))
    at_last true e = rw e h
    at_last false e = rw e tt
long_end m marker (u ∷ v ∷ ls) h = (h.0, long_end m marker (v ∷ ls) h.1)

long_cut : (m : ℕ) (marker : ℕ → Bool) (ls : List (List ℕ)) → AllLong m ls → AllLong m (cut_lines marker ls)
long_cut m marker ls h = long_end m marker (cut_front marker ls) (long_front m marker ls h)

pub cut_long : (side : Side) (m : ℕ) (marker : ℕ → Bool) (ls : List (List ℕ)) → AllLong m ls → AllLong m (cut side marker ls)
cut_long After m marker ls h = long_cut m marker ls h
cut_long Before m marker ls h = long_backwards m (cut_lines marker (backwards ls)) (long_cut m marker (backwards ls) (long_backwards m ls h))

some_line : (im : List Image) (qs ls : List (List ℕ)) → IsImage im qs ls → 1 ≤ length ls → 1 ≤ length qs
some_line im [] [] i le = absurd (omega arith)
some_line im [] (u ∷ ls) i le = absurd i
some_line im (q ∷ qs) ls i le = omega arith

-- Coarse lines of one length are a rectangle.
pub coarse_grid : (axis : Axis) (im : List Image) (m : ℕ) (qs ls : List (List ℕ)) → 1 ≤ m → 1 ≤ length ls → AllLong m ls → IsImage im qs ls
    → (q : Grid) × IsGrid q × (lines axis q ≡ qs)
coarse_grid axis im m qs ls lm ll h i =
    let k = long_coarse im m qs ls i h in
    (of_lines axis m qs, grid_of_lines axis m qs lm (some_line im qs ls i ll), lines_of axis m qs k)
