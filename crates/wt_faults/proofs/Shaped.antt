-- The text of a pattern with its width and height, both ways.
use Rattle.std.proofs.Common.{rules, arith, ◌≡◌, ℕ, ◌≤◌, ◌<◌, ◌^◌, Bool, true, false, cond, nat_eq, List, [], ◌∷◌, ◌++◌, Option, Some, None, Result, Ok, refl, sym, ap, ◌∙◌, append_assoc, subst}
use Rattle.std.specs.Prelude.{codes}
use Rattle.std.specs.Fmt.{decimal}
use Rattle.std.proofs.lemmas.Bool.{eqb-false}
use Rattle.std.proofs.lemmas.Bool.Decides.{nat_tests}
use Rattle.wt_grid.specs.Grid.{Grid}
use Rattle.wt_line.specs.declared.faults.What.{What}
use Rattle.wt_line.specs.declared.faults.What.TheVariants.{Width, Height}
use Rattle.wt_line.specs.Limits.{number_from_one}
use Rattle.wt_text.specs.Words.{number}
use Rattle.wt_text.specs.Lines.{Line, lines, bytes_of}
use Rattle.wt_text.specs.Readers.{◌then◌, within, TextFault, part_by, whole_text}
use Rattle.wt_text.specs.Spellings.{number_spelling, line_spelling}
use Rattle.wt_text.proofs.Numbers.{number_found, number_again, decimal_clean}
use Rattle.wt_text.proofs.Formats.{IsFormat, IsLine, bind_some, read_is, within_ok, within_again, behind_format, both_format, whole_line}
use Rattle.wt_text.proofs.Texts.{IsPart, IsWhole, then_ok, ok_pair, clean_lines, line_part, text_whole}
use Rattle.wt_text.proofs.Seen.{seen_part}
use Rattle.wt_pattern.specs.PatternRows.{pattern_rows, shape_form, only_rows, pattern_part, rows_below, cells_spelling, pattern_lines}
use Rattle.std.specs.List.{flat_map}
use Rattle.wt_pattern.proofs.PatternTexts.{GridFits, grid_law, grid_spelled, grid_read}
use Rattle.wt_faults.specs.Inputs.{shape_tokens, shaped_lines, HasShapedText}

other : (n : ℕ) → 1 ≤ n → nat_eq n 0 ≡ false
other n le = grind (arith, nat_tests)

from_one_format : (most : ℕ) (what : What) → most < 2 ^ 64 → IsFormat (number_from_one most what) number_spelling (λ n. (1 ≤ n) × (n ≤ most))
from_one_format most what small = record {
  found = found;
  again = λ n rest fits. let le : n ≤ most = fits.1 in rw (number_again n (omega (arith, le)), other n fits.0, within_again most what n le) refl;
  clean = λ n fits. let le : n ≤ most = fits.1 in (decimal_clean n (omega (arith, le)), tt);
}
  where
    go : (t : List ℕ) (ts : List (List ℕ)) (n x : ℕ) (rest : List (List ℕ)) (b : Bool) → number t ≡ Some n → nat_eq n 0 ≡ b → ◌≡◌ {A = Option (Result ℕ What × List (List ℕ))} (cond b None (Some (within most what n, ts))) (Some (Ok x, rest))
        → (t ∷ ts ≡ number_spelling x ++ rest) × ((1 ≤ x) × (x ≤ most))
    go t ts n x rest true k h e = absurd cc
    go t ts n x rest false k h e =
        let p = read_is (within most what n) (Ok x) ts rest e in
        let w = within_ok most what n x p.0 in
        let spelled : t ≡ decimal x = number_found t n k (omega (arith, w.0, w.1)) ∙ ap decimal w.0 in
        let left : ts ≡ rest = p.1 in
        let some : 1 ≤ x = omega (arith, eqb-false n 0 h, w.0) in
        (cc, (some, w.1))

    found : (ts : List (List ℕ)) (x : ℕ) (rest : List (List ℕ)) → number_from_one most what ts ≡ Some (Ok x, rest) → (ts ≡ number_spelling x ++ rest) × ((1 ≤ x) × (x ≤ most))
    found [] x rest e = absurd cc
    found (t ∷ ts) x rest e = let n = bind_some (number t) _ (Ok x, rest) e in go t ts n.0 x rest (nat_eq n.0 0) n.1 refl n.2

abbrev pub SidesFit : ℕ × ℕ → Type 0
SidesFit s = ((1 ≤ s.0) × (s.0 ≤ 4096)) × ((1 ≤ s.1) × (s.1 ≤ 4096))

shape_law : IsLine shape_form shape_tokens SidesFit
shape_law = whole_line (λ x. tt) (behind_format (codes "pattern") (search rules) (both_format (from_one_format 4096 Width (omega arith)) (from_one_format 4096 Height (omega arith))))

-- a part that goes by the one before it, where that one fits
next_part_if : {W A B : Type 0} {ra : ℕ × List Line → Result (A × (ℕ × List Line)) (TextFault W)} {sa : A → List Line} {Fa : A → Type 0} {rb : A → ℕ × List Line → Result (B × (ℕ × List Line)) (TextFault W)} {sb : A → B → List Line} {Fb : A → B → Type 0}
    → IsPart ra sa Fa → ((a : A) → Fa a → IsPart (rb a) (sb a) (Fb a)) → IsPart (part_by ra rb) (λ x. sa x.0 ++ sb x.0 x.1) (λ x. Fa x.0 × Fb x.0 x.1)
unfolding part_by
next_part_if {W} {A} {B} {ra} {sa} {Fa} {rb} {sb} {Fb} f g = record {
  found = λ p x q e.
      let a = then_ok (ra p) _ (x, q) e in
      let b = then_ok (rb a.0.0 a.0.1) _ (x, q) a.2 in
      let h = ok_pair (a.0.0, b.0.0) x b.0.1 q b.2 in
      let fa = f.found p a.0.0 a.0.1 a.1 in
      let fb = (g a.0.0 fa.1).found a.0.1 b.0.0 b.0.1 b.1 in
      let P : A × B → Type 0 = λ y. (p.1 ≡ (sa y.0 ++ sb y.0 y.1) ++ q.1) × (Fa y.0 × Fb y.0 y.1) in
      let left : sb a.0.0 b.0.0 ++ b.0.1.1 ≡ sb a.0.0 b.0.0 ++ q.1 = ap (λ (y : ℕ × List Line). sb a.0.0 b.0.0 ++ y.1) h.1 in
      subst P h.0 (fa.0 ∙ ap (λ (r : List Line). sa a.0.0 ++ r) (fb.0 ∙ left) ∙ sym (append_assoc (sa a.0.0) (sb a.0.0 b.0.0) q.1), (fa.1, fb.1));
  again = λ x n rest fits.
      let a = f.again x.0 n (sb x.0 x.1 ++ rest) fits.0 in
      let b = (g x.0 fits.0).again x.1 a.0 rest fits.1 in
      (b.0, rw (append_assoc (sa x.0) (sb x.0 x.1) rest, a.1, b.1) refl);
  clean = λ x fits. clean_lines (sa x.0) (sb x.0 x.1) (f.clean x.0 fits.0) ((g x.0 fits.0).clean x.1 fits.1);
}

-- a rectangle with its width and height in front
abbrev pub with_sides : Grid → (ℕ × ℕ) × Grid
with_sides g = ((g.width, g.height), g)

abbrev pub ShapedFits : (ℕ × ℕ) × Grid → Type 0
ShapedFits x = SidesFit x.0 × GridFits x.0.0 x.0.1 x.1

same_sides : (x : (ℕ × ℕ) × Grid) → ShapedFits x → with_sides x.1 ≡ x
same_sides x fits = ap (λ (g : Grid). ((g.width, g.height), x.1)) (sym fits.1.1)

pub shaped_part : IsPart pattern_part shaped_lines (λ g. ShapedFits (with_sides g) × (g ≡ g))
shaped_part = seen_part only_rows with_sides same_sides (next_part_if (line_part shape_law) (λ s fits. grid_law s.0 s.1 fits.0.0))

grid_whole : (w h : ℕ) → 1 ≤ w → IsWhole (whole_text (pattern_rows w h)) (λ g. flat_map (line_spelling cells_spelling) (rows_below g h)) (GridFits w h)
grid_whole w h le = text_whole (grid_law w h le)

-- what is read of a rectangle is what its text asks for
pub fits_shape : (g : Grid) → ShapedFits (with_sides g) → HasShapedText g
fits_shape g fits =
    let read = (grid_whole g.width g.height fits.0.0.0).again g fits.1 in
    let k = grid_spelled (bytes_of (pattern_lines g)) g.width g.height g fits.0.0.0 fits.0.1.0 read in
    record { shape = record { grid = k.3; wide = fits.0.0.1; high = fits.0.1.1 }; small = k.4 }

pub shape_fits : (g : Grid) → HasShapedText g → ShapedFits (with_sides g)
shape_fits g has =
    let grid = has.shape.grid in
    (((grid.wide, has.shape.wide), (grid.high, has.shape.high)), ((grid_whole g.width g.height grid.wide).found (bytes_of (pattern_lines g)) g (grid_read g grid has.small)).1)

shaped_whole : IsWhole (whole_text pattern_part) shaped_lines (λ g. ShapedFits (with_sides g) × (g ≡ g))
shaped_whole = text_whole shaped_part

pub shaped_spelled : (bytes : List ℕ) (g : Grid) → whole_text pattern_part (lines bytes) ≡ Ok g → (bytes ≡ bytes_of (shaped_lines g)) × HasShapedText g
shaped_spelled bytes g e = let f = shaped_whole.found bytes g e in (f.0, fits_shape g f.1.0)

pub spelled_shaped : (g : Grid) → HasShapedText g → whole_text pattern_part (lines (bytes_of (shaped_lines g))) ≡ Ok g
spelled_shaped g has = shaped_whole.again g (shape_fits g has, refl)
