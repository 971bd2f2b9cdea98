-- A row is laid from a row several levels up, word by word.
use Rattle.std.proofs.Common.{arith, ◌≡◌, ◌≤◌, ◌<◌, ◌+◌, ◌++◌, ℕ, zero, suc, Bool, true, false, List, [], ◌∷◌, length, take, map, get_or, refl, sym, ◌∙◌, ap}
use Rattle.wt_grid.specs.declared.image.Image.{Image}
use Rattle.wt_grid.specs.declared.axis.Axis.TheVariants.{One, Two}
use Rattle.wt_grid.specs.declared.axis.Axis.{Axis}
use Rattle.std.specs.List.{flat_map}
use Rattle.std.proofs.lemmas.List.{take_all, length-take}
use Rattle.wt_grid.specs.Traces.{piece_tiles}
use Rattle.wt_chain.specs.Turns.{axis_of}
use Rattle.wt_expand.specs.Levels.{Level, rows_below}
use Rattle.wt_expand.specs.Rows.{Digit, bit, AreDigits}
use Rattle.wt_expand.specs.LaidRows.{has_two}
use Rattle.wt_expand.specs.Blocks.{piece_under, tile_of}
use Rattle.wt_expand.specs.Words.{laid_piece, word, words, row_at}
use Rattle.wt_expand.proofs.Cut.{cut_tiles, count_below}
use Rattle.wt_expand.proofs.Named.{row_along, row_across}
use Rattle.wt_expand.proofs.Tiles.{flat_append}

as_first : (a : Axis) (upper : Bool) (f : ℕ → Image) (row : List ℕ) → a ≡ One → flat_map (λ t. piece_tiles (f t)) row ≡ flat_map (λ t. piece_tiles (laid_piece a upper (f t))) row
as_first One upper f row e = refl
as_first Two upper f row e = absurd cc

ends : (upper : Bool) (f : ℕ → Image) (row : List ℕ) → map (λ t. tile_of upper (f t)) row ≡ flat_map (λ t. piece_tiles (laid_piece Two upper (f t))) row
ends upper f [] = refl
ends upper f (t ∷ ts) = ap (λ (xs : List ℕ). tile_of upper (f t) ∷ xs) (ends upper f ts)

as_second : (a : Axis) (upper : Bool) (f : ℕ → Image) (row : List ℕ) → a ≡ Two → map (λ t. tile_of upper (f t)) row ≡ flat_map (λ t. piece_tiles (laid_piece a upper (f t))) row
as_second One upper f row e = absurd cc
as_second Two upper f row e = ends upper f row

pub flat_flat : (g f : ℕ → List ℕ) (xs : List ℕ) → flat_map g (flat_map f xs) ≡ flat_map (λ x. flat_map g (f x)) xs
flat_flat g f [] = refl
flat_flat g f (x ∷ xs) = flat_append g (f x) (flat_map f xs) ∙ ap (λ (ys : List ℕ). flat_map g (f x) ++ ys) (flat_flat g f xs)

pub one_each : (row : List ℕ) → flat_map (λ t. t ∷ []) row ≡ row
one_each [] = refl
one_each (t ∷ ts) = ap (λ (xs : List ℕ). t ∷ xs) (one_each ts)

has : (u b : Bool) → bit u < bit b + 1 → u ≡ true → b ≡ true
has u true lt e = refl
has true false lt e = absurd (omega (arith, lt))
has false false lt e = absurd cc

module _ (w : ℕ) (some : 1 ≤ w) (renaming : List ℕ) where
  -- a row is laid of the row above, word by word
  row_words : (level : Level) (row : List ℕ) (upper : Bool) → (upper ≡ true → has_two renaming level row ≡ true) → get_or (rows_below renaming level row) (bit upper) [] ≡ flat_map (word renaming level upper) row
  row_words level row upper inside = by (axis_of level.link) refl
    where
      by : (a : Axis) → axis_of level.link ≡ a → get_or (rows_below renaming level row) (bit upper) [] ≡ flat_map (word renaming level upper) row
      by One e = row_along renaming level row upper e inside ∙ as_first (axis_of level.link) upper (piece_under renaming level) row e
      by Two e = row_across renaming level row upper e inside ∙ as_second (axis_of level.link) upper (piece_under renaming level) row e

  pub few_cells : (levels : List Level) (s : Digit) (ss : List Digit) → AreDigits w renaming levels (s ∷ ss) → length s.row ≤ w
  few_cells [] s [] f = let e : length s.row ≡ 1 = ap length f in omega (arith, e, some)
  few_cells [] s (t ∷ ss) f = absurd f
  few_cells (level ∷ levels) s [] f = absurd f
  few_cells (level ∷ levels) s (t ∷ ss) f =
      let cells = get_or (rows_below renaming level t.row) (bit s.is_upper) [] in
      omega (arith, ap length f.0.row, length-take w cells)

  pub worded : (k : ℕ) (levels : List Level) (s : Digit) (ss : List Digit) → AreDigits w renaming levels (s ∷ ss) → k ≤ length levels
      → s.row ≡ take w (flat_map (words renaming (take k levels) (s ∷ ss)) (row_at k (s ∷ ss)))
  worded zero levels s ss f le = sym (ap (take w) (one_each s.row) ∙ take_all w s.row (few_cells levels s ss f))
  worded (suc k) [] s ss f le = absurd (omega arith)
  worded (suc k) (level ∷ levels) s [] f le = absurd f
  worded (suc k) (level ∷ levels) s (t ∷ ss) f le =
      let g = word renaming level s.is_upper in
      let above = flat_map (words renaming (take k levels) (t ∷ ss)) (row_at k (t ∷ ss)) in
      let inside : s.is_upper ≡ true → has_two renaming level t.row ≡ true =
      has s.is_upper (has_two renaming level t.row) (let i = f.0.inside in let n = count_below renaming level t.row in omega (arith, i, n)) in
      f.0.row ∙ ap (take w) (row_words level t.row s.is_upper inside)
      ∙ ap (λ (xs : List ℕ). take w (flat_map g xs)) (worded k levels t ss f.1 (omega (arith, le)))
      ∙ cut_tiles (λ t. laid_piece (axis_of level.link) s.is_upper (piece_under renaming level t)) w above
      ∙ ap (take w) (flat_flat g (words renaming (take k levels) (t ∷ ss)) (row_at k (t ∷ ss)))
