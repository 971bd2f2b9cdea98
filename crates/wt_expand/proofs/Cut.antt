-- A row that is kept w cells stands for the rows that the whole row stands for, kept w cells.
use Rattle.std.proofs.Common.{arith, ◌≡◌, ◌≤◌, ◌+◌, ◌++◌, ℕ, zero, suc, Bool, true, false, List, [], ◌∷◌, length, take, map, get_or, refl, sym, ◌∙◌, ap}
use Rattle.wt_grid.specs.declared.image.Image.TheVariants.{One as Single, Two as Double}
use Rattle.wt_grid.specs.declared.image.Image.{Image}
use Rattle.wt_grid.specs.declared.axis.Axis.TheVariants.{One, Two}
use Rattle.wt_grid.specs.declared.axis.Axis.{Axis}
use Rattle.std.specs.List.{flat_map}
use Rattle.std.proofs.lemmas.List.{take-map}
use Rattle.wt_grid.specs.Images.{piece_at, first_tile, last_tile, firsts, lasts, is_double, line_image}
use Rattle.wt_grid.specs.Traces.{piece_tiles}
use Rattle.wt_chain.specs.Growth.{origin}
use Rattle.wt_step.specs.Meaning.{pieces_of}
use Rattle.wt_chain.specs.Turns.{axis_of}
use Rattle.wt_expand.specs.Levels.{Level, named_row, laid_rows, rows_below}
use Rattle.wt_expand.specs.Rows.{bit}
use Rattle.wt_expand.specs.LaidRows.{lays_two, has_two}

pub take_twice : {A : Type 0} (n : ℕ) (xs : List A) → take n (take n xs) ≡ take n xs
take_twice zero xs = refl
take_twice (suc n) [] = refl
take_twice (suc n) (x ∷ xs) = ap (λ (ys : List _). x ∷ ys) (take_twice n xs)

take_less : {A : Type 0} (n k : ℕ) (xs : List A) → n ≤ k → take n (take k xs) ≡ take n xs
take_less zero k xs le = refl
take_less (suc n) zero xs le = absurd (omega arith)
take_less (suc n) (suc k) [] le = refl
take_less (suc n) (suc k) (x ∷ xs) le = ap (λ (ys : List _). x ∷ ys) (take_less n k xs (omega arith))

-- behind the first tile of a piece one cell less is wanted
behind_tiles : (p : Image) (w : ℕ) (xs ys : List ℕ) → take w xs ≡ take w ys → take (suc w) (piece_tiles p ++ xs) ≡ take (suc w) (piece_tiles p ++ ys)
behind_tiles (Single a) w xs ys e = ap (λ (zs : List ℕ). a ∷ zs) e
behind_tiles (Double a b) zero xs ys e = refl
behind_tiles (Double a b) (suc w) xs ys e =
    let f : take w xs ≡ take w ys = sym (take_less w (suc w) xs (omega arith)) ∙ (ap (take w) e ∙ take_less w (suc w) ys (omega arith)) in
    ap (λ (zs : List ℕ). a ∷ b ∷ zs) f

-- w tiles give w cells and more
pub cut_tiles : (f : ℕ → Image) (w : ℕ) (row : List ℕ) → take w (flat_map (λ t. piece_tiles (f t)) (take w row)) ≡ take w (flat_map (λ t. piece_tiles (f t)) row)
cut_tiles f zero row = refl
cut_tiles f (suc w) [] = refl
cut_tiles f (suc w) (t ∷ ts) = behind_tiles (f t) w (flat_map (λ t. piece_tiles (f t)) (take w ts)) (flat_map (λ t. piece_tiles (f t)) ts) (cut_tiles f w ts)

cut_map : (f : ℕ → ℕ) (w : ℕ) (row : List ℕ) → take w (map f (take w row)) ≡ take w (map f row)
cut_map f w row = take-map f w (take w row) ∙ (ap (map f) (take_twice w row) ∙ sym (take-map f w row))

double_cut : (images : List Image) (w : ℕ) (row : List ℕ) → 1 ≤ w → is_double images (take w row) ≡ is_double images row
double_cut images zero row some = absurd (omega arith)
double_cut images (suc w) [] some = refl
double_cut images (suc w) (t ∷ ts) some = refl

one_row : (w k : ℕ) (a b : List ℕ) → take w a ≡ take w b → take w (get_or (a ∷ []) k []) ≡ take w (get_or (b ∷ []) k [])
one_row w zero a b e = e
one_row w (suc k) a b e = refl

two_rows : (w k : ℕ) (a b c d : List ℕ) → take w a ≡ take w b → take w c ≡ take w d → take w (get_or (a ∷ c ∷ []) k []) ≡ take w (get_or (b ∷ d ∷ []) k [])
two_rows w zero a b c d e f = e
two_rows w (suc k) a b c d e f = one_row w k c d f

laid_cut : (axis : Axis) (images : List Image) (w k : ℕ) (row : List ℕ) → 1 ≤ w → take w (get_or (laid_rows axis images (take w row)) k []) ≡ take w (get_or (laid_rows axis images row) k [])
laid_cut One images w k row some = one_row w k _ _ (cut_tiles (piece_at images) w row)
laid_cut Two images w k row some = go (is_double images row) refl
  where
    go : (b : Bool) → is_double images row ≡ b → take w (get_or (line_image images (take w row)) k []) ≡ take w (get_or (line_image images row) k [])
    go true e =
        let d = double_cut images w row some ∙ e in
        rw (d, e) (two_rows w k (firsts images (take w row)) (firsts images row) (lasts images (take w row)) (lasts images row) (cut_map (λ i. first_tile (piece_at images i)) w row) (cut_map (λ i. last_tile (piece_at images i)) w row))
    go false e =
        let d = double_cut images w row some ∙ e in
        rw (d, e) (one_row w k (firsts images (take w row)) (firsts images row) (cut_map (λ i. first_tile (piece_at images i)) w row))

laid_count : (axis : Axis) (images : List Image) (row : List ℕ) → length (laid_rows axis images row) ≡ bit (lays_two axis images row) + 1
laid_count One images row = refl
laid_count Two images row = go (is_double images row) refl
  where
    go : (b : Bool) → is_double images row ≡ b → length (line_image images row) ≡ bit (is_double images row) + 1
    go true e = rw e refl
    go false e = rw e refl

two_cut : (axis : Axis) (images : List Image) (w : ℕ) (row : List ℕ) → 1 ≤ w → lays_two axis images (take w row) ≡ lays_two axis images row
two_cut One images w row some = refl
two_cut Two images w row some = double_cut images w row some

module _ (renaming : List ℕ) (level : Level) where
  named_cut : (w : ℕ) (row : List ℕ) → named_row renaming level (take w row) ≡ take w (named_row renaming level row)
  named_cut w row = go level.renames refl
    where
      go : (b : Bool) → level.renames ≡ b → named_row renaming level (take w row) ≡ take w (named_row renaming level row)
      go true e = rw e (sym (take-map (origin renaming) w row))
      go false e = rw e refl

  -- how many rows a row stands for
  pub count_below : (row : List ℕ) → length (rows_below renaming level row) ≡ bit (has_two renaming level row) + 1
  count_below row = laid_count (axis_of level.link) (pieces_of level.link) (named_row renaming level row)

  -- a row stands for two if its first w cells do
  pub cut_two : (w : ℕ) (row : List ℕ) → 1 ≤ w → has_two renaming level (take w row) ≡ has_two renaming level row
  cut_two w row some = ap (lays_two (axis_of level.link) (pieces_of level.link)) (named_cut w row) ∙ two_cut (axis_of level.link) (pieces_of level.link) w (named_row renaming level row) some

  -- the rows below its first w cells begin like the rows below it
  pub cut_below : (w k : ℕ) (row : List ℕ) → 1 ≤ w → take w (get_or (rows_below renaming level (take w row)) k []) ≡ take w (get_or (rows_below renaming level row) k [])
  cut_below w k row some =
      ap (λ (named : List ℕ). take w (get_or (laid_rows (axis_of level.link) (pieces_of level.link) named) k [])) (named_cut w row)
      ∙ laid_cut (axis_of level.link) (pieces_of level.link) w k (named_row renaming level row) some
