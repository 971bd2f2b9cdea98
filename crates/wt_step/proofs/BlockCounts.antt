-- How many blocks begin in the lines that the first coarse lines stand for.
use Rattle.std.proofs.Common.{arith, ◌≡◌, ◌≤◌, ◌+◌, ◌++◌, ℕ, zero, suc, List, [], ◌∷◌, length, take, Bool, true, false, refl, sym, ◌∙◌, ap}
use Rattle.wt_grid.specs.declared.image.Image.TheVariants.{One as Single, Two as Double}
use Rattle.wt_grid.specs.declared.image.Image.{Image}
use Rattle.std.proofs.lemmas.List.{length-take-le}
use Rattle.std.proofs.lemmas.Option.{get_or_from_slice_get}
use Rattle.wt_grid.specs.Lines.{Singles, Pairs}
use Rattle.wt_grid.specs.Images.{is_pair, is_double, line_image, image_lines}
use Rattle.wt_grid.proofs.ImageGrids.{image_count}
use Rattle.wt_step.specs.Blocks.{blocks_in}
use Rattle.wt_step.proofs.Readings.{Reads}

single_size : (im : List Image) (q : List ℕ) (a : ℕ) (u : List ℕ) → Singles im q (a ∷ u) → is_double im q ≡ false
single_size im [] a u h = absurd h
single_size im (k ∷ ks) a u h = ap is_pair (get_or_from_slice_get im k (Single a) (Single 0) h.0)

pair_size : (im : List Image) (q : List ℕ) (a : ℕ) (u v : List ℕ) → Pairs im q (a ∷ u) v → is_double im q ≡ true
pair_size im [] a u v h = absurd h
pair_size im (k ∷ ks) a u [] h = absurd h
pair_size im (k ∷ ks) a u (b ∷ v) h = ap is_pair (get_or_from_slice_get im k (Double a b) (Single 0) h.0)

one_more : (im : List Image) (q : List ℕ) (ys : List (List ℕ)) → is_double im q ≡ false → length (line_image im q ++ ys) ≡ suc (length ys)
one_more im q ys e = rw e refl

two_more : (im : List Image) (q : List ℕ) (ys : List (List ℕ)) → is_double im q ≡ true → length (line_image im q ++ ys) ≡ suc (suc (length ys))
two_more im q ys e = rw e refl

module _ (im : List Image) (c : ℕ → ℕ) (rest : ℕ → List ℕ) (pairs : ℕ → Bool) where
  -- the lines that the first n coarse lines stand for
  abbrev Lines : ℕ → List (List ℕ) → List (List ℕ)
  Lines n qs = image_lines im (take n qs)

  none : (n : ℕ) (qs : List (List ℕ)) → n ≤ length qs → length (Lines n qs) ≡ 0 → n ≡ 0
  none n qs le e =
      let k = (image_count im (take n qs)).0 in
      let l = length-take-le n qs le in
      omega arith

  pub begun : (N i : ℕ) (qs : List (List ℕ)) → Reads im (λ i. c i ∷ rest i) (blocks_in pairs false i N) qs → (n : ℕ) → n ≤ length qs
      → length (blocks_in pairs false i (length (Lines n qs))) ≡ n
  begun N i qs r zero le = refl
  begun zero i [] r (suc n) le = absurd (omega arith)
  begun zero i (q ∷ qs) r (suc n) le = absurd r
  begun (suc zero) i [] r (suc n) le = absurd r
  begun (suc zero) i (q ∷ []) r (suc zero) le = ap (λ (d : ℕ). length (blocks_in pairs false i d)) (one_more im q [] (single_size im q (c i) (rest i) r.0))
  begun (suc zero) i (q ∷ []) r (suc (suc n)) le = absurd (omega arith)
  begun (suc zero) i (q ∷ p ∷ qs) r (suc n) le = absurd r.1
  begun (suc (suc N)) i [] r (suc n) le = absurd r
  begun (suc (suc N)) i (q ∷ qs) r (suc n) le =
      go (pairs i) refl r (λ x. begun N ((i + 1) + 1) qs x n (omega arith)) (λ x. begun (suc N) (i + 1) qs x n (omega arith))
    where
      single : (d : ℕ) → pairs i ≡ false → length (Lines n qs) ≡ d → length (blocks_in pairs false (i + 1) (length (Lines n qs))) ≡ n → length (blocks_in pairs false i (suc d)) ≡ suc n
      single zero t e h = ap suc (sym (none n qs (omega arith) e))
      single (suc d) t e h = let h' = rw e at h in rw t (ap suc h')

      go : (b : Bool) → pairs i ≡ b → Reads im (λ i. c i ∷ rest i) (blocks_in pairs false i (suc (suc N))) (q ∷ qs)
          → (Reads im (λ i. c i ∷ rest i) (blocks_in pairs false ((i + 1) + 1) N) qs → length (blocks_in pairs false ((i + 1) + 1) (length (Lines n qs))) ≡ n)
          → (Reads im (λ i. c i ∷ rest i) (blocks_in pairs false (i + 1) (suc N)) qs → length (blocks_in pairs false (i + 1) (length (Lines n qs))) ≡ n)
          → length (blocks_in pairs false i (length (Lines (suc n) (q ∷ qs)))) ≡ suc n
      go true t r two_on one_on =
          let r' = rw t at r in
          ap (λ (d : ℕ). length (blocks_in pairs false i d)) (two_more im q (Lines n qs) (pair_size im q (c i) (rest i) (c (i + 1) ∷ rest (i + 1)) r'.0))
          ∙ rw t (ap suc (two_on r'.1))
      go false t r two_on one_on =
          let r' = rw t at r in
          ap (λ (d : ℕ). length (blocks_in pairs false i d)) (one_more im q (Lines n qs) (single_size im q (c i) (rest i) r'.0))
          ∙ single (length (Lines n qs)) t refl (one_on r'.1)
