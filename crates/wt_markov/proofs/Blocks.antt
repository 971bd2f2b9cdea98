-- The blocks of a core: what stands on the lines of each, and on the line behind it.
use Rattle.std.proofs.Common.{arith, ◌≡◌, ◌⊎◌, ℕ, zero, suc, ◌+◌, ◌<◌, ◌≤◌, List, [], ◌∷◌, ◌++◌, length, length-append, take, get_or, Bool, true, false, refl, sym, ap, ◌∙◌, inl, inr}
use Rattle.std.proofs.lemmas.List.{get_or-map, get_or-append-add, length-map}
use Rattle.wt_grid.specs.declared.image.Image.{Image}
use Rattle.wt_grid.specs.Images.{piece_at, first_tile, last_tile, is_pair, firsts, lasts, is_double, line_image, image_lines, IsEvenLine, IsEven}
use Rattle.wt_torus.proofs.Rotation.{flag}

first_at : (im : List Image) (q : List ℕ) (j : ℕ) → j < length q → get_or (firsts im q) j 0 ≡ first_tile (piece_at im (get_or q j 0))
first_at im q j lt = get_or-map (λ i. first_tile (piece_at im i)) q j 0 0 lt

last_at : (im : List Image) (q : List ℕ) (j : ℕ) → j < length q → get_or (lasts im q) j 0 ≡ last_tile (piece_at im (get_or q j 0))
last_at im q j lt = get_or-map (λ i. last_tile (piece_at im i)) q j 0 0 lt

even_get : (im : List Image) (b : Bool) (q : List ℕ) (j : ℕ) → IsEvenLine im b q → j < length q → is_pair (piece_at im (get_or q j 0)) ≡ b
even_get im b [] j e lt = absurd (omega arith)
even_get im b (i ∷ is) zero e lt = e.0
even_get im b (i ∷ is) (suc j) e lt = even_get im b is j e.1 (omega arith)

even_at : (im : List Image) (qs : List (List ℕ)) (k : ℕ) → IsEven im qs → k < length qs → IsEvenLine im (is_double im (get_or qs k [])) (get_or qs k [])
even_at im [] k e lt = absurd (omega arith)
even_at im (q ∷ qs) zero e lt = e.0
even_at im (q ∷ qs) (suc k) e lt = even_at im qs k e.1 (omega arith)

-- where a block begins
abbrev pub begins : List Image → List (List ℕ) → ℕ → ℕ
begins im qs k = length (image_lines im (take k qs))

first_of_line : (im : List Image) (q : List ℕ) (ls : List (List ℕ)) (b : Bool) → is_double im q ≡ b → get_or (line_image im q ++ ls) 0 [] ≡ firsts im q
first_of_line im q ls true e = rw e refl
first_of_line im q ls false e = rw e refl

last_of_line : (im : List Image) (q : List ℕ) (ls : List (List ℕ)) → is_double im q ≡ true → get_or (line_image im q ++ ls) 1 [] ≡ lasts im q
last_of_line im q ls e = rw e refl

one_long : (im : List Image) (q : List ℕ) → is_double im q ≡ false → length (line_image im q) ≡ 1
one_long im q e = rw e refl

two_long : (im : List Image) (q : List ℕ) → is_double im q ≡ true → length (line_image im q) ≡ 2
two_long im q e = rw e refl

some_long : (im : List Image) (q : List ℕ) → 1 ≤ length (line_image im q)
some_long im q = elim (flag (is_double im q)) [
  | inl e ↦ let t = two_long im q e in omega arith
  | inr e ↦ let t = one_long im q e in omega arith
]

first_of_block : (im : List Image) (qs : List (List ℕ)) (k : ℕ) → k < length qs → get_or (image_lines im qs) (begins im qs k) [] ≡ firsts im (get_or qs k [])
first_of_block im [] k lt = absurd (omega arith)
first_of_block im (q ∷ qs) zero lt = first_of_line im q (image_lines im qs) (is_double im q) refl
first_of_block im (q ∷ qs) (suc k) lt =
    let e = length-append (line_image im q) (image_lines im (take k qs)) in
    ap (λ (i : ℕ). get_or (line_image im q ++ image_lines im qs) i []) e
    ∙ (get_or-append-add (line_image im q) (image_lines im qs) (begins im qs k) [] ∙ first_of_block im qs k (omega arith))

last_of_block : (im : List Image) (qs : List (List ℕ)) (k : ℕ) → k < length qs → is_double im (get_or qs k []) ≡ true → get_or (image_lines im qs) (suc (begins im qs k)) [] ≡ lasts im (get_or qs k [])
last_of_block im [] k lt d = absurd (omega arith)
last_of_block im (q ∷ qs) zero lt d = last_of_line im q (image_lines im qs) d
last_of_block im (q ∷ qs) (suc k) lt d =
    let e = length-append (line_image im q) (image_lines im (take k qs)) in
    let n : suc (begins im (q ∷ qs) (suc k)) ≡ length (line_image im q) + suc (begins im qs k) = omega arith in
    ap (λ (i : ℕ). get_or (line_image im q ++ image_lines im qs) i []) n
    ∙ (get_or-append-add (line_image im q) (image_lines im qs) (suc (begins im qs k)) [] ∙ last_of_block im qs k (omega arith) d)

-- the lines from a block on
block_long : (im : List Image) (qs : List (List ℕ)) (k : ℕ) → k < length qs → begins im qs k + length (line_image im (get_or qs k [])) ≤ length (image_lines im qs)
block_long im [] k lt = absurd (omega arith)
block_long im (q ∷ qs) zero lt = let e = length-append (line_image im q) (image_lines im qs) in omega arith
block_long im (q ∷ qs) (suc k) lt =
    let e = length-append (line_image im q) (image_lines im qs) in
    let f = length-append (line_image im q) (image_lines im (take k qs)) in
    let r = block_long im qs k (omega arith) in omega arith

next_begins : (im : List Image) (qs : List (List ℕ)) (k : ℕ) → k < length qs → begins im qs (suc k) ≡ begins im qs k + length (line_image im (get_or qs k []))
next_begins im [] k lt = absurd (omega arith)
next_begins im (q ∷ qs) zero lt = let e = length-append (line_image im q) (image_lines im []) in omega arith
next_begins im (q ∷ qs) (suc k) lt =
    let e = length-append (line_image im q) (image_lines im (take k qs)) in
    let f = length-append (line_image im q) (image_lines im (take (suc k) qs)) in
    let r = next_begins im qs k (omega arith) in omega arith

take_whole : {A : Type 0} (xs : List A) → take (length xs) xs ≡ xs
take_whole [] = refl
take_whole (x ∷ xs) = ap (λ (ys : List _). x ∷ ys) (take_whole xs)

ends_all : (im : List Image) (qs : List (List ℕ)) → begins im qs (length qs) ≡ length (image_lines im qs)
ends_all im qs = ap (λ (xs : List (List ℕ)). length (image_lines im xs)) (take_whole qs)

-- What stands in cell j of the lines of block k.
pub record IsBlock (im : List Image) (qs : List (List ℕ)) (k j : ℕ) : Type 0 where
  pub within : begins im qs k < length (image_lines im qs)
  pub long : length (get_or (image_lines im qs) (begins im qs k) []) ≡ length (get_or qs k [])
  pub first : get_or (get_or (image_lines im qs) (begins im qs k) []) j 0 ≡ first_tile (piece_at im (get_or (get_or qs k []) j 0))
  pub double : is_pair (piece_at im (get_or (get_or qs k []) j 0)) ≡ true
      → (suc (begins im qs k) < length (image_lines im qs)) × (get_or (get_or (image_lines im qs) (suc (begins im qs k)) []) j 0 ≡ last_tile (piece_at im (get_or (get_or qs k []) j 0)))
  pub next_double : is_pair (piece_at im (get_or (get_or qs k []) j 0)) ≡ true → begins im qs (suc k) ≡ suc (suc (begins im qs k))
  pub next_single : is_pair (piece_at im (get_or (get_or qs k []) j 0)) ≡ false → begins im qs (suc k) ≡ suc (begins im qs k)
  pub single : is_pair (piece_at im (get_or (get_or qs k []) j 0)) ≡ false
      → (suc k < length qs × (begins im qs (suc k) ≡ suc (begins im qs k))) ⊎ (suc (begins im qs k) ≡ length (image_lines im qs))

pub block_is : (im : List Image) (qs : List (List ℕ)) → IsEven im qs → (k j : ℕ) → k < length qs → j < length (get_or qs k []) → IsBlock im qs k j
block_is im qs even k j lk lj =
    let q = get_or qs k [] in
    let same = even_get im (is_double im q) q j (even_at im qs k even lk) lj in
    let long = block_long im qs k lk in
    let some = some_long im q in
    let next = next_begins im qs k lk in record {
      within = omega arith;
      long = ap length (first_of_block im qs k lk) ∙ length-map q (λ i. first_tile (piece_at im i));
      first = ap (λ (u : List ℕ). get_or u j 0) (first_of_block im qs k lk) ∙ first_at im q j lj;
      double = λ e. (
        let t = two_long im q (sym same ∙ e) in omega arith,
        ap (λ (u : List ℕ). get_or u j 0) (last_of_block im qs k lk (sym same ∙ e)) ∙ last_at im q j lj,
      );
      next_double = λ e. let t = two_long im q (sym same ∙ e) in omega arith;
      next_single = λ e. let o = one_long im q (sym same ∙ e) in omega arith;
      single = λ e.
          let o = one_long im q (sym same ∙ e) in
          cases (Rattle.std.specs.Prelude.nat_lt (suc k) (length qs)) refl o;
    }
  where
    cases : (b : Bool) → Rattle.std.specs.Prelude.nat_lt (suc k) (length qs) ≡ b → length (line_image im (get_or qs k [])) ≡ 1
        → (suc k < length qs × (begins im qs (suc k) ≡ suc (begins im qs k))) ⊎ (suc (begins im qs k) ≡ length (image_lines im qs))
    cases true e o = let next = next_begins im qs k lk in inl (grind (arith, Rattle.std.proofs.lemmas.Bool.Decides.nat_tests), omega arith)
    cases false e o =
        let next = next_begins im qs k lk in
        let full : suc k ≡ length qs = grind (arith, Rattle.std.proofs.lemmas.Bool.Decides.nat_tests) in
        let all = ap (begins im qs) full ∙ ends_all im qs in
        inr (omega arith)
