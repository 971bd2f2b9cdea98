-- Bits of masks, word by word.
use Rattle.std.proofs.Common.{arith, ◌≡◌, ◌≢◌, ℕ, zero, suc, ◌+◌, ◌-◌, ◌*◌, ◌/◌, ◌%◌, ◌^◌, ◌<◌, ◌≤◌, List, [], ◌∷◌, cond, length, get_or, add-zero, mul_comm, map, replicate, ◌↔◌, inl, inr, refl, sym, ap, ◌∙◌, not, nat_eq, min}
use Rattle.std.specs.Prelude.{count_ones, bit_and, IsTrue}
use Rattle.std.proofs.Math.Nat.{pow-suc}
use Rattle.std.proofs.lemmas.List.{get_or_past, take_all}
use Rattle.std.proofs.lemmas.Simd.{bitmask_splat}
use Rattle.std.proofs.lemmas.Nat.{ones_le_self}
use Rattle.std.proofs.lemmas.Bool.{cases_lt}
use Rattle.std.proofs.lemmas.Bool.Decides.{nat_tests}
use Rattle.std.specs.Int.{bit_at, trailing_zeros}
use Rattle.std.specs.Int.Count.{ones_step}
use Rattle.std.proofs.lemmas.Nat.Bits.{bit_at_and, bit_at-suc, bit_at_lowest, bit_at-zero, bit_at-trailing_zeros}
use lib.Lanes.{zip2, mask_l, top, chunk}
use mir.Syntax.{w64}
use Rattle.wt_lane.specs.Masks.{mask_bit, set_below}

-- ---- where a bit stands

pub place_of : (k j : ℕ) → j < 64 → ((64 * k + j) / 64 ≡ k) × ((64 * k + j) % 64 ≡ j)
place_of k j lt = (omega arith, omega arith)

pub bit_in_word : (a : List ℕ) (k j : ℕ) → j < 64 → mask_bit a (64 * k + j) ≡ bit_at (get_or a k 0) j
bit_in_word a k j lt = let p = place_of k j lt in rw (p.0, p.1) refl

-- ---- both masks

words_and : (a b : List ℕ) (k : ℕ) → length a ≡ length b → get_or (zip2 bit_and a b) k 0 ≡ bit_and (get_or a k 0) (get_or b k 0)
words_and [] [] k e = refl
words_and [] (y ∷ ys) k e = absurd (omega arith)
words_and (x ∷ xs) [] k e = absurd (omega arith)
words_and (x ∷ xs) (y ∷ ys) zero e = refl
words_and (x ∷ xs) (y ∷ ys) (suc k) e = words_and xs ys k (omega arith)

pub bits_and : (a b : List ℕ) (i : ℕ) → length a ≡ length b → mask_bit (zip2 bit_and a b) i ≡ min (mask_bit a i) (mask_bit b i)
bits_and a b i e = ap (λ (w : ℕ). bit_at w (i % 64)) (words_and a b (i / 64) e) ∙ bit_at_and (get_or a (i / 64) 0) (get_or b (i / 64) 0) (i % 64)

-- ---- counting

-- the set bits among the first n of one word
unfoldable pub bits_below : ℕ → ℕ → ℕ
bits_below w zero = 0
bits_below w (suc n) = bits_below w n + bit_at w n

low_first : (n w : ℕ) → bits_below w (suc n) ≡ w % 2 + bits_below (w / 2) n
unfolding bits_below
low_first zero w = omega (arith, bit_at_lowest w)
low_first (suc n) w = omega (arith, low_first n w, bit_at-suc w n)

half_below : (n w : ℕ) → w < 2 ^ suc n → w / 2 < 2 ^ n
half_below n w lt = let p : 2 ^ suc n ≡ 2 * 2 ^ n = rw pow-suc (mul_comm (2 ^ n) 2) in omega (arith, p, lt)

no_ones : 0 ≡ count_ones 0
no_ones = omega (arith, ones_le_self 0)

pub all_ones : (n w : ℕ) → w < 2 ^ n → bits_below w n ≡ count_ones w
unfolding bits_below
all_ones zero w lt = let z : w ≡ 0 = omega arith in rw z no_ones
all_ones (suc n) w lt = low_first n w ∙ ap (λ (x : ℕ). w % 2 + x) (all_ones n (w / 2) (half_below n w lt)) ∙ sym (ones_step w)

word_more : (a : List ℕ) (k j : ℕ) → j ≤ 64 → set_below a (64 * k + j) ≡ set_below a (64 * k) + bits_below (get_or a k 0) j
unfolding bits_below set_below
word_more a k zero le = ap (set_below a) (add-zero (64 * k)) ∙ sym (add-zero (set_below a (64 * k)))
word_more a k (suc j) le =
    let s : 64 * k + suc j ≡ suc (64 * k + j) = omega arith in
    ap (set_below a) s ∙ omega (arith, word_more a k j (omega arith), bit_in_word a k j (omega arith))

one_word : (a : List ℕ) (k : ℕ) → get_or a k 0 < 2 ^ 64 → set_below a (64 * k + 64) ≡ set_below a (64 * k) + count_ones (get_or a k 0)
one_word a k lt = word_more a k 64 (omega arith) ∙ ap (λ (x : ℕ). set_below a (64 * k) + x) (all_ones 64 (get_or a k 0) lt)

none_set : (a : List ℕ) → set_below a 0 ≡ 0
unfolding set_below
none_set a = refl

pub four_words : (a : List ℕ) → ((k : ℕ) → get_or a k 0 < 2 ^ 64) → count_ones (get_or a 0 0) + count_ones (get_or a 1 0) + count_ones (get_or a 2 0) + count_ones (get_or a 3 0) ≡ set_below a 256
four_words a fits = omega (arith, none_set a, one_word a 0 (fits 0), one_word a 1 (fits 1), one_word a 2 (fits 2), one_word a 3 (fits 3))

-- ---- the lowest

pub no_bit : (w j : ℕ) → w ≡ 0 → bit_at w j ≡ 0
no_bit w j z = rw z (bit_at-zero j)

-- where the words below a word are 0, so are the bits below it
pub below_word : (a : List ℕ) (k i : ℕ) → ((j : ℕ) → j < k → get_or a j 0 ≡ 0) → i / 64 < k → mask_bit a i ≡ 0
below_word a k i zeros lt = no_bit (get_or a (i / 64) 0) (i % 64) (zeros (i / 64) lt)

pub past_all : (a : List ℕ) (i : ℕ) → length a ≤ i / 64 → mask_bit a i ≡ 0
past_all a i le = no_bit (get_or a (i / 64) 0) (i % 64) (get_or_past a (i / 64) 0 le)

pub lowest_at : (a : List ℕ) (k start : ℕ) → k < 4 → start ≡ 64 * k → ((j : ℕ) → j < k → get_or a j 0 ≡ 0) → 0 < get_or a k 0 → get_or a k 0 < 2 ^ 64
    → (start + trailing_zeros w64 (get_or a k 0) < 256) × (mask_bit a (start + trailing_zeros w64 (get_or a k 0)) ≡ 1) × ((i : ℕ) → i < start + trailing_zeros w64 (get_or a k 0) → mask_bit a i ≡ 0)
lowest_at a k start lt e zeros some fits =
    let t = bit_at-trailing_zeros w64 (get_or a k 0) some fits in
    let n : ℕ = trailing_zeros w64 (get_or a k 0) in
    let short : n < 64 = t.0 in (
      omega arith,
      rw e (bit_in_word a k n short ∙ t.1),
      λ i below. elim (cases_lt (i / 64) k) [
        | inl h ↦ below_word a k i zeros h
        | inr h ↦ let q : i / 64 ≡ k = omega arith in rw q (t.2 (i % 64) (omega arith))
      ],
    )

-- ---- whether any bit is set

set_first : (x m : ℕ) → cond (not (nat_eq (suc x) 0)) 1 0 + 2 * m ≡ 0 → ⊥
set_first x m z = grind (arith, nat_tests)

zero_mask : (xs : List ℕ) → mask_l (map (λ x. not (nat_eq x 0)) xs) ≡ 0 → (k : ℕ) → get_or xs k 0 ≡ 0
zero_mask [] z k = refl
zero_mask (zero ∷ xs) z zero = refl
zero_mask (suc x ∷ xs) z zero = absurd (set_first x (mask_l (map (λ x. not (nat_eq x 0)) xs)) z)
zero_mask (x ∷ xs) z (suc k) = zero_mask xs (omega arith) k

some_mask : (xs : List ℕ) → mask_l (map (λ x. not (nat_eq x 0)) xs) ≢ 0 → (k : ℕ) × (k < length xs) × (0 < get_or xs k 0)
some_mask [] n = absurd (n refl)
some_mask (suc x ∷ xs) n = (0, omega arith, omega arith)
some_mask (zero ∷ xs) n =
    let r = some_mask xs (λ z. n (omega arith)) in
    (suc r.0, omega (arith, r.1), r.2)

true_apart : (m : ℕ) → IsTrue (not (nat_eq m 0)) → m ≢ 0
true_apart m h = λ z. absurd (grind (arith, nat_tests, h, z))

apart_true : (m : ℕ) → m ≢ 0 → IsTrue (not (nat_eq m 0))
apart_true m n = grind (arith, nat_tests)

some_bit : (a : List ℕ) → length a ≡ 4 → ((k : ℕ) → get_or a k 0 < 2 ^ 64) → (m : ℕ) → m ≡ mask_l (map (λ x. not (nat_eq x 0)) a) → IsTrue (not (nat_eq m 0)) ↔ ((i : ℕ) × (i < 256) × (mask_bit a i ≡ 1))
some_bit a long fits m e = (
  λ h.
      let s = some_mask a (λ z. true_apart m h (e ∙ z)) in
      let t = bit_at-trailing_zeros w64 (get_or a s.0 0) s.2 (fits s.0) in
      (64 * s.0 + trailing_zeros w64 (get_or a s.0 0), omega (arith, s.1, t.0), bit_in_word a s.0 (trailing_zeros w64 (get_or a s.0 0)) t.0 ∙ t.1),
  λ h. apart_true m (λ z. let w : get_or a (h.0 / 64) 0 ≡ 0 = zero_mask a (sym e ∙ z) (h.0 / 64) in absurd (omega (arith, h.2, no_bit (get_or a (h.0 / 64) 0) (h.0 % 64) w))),
)

pub lanes_any : (a : List ℕ) → length a ≡ 4 → ((k : ℕ) → get_or a k 0 < 2 ^ 64)
    → IsTrue (not (nat_eq (mask_l (map (top 63) (zip2 (λ (x y : ℕ). cond (not (nat_eq x y)) (2 ^ 64 - 1) 0) (chunk 0 4 a) (replicate 4 0))) % 2 ^ 64) 0)) ↔ ((i : ℕ) × (i < 256) × (mask_bit a i ≡ 1))
lanes_any a long fits =
    let all : chunk 0 4 a ≡ a = take_all 4 a (omega arith) in
    some_bit a long fits _ (bitmask_splat w64 (λ x y. not (nat_eq x y)) (chunk 0 4 a) 4 0 (ap length all ∙ long) (omega arith) ∙ ap (λ (xs : List ℕ). mask_l (map (λ x. not (nat_eq x 0)) xs)) all)
