-- Values of numbers, digit by digit.
use Rattle.std.proofs.Common.{arith, ◌≡◌, ◌≢◌, ◌≤◌, ◌<◌, ◌+◌, ◌-◌, ◌*◌, ◌^◌, ℕ, suc, List, [], ◌∷◌, Bool, true, false, cond, ◌&&◌, nat_lt, nat_eq, Some, None, Ok, Err, length, get_or, drop, refl, sym, ap, ◌∙◌, drop-cons, add-one}
use Rattle.std.proofs.lemmas.List.{drop_all}
use Rattle.std.proofs.lemmas.List.Sums.{take_while-cons}
use Rattle.std.proofs.lemmas.Bool.{eqb-true}
use Rattle.std.proofs.lemmas.Bool.Decides.{nat_tests}
use Rattle.std.specs.Char.{is_ascii_digit}
use Rattle.std.specs.Str.{all_ascii_digits}
use Rattle.wt_text.specs.Words.{value_from, is_decimal, number}
use Rattle.wt_io.specs.Numbers.{below, digits_of, in_u64, is_plain}
use Rattle.wt_io.specs.declared.numbers.NumberFault.TheVariants.{NotNumber, TooLarge}

pub grows : (n : ℕ) (bs : List ℕ) → n ≤ value_from n bs
grows n [] = omega arith
grows n (b ∷ bs) = omega (arith, grows (n * 10 + (b - 48)) bs)

pub fits : (n : ℕ) → n < 2 ^ 64 → nat_lt n (2 ^ 64) ≡ true
fits n lt = grind (arith, nat_tests)

pub passes : (n : ℕ) → 2 ^ 64 ≤ n → nat_lt n (2 ^ 64) ≡ false
passes n le = grind (arith, nat_tests)

-- ---- the digits from a place on

digits_at : (i : ℕ) (bs : List ℕ) → i < length bs → digits_of (drop i bs) ≡ cond (is_ascii_digit (get_or bs i 0)) (get_or bs i 0 ∷ digits_of (drop (i + 1) bs)) []
digits_at i bs lt =
    let d : drop i bs ≡ get_or bs i 0 ∷ drop (i + 1) bs = rw add-one (drop-cons bs i 0 lt) in
    ap digits_of d ∙ take_while-cons is_ascii_digit (get_or bs i 0) (drop (i + 1) bs)

pub digits_stop : (i : ℕ) (bs : List ℕ) → i < length bs → is_ascii_digit (get_or bs i 0) ≡ false → digits_of (drop i bs) ≡ []
digits_stop i bs lt e = digits_at i bs lt ∙ ap (λ (b : Bool). cond b (get_or bs i 0 ∷ digits_of (drop (i + 1) bs)) []) e

pub digits_go : (i : ℕ) (bs : List ℕ) → i < length bs → is_ascii_digit (get_or bs i 0) ≡ true → digits_of (drop i bs) ≡ get_or bs i 0 ∷ digits_of (drop (i + 1) bs)
digits_go i bs lt e = digits_at i bs lt ∙ ap (λ (b : Bool). cond b (get_or bs i 0 ∷ digits_of (drop (i + 1) bs)) []) e

pub digits_end : (i : ℕ) (bs : List ℕ) → length bs ≤ i → digits_of (drop i bs) ≡ []
digits_end i bs le = ap digits_of (drop_all i bs le)

-- ---- all bytes are digits, or not all

pub digits_whole : (bs : List ℕ) → length (digits_of bs) ≡ length bs → (digits_of bs ≡ bs) × (all_ascii_digits bs ≡ true)
digits_whole [] e = (refl, refl)
digits_whole (b ∷ bs) e = go (is_ascii_digit b) refl (take_while-cons is_ascii_digit b bs) e (digits_whole bs)
  where
    go : (d : Bool) → is_ascii_digit b ≡ d → digits_of (b ∷ bs) ≡ cond d (b ∷ digits_of bs) [] → length (digits_of (b ∷ bs)) ≡ suc (length bs)
        → (length (digits_of bs) ≡ length bs → (digits_of bs ≡ bs) × (all_ascii_digits bs ≡ true)) → (digits_of (b ∷ bs) ≡ b ∷ bs) × ((d && all_ascii_digits bs) ≡ true)
    go true t k l h = let r = h (omega (arith, l, ap length k)) in (k ∙ ap (λ (x : List ℕ). b ∷ x) r.0, r.1)
    go false t k l h = absurd (omega (arith, l, ap length k))

pub digits_cut : (bs : List ℕ) → length (digits_of bs) ≢ length bs → all_ascii_digits bs ≡ false
digits_cut [] n = absurd (n refl)
digits_cut (b ∷ bs) n = go (is_ascii_digit b) refl (take_while-cons is_ascii_digit b bs) n (digits_cut bs)
  where
    go : (d : Bool) → is_ascii_digit b ≡ d → digits_of (b ∷ bs) ≡ cond d (b ∷ digits_of bs) [] → length (digits_of (b ∷ bs)) ≢ suc (length bs)
        → (length (digits_of bs) ≢ length bs → all_ascii_digits bs ≡ false) → (d && all_ascii_digits bs) ≡ false
    go true t k l h = h (λ e. l (omega (arith, e, ap length k)))
    go false t k l h = refl

pub digits_only : (bs : List ℕ) → all_ascii_digits (digits_of bs) ≡ true
digits_only [] = refl
digits_only (b ∷ bs) = go (is_ascii_digit b) refl (take_while-cons is_ascii_digit b bs) (digits_only bs)
  where
    go : (d : Bool) → is_ascii_digit b ≡ d → digits_of (b ∷ bs) ≡ cond d (b ∷ digits_of bs) [] → all_ascii_digits (digits_of bs) ≡ true → all_ascii_digits (digits_of (b ∷ bs)) ≡ true
    go true t k h = rw (k, t) h
    go false t k h = ap all_ascii_digits k

-- whether all are digits, by their count
all_by_count : (bs : List ℕ) → nat_eq (length (digits_of bs)) (length bs) ≡ all_ascii_digits bs
all_by_count bs = go (nat_eq (length (digits_of bs)) (length bs)) refl
  where
    same_test : (n m : ℕ) → n ≡ m → nat_eq n m ≡ true
    same_test n m e = grind (arith, nat_tests)

    true_not_false : true ≡ false → ⊥
    true_not_false e = absurd cc

    go : (d : Bool) → nat_eq (length (digits_of bs)) (length bs) ≡ d → d ≡ all_ascii_digits bs
    go true e = sym (digits_whole bs (eqb-true (length (digits_of bs)) (length bs) e)).1
    go false e = sym (digits_cut bs (λ same. true_not_false (sym (same_test (length (digits_of bs)) (length bs) same) ∙ e)))

pub decimal_by_count : (bs : List ℕ) (n : ℕ) → is_plain bs (length bs) ≡ true → n ≡ length (digits_of bs) → nat_eq n (length bs) ≡ is_decimal bs
decimal_by_count bs n p e = ap (λ (m : ℕ). nat_eq m (length bs)) e ∙ all_by_count bs ∙ ap (λ (b : Bool). b && all_ascii_digits bs) (sym p)

pub not_decimal : (bs : List ℕ) → is_plain bs (length bs) ≡ false → is_decimal bs ≡ false
not_decimal bs p = ap (λ (b : Bool). b && all_ascii_digits bs) p

-- ---- the number that bytes begin with

lead_plain : (bs : List ℕ) → is_plain bs (length (digits_of bs)) ≡ is_decimal (digits_of bs)
lead_plain [] = refl
lead_plain (b ∷ bs) = go (is_ascii_digit b) refl (take_while-cons is_ascii_digit b bs) (digits_only bs)
  where
    and_true : (x : Bool) → x ≡ (x && true)
    and_true true = refl
    and_true false = refl

    go : (d : Bool) → is_ascii_digit b ≡ d → digits_of (b ∷ bs) ≡ cond d (b ∷ digits_of bs) [] → all_ascii_digits (digits_of bs) ≡ true → is_plain (b ∷ bs) (length (digits_of (b ∷ bs))) ≡ is_decimal (digits_of (b ∷ bs))
    go true t k h = rw (k, t, h) (and_true (is_plain (b ∷ bs) (suc (length (digits_of bs)))))
    go false t k h = rw k refl

pub lead_ok : (bs : List ℕ) (n v : ℕ) → n ≡ length (digits_of bs) → is_plain bs n ≡ true → below (value_from 0 (digits_of bs)) ≡ Some v → Ok v ≡ in_u64 (number (digits_of bs))
lead_ok bs n v k p e =
    let d : is_decimal (digits_of bs) ≡ true = sym (lead_plain bs) ∙ ap (is_plain bs) (sym k) ∙ p in
    rw d (go (value_from 0 (digits_of bs)) (nat_lt (value_from 0 (digits_of bs)) (2 ^ 64)) e)
  where
    go : (m : ℕ) (b : Bool) → cond b (Some m) None ≡ Some v → Ok v ≡ cond b (Ok m) (Err TooLarge)
    go m true h = let same : m ≡ v = cc in cc
    go m false h = absurd cc

pub lead_large : (bs : List ℕ) (n : ℕ) → n ≡ length (digits_of bs) → is_plain bs n ≡ true → below (value_from 0 (digits_of bs)) ≡ None → Err TooLarge ≡ in_u64 (number (digits_of bs))
lead_large bs n k p e =
    let d : is_decimal (digits_of bs) ≡ true = sym (lead_plain bs) ∙ ap (is_plain bs) (sym k) ∙ p in
    rw d (go (value_from 0 (digits_of bs)) (nat_lt (value_from 0 (digits_of bs)) (2 ^ 64)) e)
  where
    go : (m : ℕ) (b : Bool) → cond b (Some m) None ≡ None → Err TooLarge ≡ cond b (Ok m) (Err TooLarge)
    go m true h = absurd cc
    go m false h = refl

pub lead_none : (bs : List ℕ) (n : ℕ) → n ≡ length (digits_of bs) → is_plain bs n ≡ false → Err NotNumber ≡ in_u64 (number (digits_of bs))
lead_none bs n k p =
    let d : is_decimal (digits_of bs) ≡ false = sym (lead_plain bs) ∙ ap (is_plain bs) (sym k) ∙ p in
    rw d refl

-- a digit more makes the value too large, and so do those behind it
pub too_large : (value i : ℕ) (bs : List ℕ) → i < length bs → is_ascii_digit (get_or bs i 0) ≡ true → 2 ^ 64 ≤ value * 10 + (get_or bs i 0 - 48) → value_from value (digits_of (drop i bs)) ≡ value_from 0 (digits_of bs)
    → None ≡ below (value_from 0 (digits_of bs))
too_large value i bs lt digit large so_far =
    let e : value_from (value * 10 + (get_or bs i 0 - 48)) (digits_of (drop (i + 1) bs)) ≡ value_from 0 (digits_of bs) = ap (value_from value) (sym (digits_go i bs lt digit)) ∙ so_far in
    rw (passes (value_from 0 (digits_of bs)) (omega (arith, e, large, grows (value * 10 + (get_or bs i 0 - 48)) (digits_of (drop (i + 1) bs))))) refl
