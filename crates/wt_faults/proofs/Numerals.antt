-- Each number has a token that spells it.
use Rattle.std.proofs.Common.{arith, ◌≡◌, ℕ, zero, suc, ◌+◌, ◌*◌, ◌-◌, ◌≤◌, ◌<◌, List, [], ◌∷◌, ◌++◌, length, Some, Bool, true, false, ◌&&◌, ◌||◌, not, nat_eq, nat_lt, refl, ap, ◌∙◌}
use Rattle.std.specs.Char.{is_ascii_digit}
use Rattle.std.specs.Str.{all_ascii_digits}
use Rattle.std.proofs.lemmas.Bool.{and_parts}
use Rattle.std.proofs.lemmas.Bool.Decides.{nat_tests}
use Rattle.wt_text.specs.Words.{number, is_decimal, value_from}
use Rattle.wt_text.specs.Spellings.{IsClean}

-- a number by its last digit
pub record LastDigit (k : ℕ) : Type 0 where
  pub front : ℕ
  pub digit : ℕ
  pub few : digit < 10
  pub sum : k ≡ front * 10 + digit

last_digit : (k : ℕ) → LastDigit k
last_digit zero = record { front = 0; digit = 0; few = omega arith; sum = omega arith }
last_digit (suc k) = by (last_digit k)
  where
    go : (l : LastDigit k) (b : Bool) → nat_lt l.digit 9 ≡ b → LastDigit (suc k)
    go l true e = record { front = l.front; digit = l.digit + 1; few = let f = l.few in grind (arith, nat_tests); sum = let s = l.sum in omega (arith, s) }
    go l false e =
        let nine : l.digit ≡ 9 = let f = l.few in grind (arith, nat_tests) in
        record { front = l.front + 1; digit = 0; few = omega arith; sum = let s = l.sum in omega (arith, s, nine) }

    by : LastDigit k → LastDigit (suc k)
    by l = go l (nat_lt l.digit 9) refl

-- digits with a leading one that isn't 0
pub record Digits (k : ℕ) : Type 0 where
  pub lead : ℕ
  pub tail : List ℕ
  pub digit : is_ascii_digit lead ≡ true
  pub first : nat_eq lead 48 ≡ false
  pub digits : all_ascii_digits tail ≡ true
  pub value : value_from 0 (lead ∷ tail) ≡ k

digit_of : (d : ℕ) → d < 10 → is_ascii_digit (48 + d) ≡ true
digit_of d lt = grind (arith, nat_tests)

no_zero : (d : ℕ) → 0 < d → nat_eq (48 + d) 48 ≡ false
no_zero d lt = grind (arith, nat_tests)

more_digits : (ds : List ℕ) (d : ℕ) → all_ascii_digits ds ≡ true → is_ascii_digit d ≡ true → all_ascii_digits (ds ++ d ∷ []) ≡ true
more_digits [] d a b = rw b refl
more_digits (c ∷ ds) d a b = let p = and_parts (is_ascii_digit c) (all_ascii_digits ds) a in rw (p.0, more_digits ds d p.1 b) refl

more_value : (n : ℕ) (ds : List ℕ) (d : ℕ) → value_from n (ds ++ d ∷ []) ≡ value_from n ds * 10 + (d - 48)
more_value n [] d = refl
more_value n (c ∷ ds) d = more_value (n * 10 + (c - 48)) ds d

spell : (fuel k : ℕ) → 0 < k → k ≤ fuel → Digits k
spell zero k some le = absurd (omega (arith, some, le))
spell (suc fuel) k some le = by (last_digit k) (λ q small few. spell fuel q small few)
  where
    single : (d : ℕ) → 0 < d → d < 10 → k ≡ d → Digits k
    single d pos lt e = record { lead = 48 + d; tail = []; digit = digit_of d lt; first = no_zero d pos; digits = refl; value = omega (arith, e) }

    more' : (l : LastDigit k) → Digits l.front → Digits k
    more' l f = record {
      lead = f.lead;
      tail = f.tail ++ (48 + l.digit) ∷ [];
      digit = f.digit;
      first = f.first;
      digits = more_digits f.tail (48 + l.digit) f.digits (digit_of l.digit l.few);
      value = more_value 0 (f.lead ∷ f.tail) (48 + l.digit) ∙ ap (λ (v : ℕ). v * 10 + (48 + l.digit - 48)) f.value ∙ (let s = l.sum in omega (arith, s));
    }

    go : (l : LastDigit k) → ((q : ℕ) → 0 < q → q ≤ fuel → Digits q) → (b : Bool) → nat_lt 0 l.front ≡ b → Digits k
    go l below true e =
        let pos : 0 < l.front = grind (arith, nat_tests, e) in
        more' l (below l.front pos (let s = l.sum in omega (arith, s, le, pos)))
    go l below false e =
        let none : l.front ≡ 0 = grind (arith, nat_tests, e) in
        let same : k ≡ l.digit = let s = l.sum in omega (arith, s, none) in
        single l.digit (omega (arith, same, some)) l.few same

    by : LastDigit k → ((q : ℕ) → 0 < q → q ≤ fuel → Digits q) → Digits k
    by l below = go l below (nat_lt 0 l.front) refl

digit_clean : (b : ℕ) → is_ascii_digit b ≡ true → (nat_eq b 32 ≡ false) × (nat_eq b 10 ≡ false)
digit_clean b e = (grind (arith, nat_tests), grind (arith, nat_tests))

digits_clean : (ds : List ℕ) → all_ascii_digits ds ≡ true → IsClean ds
digits_clean [] e = tt
digits_clean (d ∷ ds) e = let p = and_parts (is_ascii_digit d) (all_ascii_digits ds) e in let q = digit_clean d p.0 in (q.0, q.1, digits_clean ds p.1)

-- a token that spells a number
pub record Numeral (k : ℕ) : Type 0 where
  pub token : List ℕ
  pub clean : IsClean token
  pub spells : number token ≡ Some k

lead_fits : (d n : ℕ) → nat_eq d 48 ≡ false → not (nat_eq (suc (suc n)) 0 || (nat_lt 1 (suc (suc n)) && nat_eq d 48)) ≡ true
lead_fits d n e = grind (arith, nat_tests)

decimal_of : (d : ℕ) (ds : List ℕ) → nat_eq d 48 ≡ false → is_ascii_digit d ≡ true → all_ascii_digits ds ≡ true → is_decimal (d ∷ ds) ≡ true
decimal_of d [] first digit digits = rw digit refl
decimal_of d (c ∷ ds) first digit digits = rw (lead_fits d (length ds) first, digit, digits) refl

pub numeral : (k : ℕ) → Numeral k
numeral zero = record { token = 48 ∷ []; clean = (refl, refl, tt); spells = refl }
numeral (suc k) =
    let d = spell (suc k) (suc k) (omega arith) (omega arith) in
    let all : all_ascii_digits (d.lead ∷ d.tail) ≡ true = let a = d.digit in let b = d.digits in rw (a, b) refl in
    let plain = decimal_of d.lead d.tail d.first d.digit d.digits in
    record { token = d.lead ∷ d.tail; clean = digits_clean (d.lead ∷ d.tail) all; spells = rw plain (ap (λ (n : ℕ). Some n) d.value) }
