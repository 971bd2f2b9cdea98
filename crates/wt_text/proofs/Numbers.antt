-- Number tokens, both ways.
use Rattle.std.proofs.Common.{rules, arith, ◌≡◌, ◌≢◌, ℕ, zero, suc, ◌-◌, ◌+◌, ◌*◌, ◌≤◌, ◌<◌, ◌^◌, List, [], ◌∷◌, ◌++◌, length, ◌||◌, ◌&&◌, get_or, Option, Some, None, Bool, true, false, cond, not, nat_lt, nat_eq, refl, sym, ap, ◌∙◌, subst}
use Rattle.std.proofs.lemmas.Bool.{and_parts}
use Rattle.std.specs.Char.{is_ascii_digit}
use Rattle.std.specs.Fmt.{decimal}
use Rattle.std.specs.Str.{all_ascii_digits}
use Rattle.std.proofs.lemmas.Str.Parse.{IsNumeralModel, numerals_by_fold}
use Rattle.std.proofs.lemmas.Fmt.{decimal-digits_value, digits_value-decimal, digits_decimal, decimal_nonempty, first_decimal, decimal_digit}
use Rattle.std.proofs.lemmas.Bool.Decides.{nat_tests}
use Rattle.wt_text.specs.Words.{is_decimal, value_from, number}
use Rattle.wt_text.specs.Spellings.{IsClean}

pub own : IsNumeralModel (λ ds. all_ascii_digits ds ≡ true) (value_from 0)
own = numerals_by_fold _ (search rules) value_from (search rules)

-- a test that passed
pub if_some : {A : Type 0} (b : Bool) (r : Option A) (y : A) → cond b r None ≡ Some y → (b ≡ true) × (r ≡ Some y)
if_some true r y e = (refl, e)
if_some false r y e = absurd cc

pub some_is : {A : Type 0} (x y : A) → Some x ≡ Some y → x ≡ y
some_is x y e = cc

lead_zero : (d n : ℕ) → d ≡ 48 → not (nat_eq (suc (suc n)) 0 || (nat_lt 1 (suc (suc n)) && nat_eq d 48)) ≡ true → ⊥
lead_zero d n z e = grind (arith, nat_tests)

no_lead : (d n : ℕ) → d ≢ 48 → not (nat_eq (suc (suc n)) 0 || (nat_lt 1 (suc (suc n)) && nat_eq d 48)) ≡ true
no_lead d n z = grind (arith, nat_tests)

plain_parts : (ds : List ℕ) → is_decimal ds ≡ true → (0 < length ds) × (get_or ds 0 0 ≡ 48 → length ds ≡ 1) × (all_ascii_digits ds ≡ true)
plain_parts [] e = absurd cc
plain_parts (d ∷ []) e = (omega arith, λ z. refl, e)
plain_parts (d ∷ c ∷ ds) e =
    let p = and_parts (not (nat_eq (suc (suc (length ds))) 0 || (nat_lt 1 (suc (suc (length ds))) && nat_eq d 48))) (all_ascii_digits (d ∷ c ∷ ds)) e in
    (omega arith, λ z. absurd (lead_zero d (length ds) z p.0), p.1)

-- a number that is read is spelled so
pub number_found : (t : List ℕ) (n : ℕ) → number t ≡ Some n → n < 2 ^ 64 → t ≡ decimal n
number_found t n e small =
    let p = if_some (is_decimal t) _ n e in
    let value : value_from 0 t ≡ n = some_is _ _ p.1 in
    let shape = plain_parts t p.0 in
    sym (decimal-digits_value own t shape.2 shape.0 shape.1 (omega (arith, value, small))) ∙ ap decimal value

decimal_lead : (n : ℕ) → n < 2 ^ 64 → get_or (decimal n) 0 0 ≡ 48 → length (decimal n) ≡ 1
decimal_lead zero b e = ap length (decimal_digit 0 (omega arith))
decimal_lead (suc n) b e = absurd (omega (arith, first_decimal (suc n) (omega arith) b, e))

plain_again : (ds : List ℕ) → 0 < length ds → (get_or ds 0 0 ≡ 48 → length ds ≡ 1) → all_ascii_digits ds ≡ true → is_decimal ds ≡ true
plain_again [] some lead all = absurd (omega arith)
plain_again (d ∷ []) some lead all = all
plain_again (d ∷ c ∷ ds) some lead all = rw (no_lead d (length ds) (λ z. let one : suc (suc (length ds)) ≡ 1 = lead z in absurd (omega arith))) all

pub number_again : (n : ℕ) → n < 2 ^ 64 → number (decimal n) ≡ Some n
number_again n small =
    let all : all_ascii_digits (decimal n) ≡ true = digits_decimal own n small in
    let plain : is_decimal (decimal n) ≡ true = plain_again (decimal n) (decimal_nonempty n small) (decimal_lead n small) all in
    let value : value_from 0 (decimal n) ≡ n = digits_value-decimal own n small in
    rw (plain, value) refl

digit_is_clean : (b : ℕ) → is_ascii_digit b ≡ true → (nat_eq b 32 ≡ false) × (nat_eq b 10 ≡ false)
digit_is_clean b e = (grind (arith, nat_tests), grind (arith, nat_tests))

digits_clean : (ds : List ℕ) → all_ascii_digits ds ≡ true → IsClean ds
digits_clean [] e = tt
digits_clean (d ∷ ds) e = let p = and_parts (is_ascii_digit d) (all_ascii_digits ds) e in let q = digit_is_clean d p.0 in (q.0, q.1, digits_clean ds p.1)

pub decimal_clean : (n : ℕ) → n < 2 ^ 64 → IsClean (decimal n)
decimal_clean n small = digits_clean (decimal n) (digits_decimal own n small)

pub is_decimal_again : (n : ℕ) → n < 2 ^ 64 → is_decimal (decimal n) ≡ true
is_decimal_again n small = plain_again (decimal n) (decimal_nonempty n small) (decimal_lead n small) (digits_decimal own n small)

pub decimal_digits : (n : ℕ) → n < 2 ^ 64 → all_ascii_digits (decimal n) ≡ true
decimal_digits n small = digits_decimal own n small
