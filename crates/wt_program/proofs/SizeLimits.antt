-- Words that are numbers within limits, and budgets, by the numbers that they spell.
use Rattle.std.proofs.Common.{arith, ◌≡◌, ◌≤◌, ◌<◌, ◌^◌, ℕ, Bool, true, false, List, refl, sym, ap, ◌∙◌}
use Rattle.std.specs.Prelude.{◌&&◌, nat_le, nat_lt, if◌then◌else◌, Option, None, Some, Result, Ok, Err}
use Rattle.std.proofs.lemmas.Bool.{and_parts, leb-true, ltb-true}
use Rattle.std.proofs.lemmas.Bool.Decides.{nat_tests}
use Rattle.wt_text.specs.Words.{is_decimal, value_from, number}
use Rattle.wt_io.specs.Numbers.{in_u64}
use Rattle.wt_io.specs.declared.numbers.NumberFault.{NumberFault}
use Rattle.wt_io.specs.declared.numbers.NumberFault.TheVariants.{TooLarge}
use Rattle.wt_program.specs.Numbers.{is_number_within, is_up_to, is_sample_side, is_budget}

past : (v k high : ℕ) → nat_lt v k ≡ false → high < k → nat_le v high ≡ false
past v k high e le = grind (arith, nat_tests, e, le)

and_no : (b : Bool) → b && false ≡ false
and_no true = refl
and_no false = refl

number_of : (low high : ℕ) (w : List ℕ) (n : ℕ) → in_u64 (number w) ≡ Ok n → is_number_within low high w ≡ (nat_le low n && nat_le n high)
number_of low high w n e = go (is_decimal w) (value_from 0 w) e
  where
    by : (t : Bool) (v : ℕ) → (if t then Ok v else Err TooLarge) ≡ Ok n → (nat_le low v && nat_le v high) ≡ (nat_le low n && nat_le n high)
    by true v e = let same : v ≡ n = cc in ap (λ (k : ℕ). nat_le low k && nat_le k high) same
    by false v e = absurd cc

    go : (b : Bool) (v : ℕ) → in_u64 (if b then Some v else None) ≡ Ok n → (b && (nat_le low v && nat_le v high)) ≡ (nat_le low n && nat_le n high)
    go true v e = by (nat_lt v (2 ^ 64)) v e
    go false v e = absurd cc

no_number : (low high : ℕ) (w : List ℕ) (f : NumberFault) → high < 2 ^ 64 → in_u64 (number w) ≡ Err f → is_number_within low high w ≡ false
no_number low high w f few e = go (is_decimal w) (value_from 0 w) e
  where
    by : (t : Bool) (v : ℕ) → nat_lt v (2 ^ 64) ≡ t → (if t then Ok v else Err TooLarge) ≡ Err f → (nat_le low v && nat_le v high) ≡ false
    by true v h e = absurd cc
    by false v h e = ap (λ (b : Bool). nat_le low v && b) (past v (2 ^ 64) high h few) ∙ and_no (nat_le low v)

    go : (b : Bool) (v : ℕ) → in_u64 (if b then Some v else None) ≡ Err f → (b && (nat_le low v && nat_le v high)) ≡ false
    go true v e = by (nat_lt v (2 ^ 64)) v refl e
    go false v e = refl

pub limit_of : (most : ℕ) (w : List ℕ) (n : ℕ) → in_u64 (number w) ≡ Ok n → is_up_to most w ≡ (nat_le 1 n && nat_le n most)
limit_of = number_of 1

pub side_of : (w : List ℕ) (n : ℕ) → in_u64 (number w) ≡ Ok n → is_sample_side w ≡ (nat_le 5 n && nat_le n 4096)
side_of = number_of 5 4096

pub no_limit : (most : ℕ) (w : List ℕ) (f : NumberFault) → most < 2 ^ 64 → in_u64 (number w) ≡ Err f → is_up_to most w ≡ false
no_limit = no_number 1

pub no_side : (w : List ℕ) (f : NumberFault) → in_u64 (number w) ≡ Err f → is_sample_side w ≡ false
no_side w f e = no_number 5 4096 w f (omega arith) e

pub budget_of : (w : List ℕ) (n : ℕ) → in_u64 (number w) ≡ Ok n → is_budget w ≡ true
budget_of w n e = go (is_decimal w) (value_from 0 w) e
  where
    by : (t : Bool) (v : ℕ) → (if t then Ok v else Err TooLarge) ≡ Ok n → t ≡ true
    by true v e = refl
    by false v e = absurd cc

    go : (b : Bool) (v : ℕ) → in_u64 (if b then Some v else None) ≡ Ok n → (b && nat_lt v (2 ^ 64)) ≡ true
    go true v e = by (nat_lt v (2 ^ 64)) v e
    go false v e = absurd cc

pub no_budget : (w : List ℕ) (f : NumberFault) → in_u64 (number w) ≡ Err f → is_budget w ≡ false
no_budget w f e = go (is_decimal w) (value_from 0 w) e
  where
    by : (t : Bool) (v : ℕ) → (if t then Ok v else Err TooLarge) ≡ Err f → t ≡ false
    by true v e = absurd cc
    by false v e = refl

    go : (b : Bool) (v : ℕ) → in_u64 (if b then Some v else None) ≡ Err f → (b && nat_lt v (2 ^ 64)) ≡ false
    go true v e = by (nat_lt v (2 ^ 64)) v e
    go false v e = refl

number_within : (low high : ℕ) (t : List ℕ) → is_number_within low high t ≡ true → (is_decimal t ≡ true) × (low ≤ value_from 0 t) × (value_from 0 t ≤ high)
number_within low high t e =
    let all = and_parts (is_decimal t) (nat_le low (value_from 0 t) && nat_le (value_from 0 t) high) e in
    let ends = and_parts (nat_le low (value_from 0 t)) (nat_le (value_from 0 t) high) all.1 in
    (all.0, leb-true low (value_from 0 t) ends.0, leb-true (value_from 0 t) high ends.1)

pub limit_within : (t : List ℕ) → is_up_to 64 t ≡ true → (is_decimal t ≡ true) × (1 ≤ value_from 0 t) × (value_from 0 t ≤ 64)
limit_within = number_within 1 64

pub side_within : (t : List ℕ) → is_sample_side t ≡ true → (is_decimal t ≡ true) × (5 ≤ value_from 0 t) × (value_from 0 t ≤ 4096)
side_within = number_within 5 4096

pub budget_within : (t : List ℕ) → is_budget t ≡ true → (is_decimal t ≡ true) × (value_from 0 t < 2 ^ 64)
budget_within t e =
    let all = and_parts (is_decimal t) (nat_lt (value_from 0 t) (2 ^ 64)) e in
    (all.0, ltb-true (value_from 0 t) (2 ^ 64) all.1)
