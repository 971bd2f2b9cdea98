-- Numbers that are held in a u64, against their limits.
use Rattle.std.proofs.Common.{arith, ◌≡◌, ℕ, ◌≤◌, ◌<◌, ◌-◌, ◌^◌, min, true, false, nat_le, nat_eq, List, [], ◌∷◌, Option, Some, None, Ok, Err, refl, sym, ap}
use Rattle.std.specs.Prelude.{option_map}
use Rattle.std.proofs.lemmas.Bool.Decides.{nat_tests}
use Rattle.wt_text.specs.Words.{number}
use Rattle.wt_text.specs.Readers.{number_to}
use Rattle.wt_text.proofs.Formats.{read_is}
use Rattle.wt_line.specs.declared.faults.What.{What}
use Rattle.wt_line.specs.Given.{held, held_number}
use Rattle.wt_line.specs.Limits.{number_from_one}

-- the first token is a number that is held as n
pub record IsHeld (ts : List (List ℕ)) (n : ℕ) (rest : List (List ℕ)) : Type 0 where
  pub token : List ℕ
  pub value : ℕ
  pub first : ts ≡ token ∷ rest
  pub spelled : number token ≡ Some value
  pub same : n ≡ min value (2 ^ 64 - 1)

pub is_held : (ts : List (List ℕ)) (n : ℕ) (rest : List (List ℕ)) → held_number ts ≡ Some (n, rest) → IsHeld ts n rest
is_held [] n rest e = absurd cc
is_held (t ∷ ts) n rest e = go (number t) refl e
  where
    go : (r : Option ℕ) → number t ≡ r → option_map {U = ℕ × List (List ℕ)} (λ m. (m, ts)) (held r) ≡ Some (n, rest) → IsHeld (t ∷ ts) n rest
    go None k h = absurd cc
    go (Some v) k h =
        let p = read_is (min v (2 ^ 64 - 1)) n ts rest h in
        record { token = t; value = v; first = ap (λ (x : List (List ℕ)). t ∷ x) p.1; spelled = k; same = sym p.0 }

is_in : (n m : ℕ) → n ≤ m → nat_le n m ≡ true
is_in n m le = grind (arith, nat_tests)

is_past : (n m : ℕ) → m < n → nat_le n m ≡ false
is_past n m lt = grind (arith, nat_tests)

is_some : (n : ℕ) → 0 < n → nat_eq n 0 ≡ false
is_some n lt = grind (arith, nat_tests)

no_spelling : (t : List ℕ) (ts : List (List ℕ)) → held_number (t ∷ ts) ≡ None → number t ≡ None
no_spelling t ts e = go (number t) e
  where
    go : (r : Option ℕ) → option_map {U = ℕ × List (List ℕ)} (λ m. (m, ts)) (held r) ≡ None → r ≡ None
    go None h = refl
    go (Some v) h = absurd cc

-- ---- a number with a limit

pub no_number_to : (most : ℕ) (what : What) (ts : List (List ℕ)) → held_number ts ≡ None → number_to most what ts ≡ None
no_number_to most what [] e = refl
no_number_to most what (t ∷ ts) e = rw (no_spelling t ts e) refl

pub number_within : (most : ℕ) (what : What) (ts rest : List (List ℕ)) (n : ℕ) → held_number ts ≡ Some (n, rest) → n ≤ most → most < 2 ^ 64 - 1 → number_to most what ts ≡ Some (Ok n, rest)
number_within most what ts rest n e le few =
    let h = is_held ts n rest e in
    let v : h.value ≡ n = omega (arith, h.same) in
    rw (h.first, h.spelled, v, is_in n most le) refl

pub number_past : (most : ℕ) (what : What) (ts rest : List (List ℕ)) (n : ℕ) → held_number ts ≡ Some (n, rest) → most < n → number_to most what ts ≡ Some (Err what, rest)
number_past most what ts rest n e lt =
    let h = is_held ts n rest e in
    rw (h.first, h.spelled, is_past h.value most (omega (arith, h.same, lt))) refl

-- ---- a number of at least 1

pub none_from_one : (most : ℕ) (what : What) (ts : List (List ℕ)) → held_number ts ≡ None → number_from_one most what ts ≡ None
none_from_one most what [] e = refl
none_from_one most what (t ∷ ts) e = rw (no_spelling t ts e) refl

pub zero_from_one : (most : ℕ) (what : What) (ts rest : List (List ℕ)) (n : ℕ) → held_number ts ≡ Some (n, rest) → n ≡ 0 → number_from_one most what ts ≡ None
zero_from_one most what ts rest n e z =
    let h = is_held ts n rest e in
    let v : h.value ≡ 0 = omega (arith, h.same, z) in
    rw (h.first, h.spelled, v) refl

pub from_one_within : (most : ℕ) (what : What) (ts rest : List (List ℕ)) (n : ℕ) → held_number ts ≡ Some (n, rest) → 0 < n → n ≤ most → most < 2 ^ 64 - 1 → number_from_one most what ts ≡ Some (Ok n, rest)
from_one_within most what ts rest n e some le few =
    let h = is_held ts n rest e in
    let v : h.value ≡ n = omega (arith, h.same) in
    rw (h.first, h.spelled, v, is_some n some, is_in n most le) refl

pub from_one_past : (most : ℕ) (what : What) (ts rest : List (List ℕ)) (n : ℕ) → held_number ts ≡ Some (n, rest) → most < n → number_from_one most what ts ≡ Some (Err what, rest)
from_one_past most what ts rest n e lt =
    let h = is_held ts n rest e in
    rw (h.first, h.spelled, is_some h.value (omega (arith, h.same, lt)), is_past h.value most (omega (arith, h.same, lt))) refl
