-- Numbers read one after the other, as a loop does.
use Rattle.std.proofs.Common.{arith, ◌≡◌, ◌≤◌, ◌<◌, ◌^◌, ◌-◌, ◌+◌, ℕ, Bool, true, false, nat_eq, nat_le, List, [], ◌∷◌, ◌++◌, length, min, Option, Some, None, Result, Ok, Err, refl, sym, ap, ◌∙◌, append_assoc, eq-eqb}
use Rattle.std.proofs.lemmas.List.{append-nil}
use Rattle.std.proofs.lemmas.Bool.Decides.{nat_tests}
use Rattle.wt_line.specs.declared.faults.What.{What}
use Rattle.wt_line.specs.declared.faults.What.TheVariants.{Tiles, Number}
use Rattle.wt_line.specs.declared.faults.LineFault.{LineFault}
use Rattle.wt_line.specs.declared.faults.LineFault.TheVariants as line
use Rattle.wt_line.specs.Faults.{NotRead}
use Rattle.wt_line.specs.Given.{left, held}
use Rattle.wt_text.specs.Words.{number, tokens}
use Rattle.wt_text.specs.Spellings.{IsNotEmpty}
use Rattle.wt_text.specs.Readers.{◌>>=◌, within, value_in_front, numbers_to, counted_numbers}
use Rattle.wt_text.proofs.Formats.{bind_some, read_is}
use Rattle.wt_text.proofs.Split.{some_tokens}
use Rattle.wt_line.specs.Limits.{small}
use Rattle.wt_line.specs.Given.{with_number}

-- numbers in front of those that are still to be read
abbrev pub led : Result (List ℕ) What → Option (Result (List ℕ) What) → Option (Result (List ℕ) What)
led front None = None
led (Ok ns) (Some (Ok ms)) = Some (Ok (ns ++ ms))
led (Ok ns) (Some (Err w)) = Some (Err w)
led (Err w) (Some r) = Some (Err w)

one_led : (front : Result (List ℕ) What) (x : Result ℕ What) (r : Option (Result (List ℕ) What)) → led front (r >>= λ ns. Some (value_in_front x ns)) ≡ led (with_number front x) r
one_led (Ok ns) (Ok n) (Some (Ok ms)) = ap (λ (y : List ℕ). Some (Ok y)) (sym (append_assoc ns (n ∷ []) ms))
one_led (Ok ns) (Ok n) (Some (Err w)) = refl
one_led (Ok ns) (Err v) (Some r) = refl
one_led (Err w) (Ok n) (Some r) = refl
one_led (Err w) (Err v) (Some r) = refl
one_led (Ok ns) (Ok n) None = refl
one_led (Ok ns) (Err v) None = refl
one_led (Err w) (Ok n) None = refl
one_led (Err w) (Err v) None = refl

pub number_led : (front : Result (List ℕ) What) (ts rest : List (List ℕ)) (x : Result ℕ What) → small ts ≡ Some (x, rest) → led front (numbers_to 65535 Number ts) ≡ led (with_number front x) (numbers_to 65535 Number rest)
number_led front [] rest x e = absurd cc
number_led front (t ∷ ts) rest x e =
    let n = bind_some (number t) (λ m. Some (within 65535 Number m, ts)) (x, rest) e in
    let p = read_is (within 65535 Number n.0) x ts rest n.2 in
    rw (n.1, p.0, ← p.1) (one_led front x (numbers_to 65535 Number ts))

pub one_fewer : (ts rest : List (List ℕ)) (x : Result ℕ What) → small ts ≡ Some (x, rest) → length ts ≡ length rest + 1
one_fewer [] rest x e = absurd cc
one_fewer (t ∷ ts) rest x e =
    let n = bind_some (number t) (λ m. Some (within 65535 Number m, ts)) (x, rest) e in
    let p = read_is (within 65535 Number n.0) x ts rest n.2 in
    rw p.1 (omega arith)

pub none_led : (front : Result (List ℕ) What) → led front (Some (Ok [])) ≡ Some front
none_led (Ok ns) = ap (λ (y : List ℕ). Some (Ok y)) (append-nil ns)
none_led (Err w) = refl

abbrev read_behind : List (List ℕ) → Option ℕ → Option (Result ℕ What × List (List ℕ))
read_behind ts r = r >>= λ n. Some (within 65535 Number n, ts)

pub no_number : (more : Bool) (line : List ℕ) → more ≡ true → small (left more line) ≡ None → numbers_to 65535 Number (left more line) ≡ None
no_number false line e h = absurd cc
no_number true line e h = go (tokens line) (some_tokens line) h
  where
    step : (t : List ℕ) (ts : List (List ℕ)) (r : Option ℕ) → number t ≡ r → (read_behind ts r) ≡ None → numbers_to 65535 Number (t ∷ ts) ≡ None
    step t ts None k m = rw k refl
    step t ts (Some n) k m = absurd cc

    go : (ts : List (List ℕ)) → IsNotEmpty ts → small ts ≡ None → numbers_to 65535 Number ts ≡ None
    go [] s m = absurd s
    go (t ∷ ts) s m = step t ts (number t) refl m

pub none_fails : (front : Result (List ℕ) What) (r : Option (Result (List ℕ) What)) → r ≡ None → led front r ≡ None
none_fails front r e = rw e (go front)
  where
    go : (front : Result (List ℕ) What) → led front None ≡ None
    go (Ok ns) = refl
    go (Err w) = refl

pub number_fails : (e : LineFault) (front : Result (List ℕ) What) (more : Bool) (line : List ℕ) (total : Option (Result (List ℕ) What)) → more ≡ true → NotRead e (small (left more line)) → led front (numbers_to 65535 Number (left more line)) ≡ total → NotRead e total
number_fails line.Wrong front more text total m h so_far = sym so_far ∙ none_fails front (numbers_to 65535 Number (left more text)) (no_number more text m h)
number_fails (line.Past what) front more text total m h so_far = absurd h
number_fails line.OutOfMemory front more text total m h so_far = tt

not_within : (n : ℕ) → 256 < n → nat_le n 256 ≡ false
not_within n lt = grind (arith, nat_tests)

-- a count past its limit, with as many numbers behind it
pub many_past : (r : Option ℕ) (t : List ℕ) (ts : List (List ℕ)) (many : ℕ) (ns : Result (List ℕ) What) → number t ≡ r → held r ≡ Some many → length ts ≡ many → 256 < many → length ts ≤ 2 ^ 63 → numbers_to 65535 Number ts ≡ Some ns
    → counted_numbers 256 Tiles 65535 Number (t ∷ ts) ≡ Some (Err Tiles, [])
many_past None t ts many ns e h k lt few m = absurd cc
many_past (Some n) t ts many ns e h k lt few m =
    let kept : min n (2 ^ 64 - 1) ≡ many = cc in
    let same : length ts ≡ n = omega (arith, kept, k, few) in
    let test : nat_eq (length ts) n ≡ true = eq-eqb _ _ same in
    rw (e, test, m, not_within n (omega (arith, same, k, lt))) refl
