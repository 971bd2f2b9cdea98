-- Numbers of a row read one after the other, as a loop does.
use Rattle.std.proofs.Common.{◌≡◌, ℕ, suc, ◌-◌, ◌+◌, ◌≤◌, ◌<◌, List, [], ◌∷◌, ◌++◌, Option, Some, None, Result, Ok, Err, refl, sym, ap, ◌∙◌, append_assoc, arith}
use Rattle.std.proofs.lemmas.List.{append-nil}
use Rattle.wt_line.specs.declared.faults.What.{What}
use Rattle.wt_line.specs.declared.faults.LineFault.{LineFault}
use Rattle.wt_line.specs.declared.faults.LineFault.TheVariants.{Wrong, Past, OutOfMemory}
use Rattle.wt_line.specs.Faults.{NotRead, LineFails}
use Rattle.wt_text.specs.Readers.{◌>>=◌, value_in_front, judge}
use Rattle.wt_line.specs.Limits.{small}
use Rattle.wt_pattern.specs.PatternRows.{times}
use Rattle.wt_line.specs.Given.{with_number}

abbrev pub Tokens : Type 0
Tokens = List (List ℕ)

-- what was read before, and what is read behind it
abbrev pub led : Result (List ℕ) What → Result (List ℕ) What → Result (List ℕ) What
led (Ok xs) (Ok ys) = Ok (xs ++ ys)
led (Ok xs) (Err w) = Err w
led (Err w) r = Err w

abbrev pub behind_cells : Result (List ℕ) What → Option (Result (List ℕ) What × Tokens) → Option (Result (List ℕ) What × Tokens)
behind_cells front None = None
behind_cells front (Some x) = Some (led front x.0, x.1)

abbrev pub cells_left : ℕ → Tokens → Option (Result (List ℕ) What × Tokens)
cells_left n ts = times small n ts

led_joined : (front : Result (List ℕ) What) (a : Result ℕ What) (r : Result (List ℕ) What) → led front (value_in_front a r) ≡ led (with_number front a) r
led_joined (Ok xs) (Ok a) (Ok ys) = ap (λ (l : List ℕ). Ok l) (sym (append_assoc xs (a ∷ []) ys))
led_joined (Ok xs) (Ok a) (Err w) = refl
led_joined (Ok xs) (Err v) r = refl
led_joined (Err v) a r = refl

regroup : (front : Result (List ℕ) What) (a : Result ℕ What) (r : Option (Result (List ℕ) What × Tokens)) → behind_cells front (r >>= λ x. Some (value_in_front a x.0, x.1)) ≡ behind_cells (with_number front a) r
regroup front a None = refl
regroup front a (Some x) = ap (λ (y : Result (List ℕ) What). Some (y, x.1)) (led_joined front a x.0)

led_nothing : (front : Result (List ℕ) What) → led front (Ok []) ≡ front
led_nothing (Ok xs) = ap (λ (l : List ℕ). Ok l) (append-nil xs)
led_nothing (Err w) = refl

pub begins : (n : ℕ) (ts : Tokens) → behind_cells (Ok []) (cells_left (n - 0) ts) ≡ cells_left n ts
begins n ts = let k : n - 0 ≡ n = omega arith in rw k (go (cells_left n ts))
  where
    same : (r : Result (List ℕ) What) → led (Ok []) r ≡ r
    same (Ok ys) = refl
    same (Err w) = refl

    go : (r : Option (Result (List ℕ) What × Tokens)) → behind_cells (Ok []) r ≡ r
    go None = refl
    go (Some x) = ap (λ (y : Result (List ℕ) What). Some (y, x.1)) (same x.0)

pub goes_on : (front : Result (List ℕ) What) (count i : ℕ) (ts : Tokens) (a : Result ℕ What) (rest : Tokens) (total : Option (Result (List ℕ) What × Tokens)) → i < count → small ts ≡ Some (a, rest)
    → behind_cells front (cells_left (count - i) ts) ≡ total → behind_cells (with_number front a) (cells_left (count - (i + 1)) rest) ≡ total
goes_on front count i ts a rest total lt h so_far =
    let k : count - i ≡ suc (count - (i + 1)) = omega arith in
    let one : behind_cells front (cells_left (count - i) ts) ≡ behind_cells (with_number front a) (cells_left (count - (i + 1)) rest) = rw (k, h) (regroup front a (cells_left (count - (i + 1)) rest)) in
    sym one ∙ so_far

pub ends : (e : LineFault) (front : Result (List ℕ) What) (count i : ℕ) (ts : Tokens) (total : Option (Result (List ℕ) What × Tokens)) → i < count → NotRead e (small ts)
    → behind_cells front (cells_left (count - i) ts) ≡ total → LineFails e (judge total)
ends Wrong front count i ts total lt h so_far =
    let k : count - i ≡ suc (count - (i + 1)) = omega arith in
    let none : behind_cells front (cells_left (count - i) ts) ≡ None = rw (k, h) refl in
    rw (sym so_far ∙ none) refl
ends (Past what) front count i ts total lt h so_far = absurd h
ends OutOfMemory front count i ts total lt h so_far = tt

pub is_done : (front : Result (List ℕ) What) (count i : ℕ) (ts : Tokens) (total : Option (Result (List ℕ) What × Tokens)) → count ≤ i → behind_cells front (cells_left (count - i) ts) ≡ total → total ≡ Some (front, ts)
is_done front count i ts total le so_far =
    let k : count - i ≡ 0 = omega arith in
    let one : behind_cells front (cells_left (count - i) ts) ≡ Some (front, ts) = rw k (ap (λ (y : Result (List ℕ) What). Some (y, ts)) (led_nothing front)) in
    sym so_far ∙ one
