-- The form of a tree, by what is owed.
use Rattle.std.proofs.Common.{arith, ◌≡◌, ◌⊎◌, inl, inr, ℕ, zero, suc, ◌+◌, ◌-◌, ◌≤◌, ◌<◌, ◌^◌, min, Bool, true, false, cond, not, ◌&&◌, nat_eq, List, [], ◌∷◌, length, Option, Some, None, refl, sym, ap, ◌∙◌}
use Rattle.wt_text.specs.Words.{tokens, in_first, is_decimal}
use Rattle.wt_text.specs.Spellings.{IsNotEmpty}
use Rattle.wt_text.proofs.Split.{some_tokens}
use Rattle.wt_line.specs.Given.{left, room}
use Rattle.wt_cert.specs.Trees.{Ending, children, cites, ending, is_ending, owed_by, held_owed, is_forest, is_tree}

no_and : (a : Bool) → (a && false) ≡ false
no_and true = refl
no_and false = refl

-- more is owed than there are tokens
pub too_many : (citing : Bool) (n : ℕ) (ts : List (List ℕ)) → length ts < n → is_forest citing n ts ≡ false
too_many citing zero ts lt = absurd (omega arith)
too_many citing (suc n) [] lt = refl
too_many citing (suc n) (a ∷ []) lt = refl
too_many citing (suc n) (a ∷ b ∷ []) lt = refl
too_many citing (suc n) (a ∷ b ∷ c ∷ ts) lt = rw (too_many citing (n + owed_by (ending citing c)) ts (omega (arith, lt))) (no_and ((is_decimal a && is_decimal b) && is_ending (ending citing c)))

-- what is held in place of what is owed
pub held_same : (citing : Bool) (m n : ℕ) (ts : List (List ℕ)) → length ts < 2 ^ 64 - 1 → min m (2 ^ 64 - 1) ≡ min n (2 ^ 64 - 1) → is_forest citing m ts ≡ is_forest citing n ts
held_same citing m n ts few e = go (cases m n e)
  where
    cases : (m n : ℕ) → min m (2 ^ 64 - 1) ≡ min n (2 ^ 64 - 1) → (m ≡ n) ⊎ ((2 ^ 64 - 1 ≤ m) × (2 ^ 64 - 1 ≤ n))
    cases m n e = grind arith

    go : (m ≡ n) ⊎ ((2 ^ 64 - 1 ≤ m) × (2 ^ 64 - 1 ≤ n)) → is_forest citing m ts ≡ is_forest citing n ts
    go (inl same) = ap (λ (k : ℕ). is_forest citing k ts) same
    go (inr big) = too_many citing m ts (omega (arith, big.0, few)) ∙ sym (too_many citing n ts (omega (arith, big.1, few)))

tokens_few : (line : List ℕ) → length (tokens line) ≤ length line + 1
tokens_few [] = omega arith
tokens_few (b ∷ bs) = go (nat_eq b 32) (tokens bs) (tokens_few bs)
  where
    go : (s : Bool) (ts : List (List ℕ)) → length ts ≤ length bs + 1 → length (cond s ([] ∷ ts) (in_first b ts)) ≤ suc (length bs) + 1
    go true ts le = omega (arith, le)
    go false [] le = omega arith
    go false (t ∷ ts) le = omega (arith, le)

pub left_few : (more : Bool) (line : List ℕ) → length (left more line) ≤ room more line
left_few true line = tokens_few line
left_few false line = omega arith

-- an ending, as what it owes
pub held_ending : (r : Option Ending) (owed : ℕ) → held_owed r ≡ Some owed → (is_ending r ≡ true) × (owed ≡ min (owed_by r) (2 ^ 64 - 1))
held_ending None owed e = absurd cc
held_ending (Some (children n)) owed e = let same : min n (2 ^ 64 - 1) ≡ owed = cc in (refl, sym same)
held_ending (Some (cites axis)) owed e = let same : 0 ≡ owed = cc in (refl, omega (arith, same))

pub no_ending : (r : Option Ending) → held_owed r ≡ None → is_ending r ≡ false
no_ending None e = refl
no_ending (Some (children n)) e = absurd cc
no_ending (Some (cites axis)) e = absurd cc

pub child_form : (citing : Bool) (tile cell count : List ℕ) (ts : List (List ℕ)) (owed n : ℕ) → is_decimal tile ≡ true → is_decimal cell ≡ true → held_owed (ending citing count) ≡ Some owed → length ts < 2 ^ 64 - 1
    → is_forest citing (suc n) (tile ∷ cell ∷ count ∷ ts) ≡ is_forest citing (n + owed) ts
child_form citing tile cell count ts owed n a b e few =
    let h = held_ending (ending citing count) owed e in
    rw (a, b, h.0) (held_same citing (n + owed_by (ending citing count)) (n + owed) ts few (omega (arith, h.1)))

pub no_child : (citing : Bool) (tile cell count : List ℕ) (ts : List (List ℕ)) (n : ℕ) → (is_decimal tile ≡ false) ⊎ ((is_decimal cell ≡ false) ⊎ (held_owed (ending citing count) ≡ None)) → is_forest citing (suc n) (tile ∷ cell ∷ count ∷ ts) ≡ false
no_child citing tile cell count ts n (inl e) = rw e refl
no_child citing tile cell count ts n (inr (inl e)) = rw e (ap (λ (b : Bool). (b && is_ending (ending citing count)) && is_forest citing (n + owed_by (ending citing count)) ts) (no_and (is_decimal tile)))
no_child citing tile cell count ts n (inr (inr e)) = rw (no_ending (ending citing count) e) (ap (λ (b : Bool). b && is_forest citing (n + owed_by (ending citing count)) ts) (no_and (is_decimal tile && is_decimal cell)))

pub first_form : (citing : Bool) (cell count : List ℕ) (ts : List (List ℕ)) (owed : ℕ) → is_decimal cell ≡ true → held_owed (ending citing count) ≡ Some owed → length ts < 2 ^ 64 - 1
    → is_tree citing (cell ∷ count ∷ ts) ≡ is_forest citing owed ts
first_form citing cell count ts owed b e few =
    let h = held_ending (ending citing count) owed e in
    rw (b, h.0) (held_same citing (owed_by (ending citing count)) owed ts few (omega (arith, h.1)))

pub no_first : (citing : Bool) (cell count : List ℕ) (ts : List (List ℕ)) → (is_decimal cell ≡ false) ⊎ (held_owed (ending citing count) ≡ None) → is_tree citing (cell ∷ count ∷ ts) ≡ false
no_first citing cell count ts (inl e) = rw e refl
no_first citing cell count ts (inr e) = rw (no_ending (ending citing count) e) (ap (λ (b : Bool). b && is_forest citing (owed_by (ending citing count)) ts) (no_and (is_decimal cell)))

pub room_small : (more : Bool) (line : List ℕ) → length line < 2 ^ 63 → room more line ≤ 2 ^ 63
room_small true line lt = omega arith
room_small false line lt = omega arith

pub none_owed : (citing more : Bool) (line : List ℕ) → not more ≡ is_forest citing 0 (left more line)
none_owed citing false line = refl
none_owed citing true line = go (tokens line) (some_tokens line)
  where
    go : (ts : List (List ℕ)) → IsNotEmpty ts → false ≡ is_forest citing 0 ts
    go [] s = absurd s
    go (t ∷ ts) s = refl
