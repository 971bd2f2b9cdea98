-- The tokens of a line, counted.
use Rattle.std.proofs.Common.{arith, ◌≡◌, ◌≤◌, ◌-◌, ℕ, ◌+◌, Bool, true, false, cond, nat_eq, List, [], ◌∷◌, length, refl}
use Rattle.std.specs.Prelude.{count_by}
use Rattle.std.proofs.lemmas.List.Recursion.{is_count_by}
use Rattle.wt_text.specs.Words.{tokens, in_first}
use Rattle.wt_text.specs.Spellings.{IsNotEmpty}
use Rattle.wt_text.proofs.Split.{some_tokens}

-- a byte of the first token makes no token
length-in_first : (b : ℕ) (ts : List (List ℕ)) → IsNotEmpty ts → length (in_first b ts) ≡ length ts
length-in_first b [] s = absurd s
length-in_first b (t ∷ ts) s = refl

at_least_one : (ts : List (List ℕ)) → IsNotEmpty ts → 1 ≤ length ts
at_least_one [] s = absurd s
at_least_one (t ∷ ts) s = omega arith

-- how many tokens there are behind the first
more_tokens : List ℕ → ℕ
more_tokens line = length (tokens line) - 1

step : (b : ℕ) (bs : List ℕ) → more_tokens (b ∷ bs) ≡ cond (nat_eq b 32) (1 + more_tokens bs) (more_tokens bs)
unfolding more_tokens
step b bs = go (nat_eq b 32) (at_least_one (tokens bs) (some_tokens bs)) (length-in_first b (tokens bs) (some_tokens bs))
  where
    go : (s : Bool) → 1 ≤ length (tokens bs) → length (in_first b (tokens bs)) ≡ length (tokens bs)
        → length (cond s ([] ∷ tokens bs) (in_first b (tokens bs))) - 1 ≡ cond s (1 + (length (tokens bs) - 1)) (length (tokens bs) - 1)
    go true some e = omega arith
    go false some e = omega arith

pub length-tokens : (line : List ℕ) → length (tokens line) ≡ count_by (λ b. nat_eq b 32) line + 1
unfolding more_tokens
length-tokens line =
    let e : length (tokens line) - 1 ≡ count_by (λ b. nat_eq b 32) line = is_count_by more_tokens (λ b. nat_eq b 32) refl step line in
    omega (arith, e, at_least_one (tokens line) (some_tokens line))
