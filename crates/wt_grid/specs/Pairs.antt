-- Pairs of numbers, by the first and then by the second.
use Rattle.std.specs.Prelude.{ℕ, Bool, ◌&&◌, ◌||◌, nat_eq, nat_lt}

-- p comes before the pair of a and b
abbrev pub pair_before : ℕ → ℕ → ℕ × ℕ → Bool
pair_before a b p = nat_lt p.0 a || (nat_eq p.0 a && nat_lt p.1 b)

-- p is the pair of a and b
abbrev pub is_this_pair : ℕ → ℕ → ℕ × ℕ → Bool
is_this_pair a b p = nat_eq p.0 a && nat_eq p.1 b

-- pair q comes after pair p
abbrev pub pairs_follow : ℕ × ℕ → ℕ × ℕ → Bool
pairs_follow p q = pair_before q.0 q.1 p

-- both are below n
abbrev pub pair_fits : ℕ → ℕ × ℕ → Bool
pair_fits n p = nat_lt p.0 n && nat_lt p.1 n
