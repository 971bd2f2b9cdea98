-- How values of the code stand for what is read.
use Rattle.std.specs.Prelude.{ℕ, ◌^◌, ◌-◌, min, ◌+◌, ◌++◌, length, Bool, true, false, List, [], ◌∷◌, Option, None, Some, Result, Ok, Err, option_map}
use Rattle.wt_text.specs.Words.{tokens, number}

-- the tokens that are left
abbrev pub left : Bool → List ℕ → List (List ℕ)
left true line = tokens line
left false line = []

-- a number saturating at the last value of u64
abbrev pub held : Option ℕ → Option ℕ
held None = None
held (Some n) = Some (min n (2 ^ 64 - 1))

-- the number that the first token spells, saturating at the last value of u64, and the tokens behind it
abbrev pub held_number : List (List ℕ) → Option (ℕ × List (List ℕ))
held_number [] = None
held_number (t ∷ ts) = option_map (λ n. (n, ts)) (held (number t))

-- more than the bytes that are left
abbrev pub room : Bool → List ℕ → ℕ
room true line = length line + 1
room false line = 0

-- one number more, where no number so far is past its limit
abbrev pub with_number : {W : Type 0} → Result (List ℕ) W → Result ℕ W → Result (List ℕ) W
with_number (Ok ns) (Ok n) = Ok (ns ++ n ∷ [])
with_number (Ok ns) (Err w) = Err w
with_number (Err w) r = Err w
