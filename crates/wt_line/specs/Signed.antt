-- Signed numbers as tokens.
use Rattle.std.specs.Prelude.{Bool, false, ◌&&◌, not, nat_eq, if◌then◌else◌, ℕ, ℤ, pos, neg_ℤ, List, [], ◌∷◌, codes}
use Rattle.std.specs.Str.{bytes_eq}
use Rattle.wt_text.specs.Words.{is_decimal, value_from}

-- a decimal number without a leading zero, and a minus before it where it is below zero; so "-0" is none
abbrev pub is_signed : List ℕ → Bool
is_signed [] = false
is_signed (b ∷ bs) = if nat_eq b 45 then is_decimal bs && not (bytes_eq bs (codes "0")) else is_decimal (b ∷ bs)

-- the whole number that is written so
abbrev pub signed_value : List ℕ → ℤ
signed_value [] = pos 0
signed_value (b ∷ bs) = if nat_eq b 45 then neg_ℤ (pos (value_from 0 bs)) else pos (value_from 0 (b ∷ bs))
