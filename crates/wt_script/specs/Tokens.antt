-- What the lines of a script are made of.
use Rattle.std.specs.Prelude.{ℕ, ◌^◌, ◌-◌, Bool, true, false, ◌&&◌, ◌||◌, nat_le, nat_lt, nat_eq, if◌then◌else◌, ℤ, pos, unsigned_abs, List, [], ◌∷◌, length, Option, None, Some, Result, Ok, Err, codes}
use Rattle.wt_golden.specs.Fractions.{Fraction, lowest}
use Rattle.wt_grid.specs.declared.axis.Axis.{Axis}
use Rattle.wt_grid.specs.declared.axis.Axis.TheVariants.{One, Two}
use Rattle.wt_line.specs.declared.faults.What.{What}
use Rattle.wt_line.specs.declared.faults.What.TheVariants.{Number, Golden}
use Rattle.wt_line.specs.Signed.{is_signed, signed_value}
use Rattle.wt_pattern.specs.declared.drawing.Style.{Style}
use Rattle.wt_pattern.specs.declared.drawing.Style.TheVariants.{Numbers, Boxes}
use Rattle.wt_script.specs.declared.limits.TheConstants.{MAX_NAME, MAX_AXES, PLANE_LIMIT}
use Rattle.wt_text.specs.Words.{is_decimal, value_from}
use Rattle.wt_text.specs.Readers.{◌>>=◌, number_to, either_word}
use Rattle.wt_torus.specs.Codes.{is_within}

-- ---- names

-- a small letter, by its byte
abbrev pub is_letter : ℕ → Bool
is_letter b = nat_le 97 b && nat_le b 122

-- a small letter, a digit or `_`
abbrev pub is_name_byte : ℕ → Bool
is_name_byte b = is_letter b || (nat_le 48 b && nat_le b 57) || nat_eq b 95

-- each byte is one of these
abbrev pub all_name_bytes : List ℕ → Bool
all_name_bytes [] = true
all_name_bytes (b ∷ bs) = is_name_byte b && all_name_bytes bs

-- 1 to 32 bytes, each a small letter, a digit or `_`, and the first one a letter
abbrev pub is_name : List ℕ → Bool
is_name [] = false
is_name (b ∷ bs) = nat_lt (length bs) MAX_NAME && is_letter b && all_name_bytes bs

-- a name has no limit: one that is too long has no form
abbrev pub name : List (List ℕ) → Option (Result (List ℕ) What × List (List ℕ))
name [] = None
name (t ∷ ts) = if is_name t then Some (Ok t, ts) else None

-- ---- numbers

-- a budget, or the number of lines of a certificate: below 2^64
abbrev pub large : List (List ℕ) → Option (Result ℕ What × List (List ℕ))
large = number_to (2 ^ 64 - 1) Number

-- a signed number with a limit: below it in absolute value
abbrev pub signed_below : ℕ → List (List ℕ) → Option (Result ℤ What × List (List ℕ))
signed_below limit [] = None
signed_below limit (t ∷ ts) = if is_signed t then Some (if nat_lt (unsigned_abs (signed_value t)) limit then Ok (signed_value t) else Err Number, ts) else None

-- a component of a vector: below 2^63 in length
abbrev pub component : List (List ℕ) → Option (Result ℤ What × List (List ℕ))
component = signed_below (2 ^ 63)

-- a number of a half-plane
abbrev pub plane_number : List (List ℕ) → Option (Result ℤ What × List (List ℕ))
plane_number = signed_below PLANE_LIMIT

-- ---- golden numbers

-- what stands before the first colon, and what stands behind it
abbrev pub at_colon : List ℕ → Option (List ℕ × List ℕ)
at_colon [] = None
at_colon (b ∷ bs) = if nat_eq b 58 then Some ([], bs) else (at_colon bs >>= λ x. Some (b ∷ x.0, x.1))

-- a number that is at least 1
abbrev pub is_divisor : List ℕ → Bool
is_divisor t = is_decimal t && nat_lt 0 (value_from 0 t)

-- (a + b φ) / d by its three tokens
abbrev pub written : List ℕ → List ℕ → List ℕ → Fraction
written a b d = record { a = signed_value a; b = signed_value b; d = pos (value_from 0 d) }

-- a fraction in lowest terms, where each of its three numbers as they are written is below the limit
abbrev pub golden_within : Fraction → Result Fraction What
golden_within f = if is_within f then Ok (lowest f) else Err Golden

-- a:b:d, the number (a + b φ) / d
abbrev pub golden_token : List ℕ → Option (Result Fraction What)
golden_token t = at_colon t >>= λ x. at_colon x.1 >>= λ y. if is_signed x.0 && (is_signed y.0 && is_divisor y.1) then Some (golden_within (written x.0 y.0 y.1)) else None

-- a golden number
abbrev pub golden : List (List ℕ) → Option (Result Fraction What × List (List ℕ))
golden [] = None
golden (t ∷ ts) = golden_token t >>= λ g. Some (g, ts)

-- ---- words

-- `numbers` or `boxes`
abbrev pub style : List (List ℕ) → Option (Result Style What × List (List ℕ))
style = either_word (codes "numbers") Numbers (codes "boxes") Boxes

-- digits `1` and `2`, each an axis
abbrev pub axes_of : List ℕ → Option (List Axis)
axes_of [] = Some []
axes_of (b ∷ bs) =
    if nat_eq b 49 then (axes_of bs >>= λ more. Some (One ∷ more))
    else if nat_eq b 50 then (axes_of bs >>= λ more. Some (Two ∷ more)) else None

-- the axes of a search: 1 to 8 of them in one token
abbrev pub axes_word : List (List ℕ) → Option (Result (List Axis) What × List (List ℕ))
axes_word [] = None
axes_word (t ∷ ts) = if nat_le 1 (length t) && nat_le (length t) MAX_AXES then (axes_of t >>= λ list. Some (Ok list, ts)) else None
