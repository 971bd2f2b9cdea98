-- Numbers of a text as values of the code.
use Rattle.std.specs.Prelude.{ℕ, ◌^◌, Bool, not, ◌&&◌, ◌||◌, nat_lt, nat_eq, if◌then◌else◌, List, slice_index, Option, None, Some, Result, Ok, Err}
use Rattle.std.specs.Char.{is_ascii_digit}
use Rattle.std.specs.List.{take_while}
use Rattle.wt_io.specs.declared.numbers.NumberFault.{NumberFault}
use Rattle.wt_io.specs.declared.numbers.NumberFault.TheVariants.{NotNumber, TooLarge}

-- a number of any size, where it fits a u64
abbrev pub in_u64 : Option ℕ → Result ℕ NumberFault
in_u64 None = Err NotNumber
in_u64 (Some n) = if nat_lt n (2 ^ 64) then Ok n else Err TooLarge

-- a value that fits a u64
abbrev pub below : ℕ → Option ℕ
below n = if nat_lt n (2 ^ 64) then Some n else None

-- the digits that bytes begin with
abbrev pub digits_of : List ℕ → List ℕ
digits_of bytes = take_while is_ascii_digit bytes

-- so many digits are some, and have no zero before others
abbrev pub is_plain : List ℕ → ℕ → Bool
is_plain bytes count = not (nat_eq count 0 || (nat_lt 1 count && nat_eq (slice_index bytes 0) 48))
