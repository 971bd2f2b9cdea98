-- The size that a looped chain asks for a vector, and where there is none.
use Rattle.std.specs.Prelude.{ℕ, ◌^◌, max, nat_eq, nat_lt, if◌then◌else◌, ℤ, List, length, Result, Ok, Err}
use Rattle.std.specs.Int.Digits.{digits_of}
use Rattle.wt_step.specs.declared.raw.RawLink.{RawLink}
use Rattle.wt_chain.specs.declared.raw.RawChain.{RawChain}
use Rattle.wt_chain.specs.declared.raw.End.{End}
use Rattle.wt_chain.specs.declared.raw.End.TheVariants.{Open, Loop}
use Rattle.wt_step.specs.Carried.{magnitude}
use Rattle.wt_scale.specs.Sizes.{size_of}
use Rattle.wt_scale.specs.declared.size.SizeFault.{SizeFault}
use Rattle.wt_scale.specs.declared.size.SizeFault.TheVariants.{OpenChain, ZeroVector, TooLarge}

-- how many binary digits a number has; 0 has none
abbrev pub digits : ℕ → ℕ
digits m = length (digits_of 2 m)

-- the length of a vector's longer component
abbrev pub reach : ℤ → ℤ → ℕ
reach x y = max (magnitude x) (magnitude y)

-- the size for vectors with components of at most m: 2 to the power of m's number of digits is more than m
abbrev pub size_up_to : List RawLink → ℕ → ℕ → ℕ → ℕ
size_up_to steps start e m = size_of steps start e (digits m) m

-- a number, where it is below 2^128
abbrev pub in_u128 : ℕ → Result ℕ SizeFault
in_u128 n = if nat_lt n (2 ^ 128) then Ok n else Err TooLarge

-- The chain has to be looped, then the vector not zero, and then the size below 2^128.
abbrev pub size_by_end : List RawLink → End → ℕ → Result ℕ SizeFault
size_by_end steps Open m = Err OpenChain
size_by_end steps (Loop start renaming e) m = if nat_eq m 0 then Err ZeroVector else in_u128 (size_up_to steps start e m)

-- how large a pattern over the chain's first set has to be so that this vector is no period of it
abbrev pub size_result : RawChain → ℤ → ℤ → Result ℕ SizeFault
size_result c x y = size_by_end c.steps c.end (reach x y)
