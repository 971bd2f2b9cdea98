-- Whether a chain's loop is primitive: some power of its map makes every tile of every tile.
use Rattle.std.specs.Prelude.{◌≡◌, ℕ, ◌+◌, ◌-◌, ◌*◌, ◌<◌, ◌≤◌, List, drop, Option, None, Some}
use Rattle.wt_step.specs.declared.raw.RawLink.{RawLink}
use Rattle.wt_chain.specs.declared.raw.End.{End}
use Rattle.wt_chain.specs.declared.raw.End.TheVariants.{Open, Loop}
use Rattle.wt_chain.specs.Sets.{first_count}
use Rattle.wt_check.specs.Powers.{power, count}
use Rattle.wt_check.specs.Masks.{AreMasks}

-- each tile of the loop's first set stands in what n turns make of each
abbrev pub IsMixing : List RawLink → List ℕ → ℕ → Type 0
IsMixing loop renaming turns = (a b : ℕ) → a < first_count loop → b < first_count loop → 0 < count b (power loop renaming turns a)

-- the masks say for each tile of the loop's first set which tiles stand in what n turns make of it
abbrev pub ArePowers : List RawLink → List ℕ → ℕ → List (List ℕ) → Type 0
ArePowers loop renaming turns rows = AreMasks (first_count loop) rows (λ u t. count u (power loop renaming turns t))

-- the greatest power that is asked for
abbrev pub last_power : ℕ → ℕ
last_power n = (n - 1) * (n - 1) + 1

-- no power up to k from 1 on mixes
abbrev pub HasNoMixing : List RawLink → List ℕ → ℕ → Type 0
HasNoMixing loop renaming k = (j : ℕ) → 1 ≤ j → j ≤ k → IsMixing loop renaming j → ⊥

-- the least power that mixes, of those that are asked for
abbrev pub IsLoopPower : List RawLink → List ℕ → Option ℕ → Type 0
IsLoopPower loop renaming None = HasNoMixing loop renaming (last_power (first_count loop))
IsLoopPower loop renaming (Some p) = (1 ≤ p) × (p ≤ last_power (first_count loop)) × IsMixing loop renaming p × HasNoMixing loop renaming (p - 1)

-- the same for a chain's loop
abbrev pub IsPower : List RawLink → End → Option ℕ → Type 0
IsPower steps Open o = ⊥
IsPower steps (Loop start renaming expansion) o = IsLoopPower (drop start steps) renaming o
