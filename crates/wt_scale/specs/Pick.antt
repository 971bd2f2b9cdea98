-- The picks of a loop: one valid pattern of each size, by name.
use Rattle.std.specs.Prelude.{ℕ, zero, suc, ◌+◌, ◌*◌, ◌^◌, max, nat_le, if◌then◌else◌, List, take, drop}
use Rattle.wt_grid.specs.Grid.{Grid}
use Rattle.wt_grid.specs.Parts.{part}
use Rattle.wt_step.specs.declared.raw.RawLink.{RawLink}
use Rattle.wt_chain.specs.Turns.{image_through, turned_times, single}

-- the first of k, k + 1 and so on whose power of two is at least n, in n tries
abbrev pub power_from : ℕ → ℕ → ℕ → ℕ
power_from n k zero = k
power_from n k (suc tries) = if nat_le n (2 ^ k) then k else power_from n (k + 1) tries

-- the least k with n ≤ 2^k; n tries from 0 on are enough, since n ≤ 2^n
abbrev pub power_for : ℕ → ℕ
power_for n = power_from n 0 n

-- the lower left part, w cells wide and h cells high
abbrev pub lower_left : ℕ → ℕ → Grid → Grid
lower_left w h g = part g 0 0 w h

-- what k times e turns of a loop make of tile 0
abbrev pub grown : List RawLink → List ℕ → ℕ → ℕ → Grid
grown loop renaming e k = turned_times loop renaming (k * e) (single 0)

-- The pick of w by h cells: the lower left part, w cells wide and h cells high, of what k times e turns of the loop make of tile 0, taken down the steps before the loop, where k is the least with max(w, h) ≤ 2^k.
abbrev pub pick : List RawLink → ℕ → List ℕ → ℕ → ℕ → ℕ → Grid
pick steps start renaming e w h = lower_left w h (image_through (take start steps) (grown (drop start steps) renaming e (power_for (max w h))))
