-- How large a pattern has to be so that no vector of a length is a period of it.
use Rattle.std.specs.Prelude.{ℕ, zero, suc, ◌+◌, ◌*◌, List, [], ◌∷◌, take, drop}
use Rattle.wt_step.specs.declared.raw.RawLink.{RawLink}
use Rattle.wt_scale.specs.Scales.{side_below}

-- the side that a pattern needs so that the coarse pattern behind these steps has a side; each step pays for its margin and its cuts
abbrev pub size_from : List RawLink → ℕ → ℕ
size_from [] side = side
size_from (link ∷ links) side = side_below link (size_from links side)

-- the same after n turns of a loop
abbrev pub turns_size : List RawLink → ℕ → ℕ → ℕ
turns_size loop zero side = side
turns_size loop (suc n) side = turns_size loop n (size_from loop side)

-- the size for vectors of components of at most m, which k turns of the loop to the power e outgrow: the steps before the loop, and then e times k turns
abbrev pub size_of : List RawLink → ℕ → ℕ → ℕ → ℕ → ℕ
size_of steps start e k m = size_from (take start steps) (turns_size (drop start steps) (e * k) (m + 2))
