-- Axes and sides as tokens.
use Rattle.std.specs.Prelude.{ℕ, List, Option, Result, codes}
use Rattle.wt_grid.specs.declared.axis.Axis.{Axis}
use Rattle.wt_grid.specs.declared.axis.Axis.TheVariants.{One, Two}
use Rattle.wt_grid.specs.declared.axis.Side.{Side}
use Rattle.wt_grid.specs.declared.axis.Side.TheVariants.{After, Before}
use Rattle.wt_line.specs.declared.faults.What.{What}
use Rattle.wt_text.specs.Readers.{either_word}

-- 1 or 2 for an axis
abbrev pub axis : List (List ℕ) → Option (Result Axis What × List (List ℕ))
axis = either_word (codes "1") One (codes "2") Two

-- the side on which a marker stands
abbrev pub side : List (List ℕ) → Option (Result Side What × List (List ℕ))
side = either_word (codes "after") After (codes "before") Before
