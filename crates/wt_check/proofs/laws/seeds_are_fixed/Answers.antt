use Rattle.wt_check.proofs.FixedSquares.{fixed_squares, four_tiles}
use Rattle.wt_check.proofs.laws.seeds_are_fixed.Goals as goal

pub returns-clause-fixed : goal.returns-clause-fixed
returns-clause-fixed c = λ loop renaming q a b c' d. fixed_squares loop renaming q a b c' d

pub returns-clause-four : goal.returns-clause-four
returns-clause-four c = λ loop renaming q seed h. four_tiles loop renaming q seed h
