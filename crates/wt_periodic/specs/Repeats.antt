-- Rectangles repeated side by side to any size.
use Rattle.std.specs.Prelude.{ℕ, ◌%◌, ◌||◌, pos, List, Option, None, Some, nat_eq, nat_lt, if◌then◌else◌}
use Rattle.wt_tile.specs.declared.tile.Tile.{Tile}
use Rattle.wt_grid.specs.Grid.{Grid, cell, grid_of}
use Rattle.wt_grid.specs.declared.limits.TheConstants.{MAX_SIDE}
use Rattle.wt_pattern.specs.Patterns.{IsPattern}
use Rattle.wt_pattern.specs.Periods.{IsPeriod}
use Rattle.wt_periodic.specs.declared.repeating.RepeatFault.{RepeatFault}
use Rattle.wt_periodic.specs.declared.repeating.RepeatFault.TheVariants.{Zero, TooLarge}

-- what g, repeated side by side from (0, 0) on, has at (x, y)
abbrev pub repeated_cell : Grid → ℕ → ℕ → ℕ
repeated_cell g x y = cell g (x % g.width) (y % g.height)

-- g repeated to w by h cells
abbrev pub repeated : Grid → ℕ → ℕ → Grid
repeated g w h = grid_of w h (repeated_cell g)

-- the first fault of a width and a height that are asked for
abbrev pub repeat_fault : ℕ → ℕ → Option RepeatFault
repeat_fault w h =
    if nat_eq w 0 || nat_eq h 0 then Some Zero
    else if nat_lt MAX_SIDE w || nat_lt MAX_SIDE h then Some TooLarge
    else None

-- r is a valid pattern, and has the width and the height of g as periods
pub record IsPeriodic (ts : List Tile) (g r : Grid) : Type 0 where
  pub pattern : IsPattern ts r
  pub right : IsPeriod r (pos g.width) (pos 0)
  pub up : IsPeriod r (pos 0) (pos g.height)
