-- The shapes that a pattern may have, and the first fault of another.
use Rattle.std.specs.Prelude.{ℕ, ◌+◌, ◌*◌, ◌≤◌, Bool, ◌&&◌, Option, None, Some, ◌||◌, not, nat_eq, nat_lt, nat_le, if◌then◌else◌}
use Rattle.wt_grid.specs.Grid.{Grid, IsGrid}
use Rattle.wt_grid.specs.declared.limits.TheConstants.{MAX_SIDE}
use Rattle.wt_pattern.specs.declared.fault.ShapeFault.{ShapeFault}
use Rattle.wt_pattern.specs.declared.fault.ShapeFault.TheVariants.{Zero, TooLarge, Count}

-- the first fault of a width, a height and a number of cells
abbrev pub shape_fault : ℕ → ℕ → ℕ → Option ShapeFault
shape_fault w h n =
    if nat_eq w 0 || nat_eq h 0 then Some Zero
    else if nat_lt MAX_SIDE w || nat_lt MAX_SIDE h then Some TooLarge
    else if not (nat_eq n (w * h)) then Some Count
    else None

-- a rectangle within the limits of a pattern
pub record IsShape (g : Grid) : Type 0 where
  pub grid : IsGrid g
  pub wide : g.width ≤ MAX_SIDE
  pub high : g.height ≤ MAX_SIDE

-- the w by h cells from (x, y) on are some, and lie in the rectangle
abbrev pub holds_part : Grid → ℕ → ℕ → ℕ → ℕ → Bool
holds_part g x y w h = nat_lt 0 w && nat_lt 0 h && nat_le (x + w) g.width && nat_le (y + h) g.height
