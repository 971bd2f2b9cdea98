-- The limits of rectangles.
use Rattle.std.specs.Prelude.{ℕ, Bool, ◌&&◌, nat_le}
use Rattle.wt_grid.specs.declared.limits.TheConstants.{MAX_SIDE}

-- a width or a height of a rectangle: 1 to 4096
abbrev pub is_side : ℕ → Bool
is_side n = nat_le 1 n && nat_le n MAX_SIDE
