-- The images that markers demand.
use Rattle.std.specs.Prelude.{ℕ, Bool, false, ◌&&◌, not, slice_index_or, List, [], ◌∷◌, ◌++◌}
use Rattle.wt_grid.specs.declared.image.Image.TheVariants as image
use Rattle.wt_grid.specs.declared.image.Image.{Image}
use Rattle.wt_grid.specs.declared.axis.Side.TheVariants.{After, Before}
use Rattle.wt_grid.specs.declared.axis.Side.{Side}
use Rattle.wt_step.specs.Words.{joined}
use Rattle.wt_marker.specs.Gather.{gather, only_if, any_from}

-- whether a tile is marked in a list of flags
abbrev pub marked : List Bool → ℕ → Bool
marked marks a = slice_index_or marks a false

-- u has the non-marker v as a neighbour, on the side where markers stand
abbrev pub is_free_at : Side → (ℕ → ℕ → Bool) → (ℕ → Bool) → ℕ → ℕ → Bool
is_free_at After f m u v = not (m v) && f u v
is_free_at Before f m u v = not (m v) && f v u

-- u is a non-marker, and stands without a marker somewhere
abbrev pub is_single : Side → (ℕ → ℕ → Bool) → (ℕ → Bool) → ℕ → ℕ → Bool
is_single side f m n u = not (m u) && any_from (is_free_at side f m u) 0 n

-- tile u as an image of its own, where one is demanded
abbrev pub single_at : Side → (ℕ → ℕ → Bool) → (ℕ → Bool) → ℕ → ℕ → List Image
single_at side f m n u = only_if (is_single side f m n u) (image.One u)

-- of these pairs, those of a non-marker and a marker, in the order of the side
abbrev pub doubles : Side → (ℕ → Bool) → List (ℕ × ℕ) → List Image
doubles side m [] = []
doubles side m (p ∷ ps) = only_if (joined side (m p.0) (m p.1)) (image.Two p.0 p.1) ++ doubles side m ps

-- The images that n tiles demand, with the dominoes f of the axis, also listed as pairs, and the markers
-- m: first single tiles, then pairs.
abbrev pub demanded : Side → (ℕ → ℕ → Bool) → List (ℕ × ℕ) → (ℕ → Bool) → ℕ → List Image
demanded side f pairs m n = gather (single_at side f m n) 0 n ++ doubles side m pairs
