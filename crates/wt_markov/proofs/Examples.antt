-- Pairs of regions that can follow each other, a pair that doesn't match, and regions beyond a window.
use Rattle.std.proofs.Common.{◌≡◌, ℕ, List, [], ◌∷◌, map, true, false, Some, None, refl}
use Rattle.std.specs.Prelude.{ℤ, pos, negsuc}
use Rattle.wt_golden.specs.Whole.{Whole, plus, times, opposite, is_positive, sign}
use Rattle.wt_golden.specs.Fractions.{Fraction, gcd, lowest, sum, negative}
use Rattle.wt_plane.specs.HalfPlanes.{Half, reduced_half, moved_half}
use Rattle.wt_plane.specs.Clash.{cross, dot, weighted, gap, clashes}
use Rattle.wt_tile.specs.declared.tile.Tile.{Tile}
use Rattle.wt_grid.specs.declared.axis.Axis.TheVariants as axis
use Rattle.wt_tile.specs.Matching.{matches}
use Rattle.wt_torus.specs.declared.partition.Labelled.{Labelled}
use Rattle.wt_torus.specs.declared.partition.Partition.{Partition}
use Rattle.wt_torus.specs.Boxes.{Rotation}
use Rattle.wt_markov.specs.declared.fault.MarkovFault.TheVariants.{Pair}
use Rattle.wt_markov.specs.Follow.{can_follow}
use Rattle.wt_markov.specs.Window.{is_beyond, is_inside}
use Rattle.wt_markov.specs.Faults.{pair_count, markov_fault}

abbrev number : ℤ → ℤ → ℤ → Fraction
number a b d = record { a = a; b = b; d = d }

abbrev part : ℤ → ℤ → Whole
part a b = record { a = a; b = b }

abbrev half : Whole → Whole → Whole → Half
half p q r = record { p = p; q = q; r = r }

abbrev region : ℕ → List Half → Labelled
region label hs = record { label = label; region = record { planes = hs } }

abbrev unit : Rotation
unit = record { width = number (pos 1) (pos 0) (pos 1); height = number (pos 1) (pos 0) (pos 1); move1 = number (pos 2) (negsuc 0) (pos 1); move2 = number (pos 2) (negsuc 0) (pos 1) }

-- the coordinates below φ - 1, and those above
abbrev left : Half
left = half (part (negsuc 0) (pos 0)) (part (pos 0) (pos 0)) (part (negsuc 0) (pos 1))

abbrev right : Half
right = half (part (pos 1) (pos 0)) (part (pos 0) (pos 0)) (part (pos 1) (negsuc 0))

abbrev low : Half
low = half (part (pos 0) (pos 0)) (part (negsuc 0) (pos 0)) (part (negsuc 0) (pos 1))

abbrev high : Half
high = half (part (pos 0) (pos 0)) (part (pos 1) (pos 0)) (part (pos 1) (negsuc 0))

abbrev four : Partition
four = record { torus = unit; regions = region 0 (left ∷ low ∷ []) ∷ region 1 (right ∷ low ∷ []) ∷ region 2 (left ∷ high ∷ []) ∷ region 3 (right ∷ high ∷ []) ∷ [] }

abbrev tile : ℕ → ℕ → ℕ → ℕ → Tile
tile e n w s = record { east = e; north = n; west = w; south = s }

abbrev set : List Tile
set = tile 0 0 0 0 ∷ tile 0 1 0 1 ∷ tile 1 0 1 0 ∷ tile 1 1 1 1 ∷ []

-- the same with another colour to the right of the last tile
abbrev other_set : List Tile
other_set = tile 0 0 0 0 ∷ tile 0 1 0 1 ∷ tile 1 0 1 0 ∷ tile 2 1 1 1 ∷ []

pub along : pair_count axis.One four ≡ 6
unfolding plus times opposite is_positive sign lowest gcd sum negative reduced_half moved_half cross dot weighted gap clashes can_follow
along = refl

pub upwards : pair_count axis.Two four ≡ 6
unfolding plus times opposite is_positive sign lowest gcd sum negative reduced_half moved_half cross dot weighted gap clashes can_follow
upwards = refl

pub no_fault : markov_fault set four ≡ None
unfolding plus times opposite is_positive sign lowest gcd sum negative reduced_half moved_half cross dot weighted gap clashes can_follow matches markov_fault
no_fault = refl

pub fault : markov_fault other_set four ≡ Some (Pair axis.One 3 2)
unfolding plus times opposite is_positive sign lowest gcd sum negative reduced_half moved_half cross dot weighted gap clashes can_follow matches markov_fault
fault = refl

-- ---- three columns: between 2 - φ and φ - 1, below 2 - φ, and beyond φ - 1, which is the size of the window

abbrev outer : Half
outer = half (part (pos 1) (pos 0)) (part (pos 0) (pos 0)) (part (negsuc 1) (pos 1))

abbrev inner : Half
inner = half (part (negsuc 0) (pos 0)) (part (pos 0) (pos 0)) (part (pos 2) (negsuc 0))

abbrev three : Partition
three = record { torus = unit; regions = region 0 (outer ∷ left ∷ []) ∷ region 1 (inner ∷ []) ∷ region 2 (right ∷ []) ∷ [] }

pub three_along : pair_count axis.One three ≡ 4
unfolding plus times opposite is_positive sign lowest gcd sum negative reduced_half moved_half cross dot weighted gap clashes can_follow
three_along = refl

pub three_upwards : pair_count axis.Two three ≡ 3
unfolding plus times opposite is_positive sign lowest gcd sum negative reduced_half moved_half cross dot weighted gap clashes can_follow
three_upwards = refl

pub beyond_the_window : map (is_beyond axis.One unit) three.regions ≡ false ∷ false ∷ true ∷ []
unfolding plus times opposite is_positive sign lowest gcd sum negative reduced_half moved_half cross dot weighted gap clashes is_beyond
beyond_the_window = refl

pub inside_the_window : map (is_inside axis.One unit) three.regions ≡ true ∷ true ∷ false ∷ []
unfolding plus times opposite is_positive sign lowest gcd sum negative reduced_half moved_half cross dot weighted gap clashes is_inside
inside_the_window = refl
