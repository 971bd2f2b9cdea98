-- A partition of four rectangles, its code, its induced partition and the code of that.
use Rattle.std.proofs.Common.{◌≡◌, ℕ, List, [], ◌∷◌, length, refl, None}
use Rattle.wt_grid.specs.declared.image.Image.TheVariants.{One as Single, Two as Double}
use Rattle.wt_grid.specs.declared.axis.Axis.TheVariants.{One as First, Two as Second}
use Rattle.std.specs.Prelude.{ℤ, pos, negsuc}
use Rattle.wt_golden.specs.Whole.{Whole, plus, times, opposite, is_positive, sign}
use Rattle.wt_golden.specs.Fractions.{Fraction, gcd, lowest, sum, negative}
use Rattle.wt_plane.specs.HalfPlanes.{Half, Spot, reduced_half, moved_half}
use Rattle.wt_plane.specs.Clash.{cross, dot, weighted, gap, clashes}
use Rattle.wt_grid.specs.Grid.{listed}
use Rattle.wt_torus.specs.declared.partition.Labelled.{Labelled}
use Rattle.wt_torus.specs.declared.partition.Partition.{Partition}
use Rattle.wt_torus.specs.Letters.{letter, number_in}
use Rattle.wt_torus.specs.Codes.{coordinate, reached}
use Rattle.wt_induce.specs.Induced.{images, induced, kept}
use Rattle.wt_induce.specs.Faults.{induce_fault}

abbrev number : ℤ → ℤ → ℤ → Fraction
number a b d = record { a = a; b = b; d = d }

abbrev part : ℤ → ℤ → Whole
part a b = record { a = a; b = b }

abbrev half : Whole → Whole → Whole → Half
half p q r = record { p = p; q = q; r = r }

abbrev region : ℕ → Half → Half → Labelled
region label g h = record { label = label; region = record { planes = g ∷ h ∷ [] } }

abbrev left : Half
left = half (part (negsuc 0) (pos 0)) (part (pos 0) (pos 0)) (part (negsuc 0) (pos 1))

abbrev right : Half
right = half (part (pos 1) (pos 0)) (part (pos 0) (pos 0)) (part (pos 1) (negsuc 0))

abbrev low : Half
low = half (part (pos 0) (pos 0)) (part (negsuc 0) (pos 0)) (part (negsuc 0) (pos 1))

abbrev high : Half
high = half (part (pos 0) (pos 0)) (part (pos 1) (pos 0)) (part (pos 1) (negsuc 0))

abbrev four : Partition
four = record {
  torus = record { width = number (pos 1) (pos 0) (pos 1); height = number (pos 1) (pos 0) (pos 1); move1 = number (pos 2) (negsuc 0) (pos 1); move2 = number (pos 2) (negsuc 0) (pos 1) };
  regions = region 0 left low ∷ region 1 right low ∷ region 2 left high ∷ region 3 right high ∷ [];
}

abbrev tenth : Spot
tenth = record { x = part (pos 1) (pos 0); y = part (pos 1) (pos 0); d = pos 10 }

pub code : listed 8 (λ i. number_in (letter four (reached four.torus tenth i 0))) ≡ 0 ∷ 0 ∷ 1 ∷ 0 ∷ 1 ∷ 0 ∷ 0 ∷ 1 ∷ []
unfolding plus times opposite is_positive lowest gcd letter coordinate
code = refl

pub new_labels : images First four ≡ Single 0 ∷ Single 2 ∷ Double 0 1 ∷ Double 2 3 ∷ []
unfolding plus times opposite is_positive sign lowest gcd sum negative reduced_half moved_half cross dot weighted gap clashes images
new_labels = refl

pub new_regions : length (kept First four) ≡ 4
unfolding plus times opposite is_positive sign lowest gcd sum negative reduced_half moved_half cross dot weighted gap clashes
new_regions = refl

pub new_code : listed 6 (λ i. number_in (letter (induced First four) (reached (induced First four).torus tenth i 0))) ≡ 0 ∷ 2 ∷ 2 ∷ 0 ∷ 2 ∷ 0 ∷ []
unfolding plus times opposite is_positive sign lowest gcd sum negative reduced_half moved_half cross dot weighted gap clashes images induced letter coordinate
new_code = refl

pub no_fault : induce_fault First four ≡ None
unfolding plus times opposite is_positive sign lowest gcd sum negative reduced_half moved_half cross dot weighted gap clashes images induce_fault
no_fault = refl

-- ---- moves of more than half, both axes, and the order of half-planes

abbrev many : ℕ → List Half → Labelled
many label hs = record { label = label; region = record { planes = hs } }

abbrev more : Partition
more = record { torus = record { width = number (pos 1) (pos 0) (pos 1); height = number (pos 1) (pos 0) (pos 1); move1 = number (negsuc 0) (pos 1) (pos 1); move2 = number (pos 3) (negsuc 0) (pos 2) }; regions = many 0 (half (part (negsuc 0) (pos 0)) (part (pos 0) (pos 0)) (part (negsuc 0) (pos 1)) ∷ half (part (pos 0) (pos 0)) (part (negsuc 0) (pos 0)) (part (negsuc 0) (pos 1)) ∷ []) ∷ many 1 (half (part (pos 1) (pos 0)) (part (pos 0) (pos 0)) (part (pos 1) (negsuc 0)) ∷ half (part (pos 0) (pos 0)) (part (negsuc 0) (pos 0)) (part (negsuc 0) (pos 1)) ∷ []) ∷ many 2 (half (part (negsuc 0) (pos 0)) (part (pos 0) (pos 0)) (part (negsuc 0) (pos 1)) ∷ half (part (pos 0) (pos 0)) (part (pos 1) (pos 0)) (part (pos 1) (negsuc 0)) ∷ []) ∷ many 3 (half (part (pos 1) (pos 0)) (part (pos 0) (pos 0)) (part (pos 1) (negsuc 0)) ∷ half (part (pos 0) (pos 0)) (part (pos 1) (pos 0)) (part (pos 1) (negsuc 0)) ∷ []) ∷ [] }

pub more_torus_1 : (induced First more).torus ≡ record { width = number (negsuc 0) (pos 1) (pos 1); height = number (pos 1) (pos 0) (pos 1); move1 = number (negsuc 2) (pos 2) (pos 1); move2 = number (pos 3) (negsuc 0) (pos 2) }
unfolding plus times opposite is_positive sign lowest gcd sum negative reduced_half moved_half cross dot weighted gap clashes images induced
more_torus_1 = refl

pub more_regions_1 : (induced First more).regions ≡ many 0 (half (part (pos 0) (pos 0)) (part (negsuc 0) (pos 0)) (part (negsuc 0) (pos 1)) ∷ half (part (pos 1) (pos 0)) (part (pos 0) (pos 0)) (part (negsuc 1) (pos 1)) ∷ half (part (negsuc 0) (pos 0)) (part (pos 0) (pos 0)) (part (negsuc 0) (pos 1)) ∷ []) ∷ many 1 (half (part (pos 0) (pos 0)) (part (pos 1) (pos 0)) (part (pos 1) (negsuc 0)) ∷ half (part (pos 1) (pos 0)) (part (pos 0) (pos 0)) (part (negsuc 1) (pos 1)) ∷ half (part (negsuc 0) (pos 0)) (part (pos 0) (pos 0)) (part (negsuc 0) (pos 1)) ∷ []) ∷ many 2 (half (part (negsuc 0) (pos 0)) (part (pos 0) (pos 0)) (part (pos 2) (negsuc 0)) ∷ half (part (pos 1) (pos 0)) (part (pos 0) (pos 0)) (part (pos 0) (pos 0)) ∷ half (part (pos 0) (pos 0)) (part (negsuc 0) (pos 0)) (part (negsuc 0) (pos 1)) ∷ []) ∷ many 3 (half (part (negsuc 0) (pos 0)) (part (pos 0) (pos 0)) (part (pos 2) (negsuc 0)) ∷ half (part (pos 1) (pos 0)) (part (pos 0) (pos 0)) (part (pos 0) (pos 0)) ∷ half (part (pos 0) (pos 0)) (part (pos 1) (pos 0)) (part (pos 1) (negsuc 0)) ∷ []) ∷ []
unfolding plus times opposite is_positive sign lowest gcd sum negative reduced_half moved_half cross dot weighted gap clashes images induced
more_regions_1 = refl

pub more_torus_2 : (induced Second more).torus ≡ record { width = number (pos 1) (pos 0) (pos 1); height = number (pos 3) (negsuc 0) (pos 2); move1 = number (negsuc 0) (pos 1) (pos 1); move2 = number (pos 2) (negsuc 0) (pos 1) }
unfolding plus times opposite is_positive sign lowest gcd sum negative reduced_half moved_half cross dot weighted gap clashes images induced
more_torus_2 = refl

pub more_regions_2 : (induced Second more).regions ≡ many 0 (half (part (negsuc 0) (pos 0)) (part (pos 0) (pos 0)) (part (negsuc 0) (pos 1)) ∷ half (part (pos 0) (pos 0)) (part (negsuc 0) (pos 0)) (part (negsuc 0) (pos 1)) ∷ half (part (pos 0) (pos 0)) (part (pos 2) (pos 0)) (part (pos 1) (negsuc 0)) ∷ []) ∷ many 1 (half (part (pos 1) (pos 0)) (part (pos 0) (pos 0)) (part (pos 1) (negsuc 0)) ∷ half (part (pos 0) (pos 0)) (part (negsuc 0) (pos 0)) (part (negsuc 0) (pos 1)) ∷ half (part (pos 0) (pos 0)) (part (pos 2) (pos 0)) (part (pos 1) (negsuc 0)) ∷ []) ∷ many 2 (half (part (negsuc 0) (pos 0)) (part (pos 0) (pos 0)) (part (negsuc 0) (pos 1)) ∷ half (part (pos 0) (pos 0)) (part (pos 1) (pos 0)) (part (pos 1) (negsuc 0)) ∷ half (part (pos 0) (pos 0)) (part (negsuc 1) (pos 0)) (part (pos 3) (negsuc 0)) ∷ []) ∷ many 3 (half (part (pos 1) (pos 0)) (part (pos 0) (pos 0)) (part (pos 1) (negsuc 0)) ∷ half (part (pos 0) (pos 0)) (part (pos 1) (pos 0)) (part (pos 1) (negsuc 0)) ∷ half (part (pos 0) (pos 0)) (part (negsuc 1) (pos 0)) (part (pos 3) (negsuc 0)) ∷ []) ∷ many 4 (half (part (pos 0) (pos 0)) (part (pos 1) (pos 0)) (part (pos 0) (pos 0)) ∷ half (part (pos 0) (pos 0)) (part (negsuc 1) (pos 0)) (part (negsuc 0) (pos 1)) ∷ half (part (negsuc 0) (pos 0)) (part (pos 0) (pos 0)) (part (negsuc 0) (pos 1)) ∷ []) ∷ many 5 (half (part (pos 0) (pos 0)) (part (pos 1) (pos 0)) (part (pos 0) (pos 0)) ∷ half (part (pos 0) (pos 0)) (part (negsuc 1) (pos 0)) (part (negsuc 0) (pos 1)) ∷ half (part (pos 1) (pos 0)) (part (pos 0) (pos 0)) (part (pos 1) (negsuc 0)) ∷ []) ∷ []
unfolding plus times opposite is_positive sign lowest gcd sum negative reduced_half moved_half cross dot weighted gap clashes images induced
more_regions_2 = refl

abbrev plain : Partition
plain = record { torus = record { width = number (pos 3) (pos 0) (pos 1); height = number (pos 1) (pos 0) (pos 1); move1 = number (pos 1) (pos 0) (pos 1); move2 = number (pos 1) (pos 0) (pos 3) }; regions = many 4 (half (part (pos 1) (pos 0)) (part (pos 0) (pos 0)) (part (pos 0) (pos 0)) ∷ half (part (pos 0) (pos 0)) (part (pos 1) (pos 0)) (part (pos 0) (pos 0)) ∷ []) ∷ [] }

pub plain_torus_1 : (induced First plain).torus ≡ record { width = number (pos 2) (pos 0) (pos 1); height = number (pos 1) (pos 0) (pos 1); move1 = number (pos 1) (pos 0) (pos 1); move2 = number (pos 1) (pos 0) (pos 3) }
unfolding plus times opposite is_positive sign lowest gcd sum negative reduced_half moved_half cross dot weighted gap clashes images induced
plain_torus_1 = refl

pub plain_regions_1 : (induced First plain).regions ≡ many 0 (half (part (pos 0) (pos 0)) (part (pos 1) (pos 0)) (part (pos 0) (pos 0)) ∷ half (part (pos 1) (pos 0)) (part (pos 0) (pos 0)) (part (pos 0) (pos 0)) ∷ half (part (negsuc 0) (pos 0)) (part (pos 0) (pos 0)) (part (pos 1) (pos 0)) ∷ []) ∷ many 1 (half (part (pos 1) (pos 0)) (part (pos 0) (pos 0)) (part (negsuc 0) (pos 0)) ∷ half (part (negsuc 0) (pos 0)) (part (pos 0) (pos 0)) (part (pos 2) (pos 0)) ∷ half (part (pos 0) (pos 0)) (part (pos 1) (pos 0)) (part (pos 0) (pos 0)) ∷ []) ∷ []
unfolding plus times opposite is_positive sign lowest gcd sum negative reduced_half moved_half cross dot weighted gap clashes images induced
plain_regions_1 = refl
