-- Where three half-planes have no common point: a test by signs.
use Rattle.std.specs.Prelude.{Bool, false, not, ◌&&◌, ◌||◌, if◌then◌else◌}
use Rattle.std.specs.Ordering.{match_ordering}
use Rattle.wt_golden.specs.Whole.{Whole, plus, minus, times, opposite, sign, is_positive}
use Rattle.wt_plane.specs.HalfPlanes.{Half}

-- above 0 where g's direction is to the left of f's
unfoldable pub cross : Half → Half → Whole
cross f g = minus (times f.p g.q) (times f.q g.p)

-- above 0 where the directions are less than a right angle apart
unfoldable pub dot : Half → Half → Whole
dot f g = plus (times f.p g.p) (times f.q g.q)

-- The directions, each with the cross product of the other two as its weight, add up to nothing; this is what the constants add up to.
unfoldable pub weighted : Half → Half → Half → Whole
weighted f g h = plus (plus (times (cross g h) f.r) (times (cross h f) g.r)) (times (cross f g) h.r)

-- whether a number isn't below 0
abbrev pub at_least_zero : Whole → Bool
at_least_zero x = not (is_positive (opposite x))

-- whether a number isn't above 0
abbrev pub at_most_zero : Whole → Bool
at_most_zero x = not (is_positive x)

-- For g to the left of f: no weight is below 0, and the constants come to nothing above 0.
abbrev pub closes : Half → Half → Half → Bool
closes f g h = at_least_zero (cross g h) && at_least_zero (cross h f) && at_most_zero (weighted f g h)

-- For parallel directions: what is left of g's constant where f's number is 0, times a number above 0.
unfoldable pub gap : Half → Half → Whole
gap f g = minus (times (dot f f) g.r) (times (dot f g) f.r)

-- For g and h opposite to f: one of them ends before f begins.
abbrev pub faces : Half → Half → Half → Bool
faces f g h = at_most_zero (gap f g) || at_most_zero (gap f h)

-- For three parallel directions: all point along, which is no clash, or one is against the other two.
abbrev pub level : Half → Half → Half → Bool
level f g h =
    if is_positive (dot f g)
    then (if is_positive (dot f h) then false else faces h f g)
    else (if is_positive (dot f h) then faces g f h else faces f g h)

-- whether three half-planes with directions have no common point
unfoldable pub clashes : Half → Half → Half → Bool
clashes f g h =
    match_ordering (sign (cross f g)) (closes g f h)
    (match_ordering (sign (cross g h)) (closes h g f)
    (match_ordering (sign (cross h f)) (closes f h g) (level f g h) (closes h f g))
    (closes g h f))
    (closes f g h)
