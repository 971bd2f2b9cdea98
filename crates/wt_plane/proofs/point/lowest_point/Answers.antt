use Rattle.std.proofs.Common.{arith, rules}
use Rattle.std.proofs.lemmas.Int.{ints}
use Rattle.wt_plane.specs.Five.{point}
use Rattle.wt_plane.proofs.Points.{spot_from, point_from}
use Rattle.wt_plane.proofs.point.lowest_point.Goals as goal

pub invariant_of-result : goal.invariant_of-result
invariant_of-result c = point_from (point c.args.s) (point c.reduced_five-kept.result) _ _ _ _ _
    (omega (arith, ints)) (omega (arith, ints)) (omega (arith, ints)) (omega (arith, ints)) (omega (arith, ints))
    c.requires.divisor c.reduced_five-kept.ensures (c.are_small.ensures.0 (search rules))

pub returns-then-are_small : goal.returns-then-are_small
returns-then-are_small c = (
  spot_from (point c.args.s) (point c.reduced_five-kept.result) _ _ _ _ _
      (omega (arith, ints)) (omega (arith, ints)) (omega (arith, ints)) (omega (arith, ints)) (omega (arith, ints)) c.reduced_five-kept.ensures,
  point_from (point c.args.s) (point c.reduced_five-kept.result) _ _ _ _ _
      (omega (arith, ints)) (omega (arith, ints)) (omega (arith, ints)) (omega (arith, ints)) (omega (arith, ints))
      c.requires.divisor c.reduced_five-kept.ensures (c.are_small.ensures.0 (search rules)),
)
