use Rattle.std.proofs.Common.{arith, rules, ◌^◌}
use Rattle.std.proofs.lemmas.Int.{ints}
use Rattle.wt_plane.specs.Six.{half}
use Rattle.wt_plane.proofs.Reduced.{half_from, half_plane_from}
use Rattle.wt_plane.proofs.plane.lowest_half.Goals as goal

pub invariant_of-result : goal.invariant_of-result
invariant_of-result c = half_plane_from (half c.args.s) (half c.reduced_six-kept.result) _ _ _ _ _ _ (2 ^ 126)
    (omega (arith, ints)) (omega (arith, ints)) (omega (arith, ints)) (omega (arith, ints)) (omega (arith, ints)) (omega (arith, ints))
    c.requires.direction c.requires.p c.requires.q c.reduced_six-kept.ensures (c.are_small.ensures.0 (search rules))

pub returns-then-are_small : goal.returns-then-are_small
returns-then-are_small c = (
  half_from (half c.args.s) (half c.reduced_six-kept.result) _ _ _ _ _ _
      (omega (arith, ints)) (omega (arith, ints)) (omega (arith, ints)) (omega (arith, ints)) (omega (arith, ints)) (omega (arith, ints)) c.reduced_six-kept.ensures,
  half_plane_from (half c.args.s) (half c.reduced_six-kept.result) _ _ _ _ _ _ (2 ^ 126)
      (omega (arith, ints)) (omega (arith, ints)) (omega (arith, ints)) (omega (arith, ints)) (omega (arith, ints)) (omega (arith, ints))
      c.requires.direction c.requires.p c.requires.q c.reduced_six-kept.ensures (c.are_small.ensures.0 (search rules)),
)
