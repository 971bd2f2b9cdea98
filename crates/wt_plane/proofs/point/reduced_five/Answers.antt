use Rattle.std.proofs.Common.{arith, ◌<◌, ◌∙◌, ap, subst, sym}
use Rattle.wt_plane.specs.Five.{point}
use Rattle.wt_plane.specs.HalfPlanes.{divided_spot, reduced_spot}
use Rattle.wt_plane.proofs.Points.{spot_above_zero, spot_at_most}
use Rattle.wt_plane.proofs.point.reduced_five.Goals as goal

pub divided_five-requires-clause-above : goal.divided_five-requires-clause-above
divided_five-requires-clause-above c = subst (λ g. 0 < g) (sym c.common_divisor.ensures) (spot_above_zero (point c.args.s) c.requires.divisor)

pub divided_five-requires-clause-small : goal.divided_five-requires-clause-small
divided_five-requires-clause-small c = omega (arith, c.common_divisor.ensures, spot_at_most (point c.args.s) c.requires.divisor, c.requires.small)

pub returns : goal.returns
unfolding reduced_spot
returns c = c.divided_five.ensures ∙ ap (divided_spot (point c.args.s)) c.common_divisor.ensures
