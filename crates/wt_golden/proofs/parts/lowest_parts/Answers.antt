use Rattle.std.proofs.Common.{arith, ◌<◌, subst, sym}
use Rattle.wt_golden.specs.Parts.{fraction}
use Rattle.wt_golden.proofs.Lowest.{common_above, common_at_most, lowest_from}
use Rattle.std.proofs.lemmas.Int.{to_z-of_z}
use Rattle.wt_golden.proofs.parts.lowest_parts.Goals as goal

pub divided-requires-clause-above : goal.divided-requires-clause-above
divided-requires-clause-above c = subst (λ g. 0 < g) (sym c.common_divisor-divisor.ensures) (common_above (fraction c.args.f) c.requires.divisor)

pub divided-requires-clause-small : goal.divided-requires-clause-small
divided-requires-clause-small c = omega (arith, c.common_divisor-divisor.ensures, common_at_most (fraction c.args.f) c.requires.divisor, c.requires.small)

pub divided-requires-2-clause-above : goal.divided-requires-2-clause-above
divided-requires-2-clause-above c = subst (λ g. 0 < g) (sym c.common_divisor-divisor.ensures) (common_above (fraction c.args.f) c.requires.divisor)

pub divided-requires-2-clause-small : goal.divided-requires-2-clause-small
divided-requires-2-clause-small c = omega (arith, c.common_divisor-divisor.ensures, common_at_most (fraction c.args.f) c.requires.divisor, c.requires.small)

pub divided-requires-3-clause-above : goal.divided-requires-3-clause-above
divided-requires-3-clause-above c = subst (λ g. 0 < g) (sym c.common_divisor-divisor.ensures) (common_above (fraction c.args.f) c.requires.divisor)

pub divided-requires-3-clause-small : goal.divided-requires-3-clause-small
divided-requires-3-clause-small c = omega (arith, c.common_divisor-divisor.ensures, common_at_most (fraction c.args.f) c.requires.divisor, c.requires.small)

pub returns : goal.returns
returns c = grind (arith, to_z-of_z, lowest_from)
