use Rattle.std.proofs.Common.{arith, rules}
use Rattle.std.proofs.lemmas.Int.{ints}
use Rattle.wt_golden.specs.Parts.{fraction}
use Rattle.wt_golden.proofs.Lowest.{golden_from, same_from}
use Rattle.wt_golden.proofs.golden.Golden.over.Goals as goal

pub invariant_of-result : goal.invariant_of-result
invariant_of-result c = golden_from (fraction c.args.f) _ _ _ _ _ _ c.requires.divisor c.lowest_parts-parts.ensures (omega (arith, ints)) (omega (arith, ints)) (omega (arith, ints)) (c.are_small.ensures.0 (search rules))

pub returns-then-are_small : goal.returns-then-are_small
returns-then-are_small c = (
  same_from (fraction c.args.f) _ _ _ _ _ _ c.lowest_parts-parts.ensures (omega (arith, ints)) (omega (arith, ints)) (omega (arith, ints)),
  golden_from (fraction c.args.f) _ _ _ _ _ _ c.requires.divisor c.lowest_parts-parts.ensures (omega (arith, ints)) (omega (arith, ints)) (omega (arith, ints)) (c.are_small.ensures.0 (search rules)),
)
