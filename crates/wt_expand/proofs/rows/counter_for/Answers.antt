use Rattle.std.proofs.Common.{arith, ◌∙◌, sym, ap, length}
use Rattle.wt_chain.proofs.Good.{few_steps}
use Rattle.wt_expand.specs.Blocks.{are_below}
use Rattle.wt_expand.proofs.Facts.{is_loop, turning_of, long_sides}
use Rattle.wt_expand.proofs.rows.counter_for.Goals as goal

pub counter_of-requires-clause-inside : goal.counter_of-requires-clause-inside
counter_of-requires-clause-inside c =
    let l = is_loop c.args.chain.now c.requires c.in-Loop.start c.in-Loop.expansion c.in-Loop.renaming c.in-Loop.is in
    let n = ap length c.as_slice-steps.ensures in
    omega (arith, l.inside, c.from-start.ensures, n)

pub counter_of-requires-clause-few : goal.counter_of-requires-clause-few
counter_of-requires-clause-few c = let n = ap length c.as_slice-steps.ensures in let few = few_steps c.args.chain.now c.requires in omega (arith, few, n)

pub counter_of-requires-clause-count : goal.counter_of-requires-clause-count
counter_of-requires-clause-count c =
    let l = is_loop c.args.chain.now c.requires c.in-Loop.start c.in-Loop.expansion c.in-Loop.renaming c.in-Loop.is in
    let n = ap length c.as_slice.ensures in
    omega (arith, l.count, n)

pub counter_of-requires-clause-small : goal.counter_of-requires-clause-small
counter_of-requires-clause-small c =
    let l = is_loop c.args.chain.now c.requires c.in-Loop.start c.in-Loop.expansion c.in-Loop.renaming c.in-Loop.is in
    ap (are_below 256) c.as_slice.ensures ∙ l.small

pub returns-in-None : goal.returns-in-None
returns-in-None c =
    let counter = c.counter_of.result in
    let long = long_sides c.args.w c.args.h (sym c.in-None.ensures) in
    let at = c.counter_of.ensures.start ∙ c.from-start.ensures in
    let turns = c.counter_of.ensures.turns ∙ c.turns_for-turns.ensures.value in
    record {
      good = c.requires;
      turning = turning_of counter c.args.chain.now.end c.in-Loop.start c.in-Loop.renaming c.in-Loop.expansion c.args.w c.args.h c.in-Loop.is at (c.counter_of.ensures.renaming ∙ c.as_slice.ensures) turns;
      steps = c.counter_of.ensures.steps ∙ c.as_slice-steps.ensures;
      block = c.counter_of.ensures.block;
      wide = long.0.0;
      narrow = long.0.1;
      high = long.1.0;
      low = long.1.1;
    }
