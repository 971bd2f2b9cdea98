use Rattle.std.proofs.Common.{◌∙◌, ap}
use Rattle.wt_search.specs.States.{state_of}
use Rattle.wt_search.specs.Asked.{asked}
use Rattle.wt_search.specs.Found.{links_of}
use Rattle.wt_search.proofs.Ends.{found_by, ended, given_up}
use Rattle.wt_search.proofs.finding.search_levels.Goals as goal

pub returns-in-Err-clause-ended : goal.returns-in-Err-clause-ended
returns-in-Err-clause-ended c =
    ended (asked c.args.axes.now c.args.side c.args.radius c.args.budget) c.args.set.list.now c.args.levels c.loop-level.level c.loop-level.nodes (links_of c.loop-level.chain) c.in-Err.end
    c.loop-level-test.true c.loop-level.invariant.come (c.in-Err.ensures {u = tt}).err

pub returns-in-Ok-Found-clause-found : goal.returns-in-Ok-Found-clause-found
returns-in-Ok-Found-clause-found c =
    found_by (asked c.args.axes.now c.args.side c.args.radius c.args.budget) c.args.set.list.now c.args.levels c.loop-level.level c.loop-level.nodes (links_of c.loop-level.chain) c.in-Ok-Found.accepted
    c.loop-level-test.true c.loop-level.invariant.come ((c.in-Ok-Found.ensures {u = tt}).ok ∙ ap state_of c.in-Ok-Found.field-0-is)

pub returns-in-Err-clause-at_zero : goal.returns-in-Err-clause-at_zero
returns-in-Err-clause-at_zero c = λ z.
    given_up (asked c.args.axes.now c.args.side c.args.radius c.args.budget) c.args.set.list.now c.loop-level.level c.loop-level.nodes (links_of c.loop-level.chain) c.in-Err.end
    (c.loop-level.invariant.zero z) c.loop-level.invariant.come ((c.in-Err.ensures {u = tt}).at_zero z)
