use Rattle.wt_window.specs.Surrounded.{allowed}
use Rattle.wt_grid.specs.declared.axis.Axis.TheVariants.{One, Two}
use Rattle.std.proofs.Common.{inr}
use Rattle.wt_marker.specs.Derived.{trees_fault, first_spent, nodes_in}
use Rattle.wt_marker.proofs.Faulted.{spent_one, spent_two, many_nodes, few_nodes, or_memory}
use Rattle.wt_marker.proofs.Deriving.{few_both, many_both}
use Rattle.wt_marker.proofs.derive.refute_all.Goals as goal

pub returns-in-Err-clause-refused : goal.returns-in-Err-clause-refused
returns-in-Err-clause-refused c =
    or_memory c.in-Err.end (first_spent c.args.set.list.now.tiles c.args.radius c.args.budget One (allowed c.args.one.now)) (trees_fault c.args.set.list.now.tiles c.args.radius (allowed c.args.one.now) (allowed c.args.two.now) c.args.budget) (spent_one c.args.set.list.now.tiles c.args.radius (allowed c.args.one.now) (allowed c.args.two.now) c.args.budget c.in-Err.end) (c.in-Err.ensures {u = tt}).refused

pub returns-in-Err-refute_axis-clause-refused : goal.returns-in-Err-refute_axis-clause-refused
returns-in-Err-refute_axis-clause-refused c =
    or_memory c.in-Err-refute_axis.end (first_spent c.args.set.list.now.tiles c.args.radius c.args.budget Two (allowed c.args.two.now)) (trees_fault c.args.set.list.now.tiles c.args.radius (allowed c.args.one.now) (allowed c.args.two.now) c.args.budget)
    (spent_two c.args.set.list.now.tiles c.args.radius (allowed c.args.one.now) (allowed c.args.two.now) c.args.budget c.in-Err-refute_axis.end (c.in-Ok.ensures {u = tt}).unspent) (c.in-Err-refute_axis.ensures {u = tt}).refused

pub returns-then-forest-gt-MAX_NODES-clause-refused : goal.returns-then-forest-gt-MAX_NODES-clause-refused
returns-then-forest-gt-MAX_NODES-clause-refused c =
    inr (many_nodes c.args.set.list.now.tiles c.args.radius (allowed c.args.one.now) (allowed c.args.two.now) c.args.budget (c.in-Ok.ensures {u = tt}).unspent (c.in-Ok-refute_axis.ensures {u = tt}).unspent (many_both (nodes_in c.args.set.list.now.tiles c.args.radius One (allowed c.args.one.now)) (nodes_in c.args.set.list.now.tiles c.args.radius Two (allowed c.args.two.now)) c.no_trees-forest.result.nodes c.refute_axis.new.forest.nodes c.refute_axis-2.new.forest.nodes c.no_trees-forest.ensures.nodes (c.in-Ok.ensures {u = tt}).nodes (c.in-Ok-refute_axis.ensures {u = tt}).nodes c.if-forest-gt-MAX_NODES.true))

pub returns-clause-none : goal.returns-clause-none
returns-clause-none c =
    few_nodes c.args.set.list.now.tiles c.args.radius (allowed c.args.one.now) (allowed c.args.two.now) c.args.budget (c.in-Ok.ensures {u = tt}).unspent (c.in-Ok-refute_axis.ensures {u = tt}).unspent (few_both (nodes_in c.args.set.list.now.tiles c.args.radius One (allowed c.args.one.now)) (nodes_in c.args.set.list.now.tiles c.args.radius Two (allowed c.args.two.now)) c.no_trees-forest.result.nodes c.refute_axis.new.forest.nodes c.refute_axis-2.new.forest.nodes c.no_trees-forest.ensures.nodes (c.in-Ok.ensures {u = tt}).nodes (c.in-Ok-refute_axis.ensures {u = tt}).nodes c.if-forest-gt-MAX_NODES.false).1
