use Rattle.std.proofs.Common.{arith, ◌≡◌, ◌≤◌, ◌+◌, ℕ, List, [], ◌∷◌, ◌++◌, map, sym, ap, ◌∙◌}
use Rattle.std.proofs.lemmas.Result.{err_from_is_err_and}
use Rattle.std.proofs.lemmas.List.{map-append}
use Rattle.wt_line.specs.Given.{left}
use Rattle.wt_refute.specs.Refutation.{Refutation, node_count, no_more}
use Rattle.wt_refute.specs.View.{refutation, child_view}
use Rattle.wt_cert.proofs.Grown.{refutation_branch, refutation_cite, child_of}
use Rattle.wt_refute.specs.declared.tree.Tree.{Tree}
use Rattle.wt_refute.specs.declared.tree.Child.{Child, roll-Child}
use Rattle.wt_cert.specs.Trees.{tree_in, branches_in}
use Rattle.wt_cert.specs.Seen.{led_by}
use Rattle.wt_cert.proofs.Growing.{bad_tile, bad_tree, grows_on, count_led, led_is, tree_grown, tree_cites, bad_cell, bad_ending, bad_branches}
use Rattle.wt_cert.proofs.read.trees.+grow.Goals as goal

pushed : (after before : List Child) (tile : ℕ) (tree : Tree) → after ≡ before ++ roll-Child (record { tile = tile; tree = tree }) ∷ [] → map child_view after ≡ map child_view before ++ (tile, refutation tree) ∷ []
pushed after before tile tree e =
    ap (map child_view) e ∙ map-append child_view before (roll-Child (record { tile = tile; tree = tree }) ∷ []) ∙ ap (λ (x : ℕ × Refutation). map child_view before ++ x ∷ []) (child_of tile tree)

pub branches_within-returns-in_err-tile-clause-read : goal.branches_within-returns-in_err-tile-clause-read
branches_within-returns-in_err-tile-clause-read t c =
    let p = err_from_is_err_and c.from_residual.result c.from_residual.ensures.1 in
    rw (p.1, p.2) (bad_tile (tree_in c.args.citing c.args.levels) c.in_err-tile.field-0.0 (map child_view c.loop.children) c.args.count c.loop.counter c.loop.total (left c.loop.left.more c.loop.left.line.now) (branches_in (tree_in c.args.citing c.args.levels) c.args.count c.args.nodes (left c.args.rest.more c.args.rest.line.now)) c.loop-test.true c.in_err-tile.ensures c.loop.invariant.so_far)

pub branches_within-returns-in_err-tree-clause-read : goal.branches_within-returns-in_err-tree-clause-read
branches_within-returns-in_err-tree-clause-read t c =
    let p = err_from_is_err_and c.from_residual-in_err-tree.result c.from_residual-in_err-tree.ensures.1 in
    rw (p.1, p.2) (bad_tree (tree_in c.args.citing c.args.levels) c.in_err-tree.field-0.0 (map child_view c.loop.children) c.args.count c.loop.counter c.loop.total (left c.loop.left.more c.loop.left.line.now) (left c.in_ok-tile.after.more c.in_ok-tile.after.line.now) c.in_ok-tile.tile (branches_in (tree_in c.args.citing c.args.levels) c.args.count c.args.nodes (left c.args.rest.more c.args.rest.line.now)) c.loop-test.true c.in_ok-tile.ensures c.in_err-tree.ensures.read c.loop.invariant.so_far)

pub branches_within-loop-preserved : goal.branches_within-loop-preserved
branches_within-loop-preserved t c =
    let more : map child_view c.push.new.self ≡ map child_view c.loop.children ++ (c.in_ok-tile.tile, refutation c.in_ok-tree.tree) ∷ [] = pushed c.push.new.self c.loop.children c.in_ok-tile.tile c.in_ok-tree.tree c.in_ok-push.ensures.ok in
    let total : c.loop.total + node_count (refutation c.in_ok-tree.tree) ≡ c.in_ok-tree.grown = sym c.in_ok-tree.ensures.nodes in
    let g = grows_on (tree_in c.args.citing c.args.levels) (map child_view c.loop.children) c.args.count c.loop.counter c.loop.total (left c.loop.left.more c.loop.left.line.now) (left c.in_ok-tile.after.more c.in_ok-tile.after.line.now) (left c.in_ok-tree.after.more c.in_ok-tree.after.line.now) c.in_ok-tile.tile (refutation c.in_ok-tree.tree) (branches_in (tree_in c.args.citing c.args.levels) c.args.count c.args.nodes (left c.args.rest.more c.args.rest.line.now)) c.loop-test.true c.in_ok-tile.ensures c.in_ok-tree.ensures.read c.loop.invariant.so_far in
    record {
      so_far = rw (more, ← total) g;
      nodes = rw more (omega (arith, total, c.loop.invariant.nodes, count_led (map child_view c.loop.children) c.in_ok-tile.tile (refutation c.in_ok-tree.tree)));
      room = c.in_ok-tree.ensures.room;
    }

pub tree_within-returns-in_err-cell-clause-read : goal.tree_within-returns-in_err-cell-clause-read
tree_within-returns-in_err-cell-clause-read t c =
    let p = err_from_is_err_and c.from_residual.result c.from_residual.ensures.1 in
    let some : 1 ≤ c.args.levels = omega (arith, c.if-levels-eq0.false) in
    rw (p.1, p.2) (bad_cell c.in_err-cell.field-0.0 c.args.citing c.args.levels c.args.nodes (left c.args.rest.more c.args.rest.line.now) some c.in_err-cell.ensures.read)

pub tree_within-returns-in_err-ending-clause-read : goal.tree_within-returns-in_err-ending-clause-read
tree_within-returns-in_err-ending-clause-read t c =
    let p = err_from_is_err_and c.from_residual-in_err-ending.result c.from_residual-in_err-ending.ensures.1 in
    let some : 1 ≤ c.args.levels = omega (arith, c.if-levels-eq0.false) in
    rw (p.1, p.2) (bad_ending c.in_err-ending.field-0.0 c.args.citing c.args.levels c.args.nodes c.in_ok-cell.cell (left c.args.rest.more c.args.rest.line.now) (left c.in_ok-cell.rest.more c.in_ok-cell.rest.line.now) some c.in_ok-cell.ensures.read c.in_err-ending.ensures)

pub tree_within-returns-in_err-children-in-Children-clause-read : goal.tree_within-returns-in_err-children-in-Children-clause-read
tree_within-returns-in_err-children-in-Children-clause-read t c =
    let p = err_from_is_err_and c.from_residual-in_err-children-in-Children.result c.from_residual-in_err-children-in-Children.ensures.1 in
    let some : 1 ≤ c.args.levels = omega (arith, c.if-levels-eq0.false) in
    rw (p.1, p.2) (bad_branches c.in_err-children-in-Children.field-0.0 c.args.citing c.args.levels c.args.nodes c.in_ok-cell.cell c.in-Children.count (left c.args.rest.more c.args.rest.line.now) (left c.in_ok-cell.rest.more c.in_ok-cell.rest.line.now) (left c.in_ok-ending.rest.more c.in_ok-ending.rest.line.now) some c.in_ok-cell.ensures.read (rw c.in-Children.is at c.in_ok-ending.ensures) c.in_err-children-in-Children.ensures.read)

pub tree_within-returns-in_ok-children-in-Children-clause-read : goal.tree_within-returns-in_ok-children-in-Children-clause-read
tree_within-returns-in_ok-children-in-Children-clause-read t c =
    let some : 1 ≤ c.args.levels = omega (arith, c.if-levels-eq0.false) in
    let same = refutation_branch c.in_ok-cell.cell c.in_ok-children-in-Children.children in
    let led = led_is (map child_view c.in_ok-children-in-Children.children) in
    rw (same, ← led) (tree_grown c.args.citing c.args.levels c.args.nodes c.in_ok-cell.cell c.in-Children.count (left c.args.rest.more c.args.rest.line.now) (left c.in_ok-cell.rest.more c.in_ok-cell.rest.line.now) (left c.in_ok-ending.rest.more c.in_ok-ending.rest.line.now) (left c.in_ok-children-in-Children.rest.more c.in_ok-children-in-Children.rest.line.now) (led_by (map child_view c.in_ok-children-in-Children.children) no_more) some c.in_ok-cell.ensures.read (rw c.in-Children.is at c.in_ok-ending.ensures) c.in_ok-children-in-Children.ensures.read)

pub tree_within-returns-in_ok-children-in-Children-clause-nodes : goal.tree_within-returns-in_ok-children-in-Children-clause-nodes
tree_within-returns-in_ok-children-in-Children-clause-nodes t c =
    let same = refutation_branch c.in_ok-cell.cell c.in_ok-children-in-Children.children in
    let led = led_is (map child_view c.in_ok-children-in-Children.children) in
    rw (same, ← led) (omega (arith, c.in_ok-children-in-Children.ensures.nodes))

pub tree_within-returns-in-Cites-clause-read : goal.tree_within-returns-in-Cites-clause-read
tree_within-returns-in-Cites-clause-read t c =
    let some : 1 ≤ c.args.levels = omega (arith, c.if-levels-eq0.false) in
    let same = refutation_cite c.in_ok-cell.cell c.in-Cites.axis in
    rw same (tree_cites c.args.citing c.args.levels c.args.nodes c.in_ok-cell.cell c.in-Cites.axis (left c.args.rest.more c.args.rest.line.now) (left c.in_ok-cell.rest.more c.in_ok-cell.rest.line.now) (left c.in_ok-ending.rest.more c.in_ok-ending.rest.line.now) some c.in_ok-cell.ensures.read (rw c.in-Cites.is at c.in_ok-ending.ensures))
