use Rattle.std.proofs.Common.{◌≡◌, ◌≤◌, ◌+◌, ◌*◌, ◌-◌, map}
use Rattle.wt_line.specs.Given.{left}
use Rattle.wt_refute.specs.Refutation.{no_more, count_in}
use Rattle.wt_refute.specs.View.{child_view}
use Rattle.wt_cert.specs.Seen.{led_by}
use Rattle.wt_cert.specs.Trees.{tree_in, branches_in}
use Rattle.wt_cert.proofs.Growing.{with_front}
use Rattle.wt_cert.proofs.read.trees.+grow.Given as goal

abbrev pub decreases-tree_within : goal.decreases-tree_within
decreases-tree_within l = 2 * l.levels

abbrev pub decreases-branches_within : goal.decreases-branches_within
decreases-branches_within l = 2 * l.levels + 1

abbrev pub invariant-branches_within-loop : goal.invariant-branches_within-loop
invariant-branches_within-loop l = record {
  so_far : with_front (map child_view l.children) (branches_in (tree_in l.citing l.levels) (l.count - l.counter) l.total (left l.left.more l.left.line.now)) ≡ branches_in (tree_in l.citing l.levels) l.count l.nodes (left l.fn.rest.more l.fn.rest.line.now);
  nodes : l.total ≡ l.nodes + count_in (led_by (map child_view l.children) no_more);
  room : l.total ≤ 1048576;
}
