use Rattle.std.proofs.Common.{◌-◌, ◌≤◌}
use Rattle.wt_pattern.specs.Rows.{AreMatched}
use Rattle.wt_pattern.proofs.neighbours.Colours.count_matched.Given as goal

abbrev pub invariant-loop-x : goal.invariant-loop-x
invariant-loop-x l = record {
  within : l.x ≤ l.last;
  matched : AreMatched l.self.tiles.now l.row l.above l.x;
}

abbrev pub decreases-loop-x : goal.decreases-loop-x
decreases-loop-x l = l.last - l.x
