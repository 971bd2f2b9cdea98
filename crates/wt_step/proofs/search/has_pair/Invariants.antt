use Rattle.std.proofs.Common.{◌≡◌, length}
use Rattle.std.specs.List.{list_any}
use Rattle.wt_grid.specs.Order.{IsSplit}
use Rattle.wt_grid.specs.Pairs.{pair_before, is_this_pair}
use Rattle.wt_step.proofs.search.has_pair.Given as goal

abbrev pub invariant-loop-front : goal.invariant-loop-front
invariant-loop-front l = record {
  kept : list_any (is_this_pair l.a l.b) l.left ≡ list_any (is_this_pair l.a l.b) l.pairs;
  split : IsSplit (pair_before l.a l.b) (is_this_pair l.a l.b) l.left;
}

abbrev pub decreases-loop-front : goal.decreases-loop-front
decreases-loop-front l = length l.left
