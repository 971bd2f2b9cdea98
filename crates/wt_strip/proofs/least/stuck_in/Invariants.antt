use Rattle.std.proofs.Common.{suc}
use Rattle.wt_strip.proofs.Rises.{AreStuckTo}
use Rattle.wt_strip.proofs.least.stuck_in.Given as goal

abbrev pub invariant-loop-r : goal.invariant-loop-r
invariant-loop-r l = record {
  told : AreStuckTo l.sides.tiles.now l.w (suc l.m) l.r l.layer l.stuck.items;
}
