use Rattle.std.proofs.Common.{◌≡◌, ℕ, ◌≤◌, List, length, true}
use Rattle.wt_strip.specs.Walks.{is_allowed, IsWay}
use Rattle.wt_strip.proofs.walk.prune.Given as goal

abbrev pub invariant-loop-i : goal.invariant-loop-i
invariant-loop-i l = record {
  some : 1 ≤ l.i;
  long : length l.allowed ≡ 64;
  fewer : (x t : ℕ) → is_allowed l.allowed x t ≡ true → is_allowed l.fn.allowed x t ≡ true;
  kept : (q : List ℕ) → IsWay l.sides.tiles.now l.fn.allowed l.w q → IsWay l.sides.tiles.now l.allowed l.w q;
}
