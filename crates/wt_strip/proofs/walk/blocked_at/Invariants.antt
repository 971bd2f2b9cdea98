use Rattle.std.proofs.Common.{◌≡◌, ℕ, ◌<◌, length}
use Rattle.wt_lane.specs.Masks.{mask_bit}
use Rattle.wt_strip.specs.Walks.{CanBear}
use Rattle.wt_strip.proofs.Bears.{CanFollow}
use Rattle.wt_strip.proofs.walk.blocked_at.Given as goal

abbrev pub invariant-loop-x : goal.invariant-loop-x
invariant-loop-x l = record {
  bears : CanBear l.sides.tiles.now l.x l.p;
  stands : (u : ℕ) → mask_bit l.next u ≡ 1 → CanFollow l.sides.tiles.now l.p l.x u;
  all : (u : ℕ) → u < length l.sides.tiles.now → CanFollow l.sides.tiles.now l.p l.x u → mask_bit l.next u ≡ 1;
}
