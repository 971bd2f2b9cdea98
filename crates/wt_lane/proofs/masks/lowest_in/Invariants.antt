use Rattle.std.proofs.Common.{◌≡◌, ◌<◌, ◌*◌, ℕ, get_or}
use Rattle.wt_lane.proofs.masks.lowest_in.Given as goal

abbrev pub invariant-loop-word : goal.invariant-loop-word
invariant-loop-word l = record {
  start : l.start ≡ 64 * l.word-index;
  zeros : (k : ℕ) → k < l.word-index → get_or l.words k 0 ≡ 0;
}
