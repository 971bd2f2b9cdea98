use Rattle.std.proofs.Common.{◌≡◌, ℕ, ◌<◌, length, slice_index}
use Rattle.wt_bijection.specs.Labels.{wrapped, sum_below, share}
use Rattle.wt_bijection.proofs.labels.add_labels.Given as goal

abbrev pub invariant-loop-i : goal.invariant-loop-i
invariant-loop-i l = record {
  whole : length l.sums ≡ 512;
  added : (c : ℕ) → c < 512 → slice_index l.fn.sums c ≡ 0 → slice_index l.sums c ≡ wrapped (sum_below (share l.axis l.tiles l.labels c) l.i);
}
