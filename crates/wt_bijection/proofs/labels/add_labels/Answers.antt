use Rattle.std.proofs.Common.{arith, ◌≡◌, ◌+◌, suc, get_or, slice_index, ap, sym, ◌∙◌}
use Rattle.wt_tile.specs.Matching.{tile_at, ahead, behind}
use Rattle.wt_bijection.specs.Labels.{wrapped, sum_below, share, added, scrambled}
use Rattle.wt_bijection.proofs.Sums.{added_twice}
use Rattle.wt_bijection.proofs.labels.add_labels.Goals as goal

pub loop-i-preserved : goal.loop-i-preserved
loop-i-preserved c =
    let axis = c.args.axis in
    let tiles = c.args.tiles.now in
    let labels = c.args.labels.now in
    let i = c.loop-i.i in
    let first : c.ahead.result ≡ ahead axis (tile_at tiles i) = c.ahead.ensures ∙ ap (ahead axis) c.tile_at-tile.ensures in
    let second : c.behind.result ≡ behind axis (tile_at tiles i) = c.behind.ensures ∙ ap (behind axis) c.tile_at-tile.ensures in
    let stirred : c.scramble.result ≡ scrambled (slice_index labels i) = c.scramble.ensures in
    record {
      whole = c.add_to-in-loop-i.array_long;
      added = λ k lt zero.
          let one : i + 1 ≡ suc i = omega arith in
          ap (λ s. get_or s k 0) (c.add_to-in-loop-i.ensures ∙ ap (λ s. added s c.behind.result c.scramble.result) c.add_to.ensures)
          ∙ (added_twice c.loop-i.sums c.ahead.result (slice_index labels i) c.behind.result c.scramble.result (sum_below (share axis tiles labels k) i) k c.loop-i.invariant.whole lt (c.loop-i.invariant.added k lt zero)
          ∙ rw (first, second, stirred) (ap wrapped (ap (sum_below (share axis tiles labels k)) (sym one))));
    }
