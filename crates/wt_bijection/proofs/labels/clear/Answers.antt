use Rattle.std.proofs.Common.{◌≡◌, ◌∙◌, refl, sym, ap, subst}
use Rattle.wt_tile.specs.Matching.{tile_at, ahead, behind}
use Rattle.wt_bijection.specs.Labels.{AreCleared, cleared}
use Rattle.wt_bijection.proofs.Sums.{cleared_more}
use Rattle.wt_bijection.proofs.labels.clear.Goals as goal

pub loop-i-preserved : goal.loop-i-preserved
loop-i-preserved c =
    let axis = c.args.axis in
    let tiles = c.args.tiles.now in
    let i = c.loop-i.i in
    let first : c.ahead.result ≡ ahead axis (tile_at tiles i) = c.ahead.ensures ∙ ap (ahead axis) c.tile_at-tile.ensures in
    let second : c.behind.result ≡ behind axis (tile_at tiles i) = c.behind.ensures ∙ ap (behind axis) c.tile_at-tile.ensures in
    record {
      whole = c.clear_at-in-loop-i.array_long;
      cleared = subst (AreCleared axis tiles _) (sym (c.clear_at-in-loop-i.ensures ∙ (ap (λ s. cleared s c.behind.result) c.clear_at.ensures ∙ rw (first, second) refl)))
          (cleared_more axis tiles i c.loop-i.sums c.loop-i.invariant.whole c.loop-i.invariant.cleared);
    }
