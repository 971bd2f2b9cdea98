use Rattle.std.proofs.Common.{◌<◌, length}
use Rattle.wt_step.proofs.Placed.{kept_inside, placed_more}
use Rattle.wt_step.proofs.keep.place_kept.Goals as goal

pub note_place-requires : goal.note_place-requires
note_place-requires c =
    let lt : c.loop-i.i < length c.args.raw.now.kept = rw c.count_kept-i-end.ensures.value at c.loop-i-test.true in
    rw (c.kept_at.ensures, c.loop-i.invariant.size) (kept_inside c.args.raw.now c.requires c.loop-i.i lt)

pub loop-i-preserved : goal.loop-i-preserved
loop-i-preserved c =
    let lt : c.loop-i.i < length c.args.raw.now.kept = rw c.count_kept-i-end.ensures.value at c.loop-i-test.true in
    rw (c.note_place.ensures, c.kept_at.ensures) (placed_more c.args.raw.now c.requires c.loop-i.i c.loop-i.places.items lt c.loop-i.invariant)
