use Rattle.std.proofs.Common.{◌<◌, length}
use Rattle.wt_step.proofs.Indexed.{indexed_more}
use Rattle.wt_step.proofs.index.index_images.Goals as goal

pub loop-i-preserved : goal.loop-i-preserved
loop-i-preserved c =
    let lt : c.loop-i.i < length c.args.raw.now.images = rw c.count_images-i-end.ensures.value at c.loop-i-test.true in
    rw (c.note_image.ensures.singles, c.note_image.ensures.pairs, c.count_tiles-tiles.ensures.value, c.image_at.ensures, c.from.ensures)
    (indexed_more c.args.raw.now c.requires c.loop-i.i lt c.loop-i.index.singles.items c.loop-i.index.pairs.items c.loop-i.invariant)
