use Rattle.std.proofs.Common.{length}
use Rattle.wt_expand.specs.WordTables.{words_below}
use Rattle.wt_expand.proofs.Tiles.{full_ends}
use Rattle.wt_expand.proofs.words.lay_words.Goals as goal

pub returns-then-len-row-clause-laid : goal.returns-then-len-row-clause-laid
returns-then-len-row-clause-laid c =
    full_ends (words_below c.args.counter.now c.args.k c.args.space.now) c.args.above.now c.loop-tile.tile-index c.loop-tile.len
    (length c.args.row.now) c.loop-tile.row c.if-len-row.true c.loop-tile.invariant.room c.loop-tile.invariant.laid
