use Rattle.std.proofs.Common.{arith, take}
use Rattle.std.proofs.lemmas.List.{length-take-le}
use Rattle.wt_window.specs.Frames.{frame_window}
use Rattle.wt_window.proofs.Searched.{followed}
use Rattle.wt_window.proofs.search.followers.Goals as goal

pub returns : goal.returns
returns c = λ t. followed c.args.tables.now.tiles.now (frame_window c.args.frame.now) (take c.args.at c.args.filled.now) c.args.at t _ _ _ _ _ _ _ (length-take-le c.args.at c.args.filled.now (omega arith))
    (c.beside_left-mask.ensures t) (c.beside_below.ensures t) (c.pinned.ensures t) (c.pinned-2.ensures t) (c.and_into.ensures t) (c.and_into-2.ensures t) (c.and_into-3.ensures t)
