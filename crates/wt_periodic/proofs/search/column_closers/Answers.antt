use Rattle.std.proofs.Common.{arith, Bool, ◌&&◌, ◌∙◌, sym, ap, nat_lt, length}
use Rattle.wt_mask.specs.Masks.{bit}
use Rattle.wt_periodic.proofs.Closing.{column_closed}
use Rattle.wt_periodic.proofs.search.column_closers.Goals as goal

pub returns : goal.returns
returns c = λ t. c.below.ensures t
    ∙ ap (λ (b : Bool). bit (nat_lt t (length c.args.rounds.now.tables.tiles.now) && b)) (sym (column_closed c.args.rounds.now.tables.tiles.now c.args.size.width c.args.size.height c.args.filled.now c.args.at t c.requires.wide (omega arith) (omega arith) c.requires.long (omega arith)))
