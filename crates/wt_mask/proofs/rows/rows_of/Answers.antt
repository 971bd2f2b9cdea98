use Rattle.std.proofs.Common.{arith}
use Rattle.wt_grid.specs.declared.limits.TheConstants.{MAX_TILES}
use Rattle.wt_mask.proofs.Meets.{blank_bit}
use Rattle.wt_mask.proofs.rows.rows_of.Goals as goal

pub loop-pair-init : goal.loop-pair-init
loop-pair-init c = λ a b low fits.
    rw (c.no_rows-rows.ensures, blank_bit MAX_TILES a b low) (omega arith)
