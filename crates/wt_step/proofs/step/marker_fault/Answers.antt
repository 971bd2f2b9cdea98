use Rattle.std.proofs.Common.{sym}
use Rattle.wt_step.proofs.MarkedRows.{no_marker_fault}
use Rattle.wt_step.proofs.step.marker_fault.Goals as goal

pub returns-then-are_rows_marked_well : goal.returns-then-are_rows_marked_well
returns-then-are_rows_marked_well c = sym (no_marker_fault c.args.raw.now c.requires.shaped c.args.axis c.if-are_rows_marked_well.ensures)
