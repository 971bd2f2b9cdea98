use Rattle.wt_strip.proofs.Written.{row_written}
use Rattle.wt_strip.proofs.text.push_rows.Goals as goal

pub loop-r-preserved : goal.loop-r-preserved
loop-r-preserved c = row_written c.args.w c.args.cells.now c.loop-r.r c.row.result.now c.args.out.now.items c.loop-r.out.items c.push_row.new.out.items c.row.ensures.cells c.in_ok-push_row.ensures.ok c.loop-r.invariant
