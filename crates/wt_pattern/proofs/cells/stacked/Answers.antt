use Rattle.std.proofs.Common.{◌≡◌, ◌++◌, ap, ◌∙◌}
use Rattle.wt_pattern.specs.PatternRows.{from_bottom}
use Rattle.wt_pattern.proofs.Stacks.{taken}
use Rattle.wt_pattern.proofs.cells.stacked.Goals as goal

pub loop-row-preserved : goal.loop-row-preserved
loop-row-preserved c = taken c.loop-row.cells.items c.as_slice.result.now c.extend_from_slice.new.self.items c.loop-row.rows.items c.pop.new.self.items (from_bottom c.args.rows.items) (rw c.as_slice.ensures c.in-Some.ensures.items) c.in_ok-extend_from_slice.ensures.items c.loop-row.invariant
