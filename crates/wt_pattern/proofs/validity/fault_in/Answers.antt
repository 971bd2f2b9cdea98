use Rattle.std.proofs.Common.{◌∙◌}
use Rattle.wt_pattern.proofs.RowFaults.{behind_quiet}
use Rattle.wt_pattern.proofs.validity.fault_in.Goals as goal

pub returns : goal.returns
returns c = c.fault_from.ensures ∙ behind_quiet c.args.colours.now.tiles.now c.args.p.now c.args.y c.count_quiet-start.result c.count_quiet-start.ensures.within c.count_quiet-start.ensures.quiet
