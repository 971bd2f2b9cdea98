use Rattle.wt_step.proofs.BorderLines.{border_lines}
use Rattle.wt_step.proofs.laws.cuts_are_the_border_lines.Goals as goal

pub returns : goal.returns
returns c = border_lines
