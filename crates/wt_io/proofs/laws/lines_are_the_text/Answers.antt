use Rattle.wt_text.proofs.Split.{bytes_lines}
use Rattle.wt_io.proofs.laws.lines_are_the_text.Goals as goal

pub returns : goal.returns
returns c = bytes_lines
