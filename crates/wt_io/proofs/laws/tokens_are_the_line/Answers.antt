use Rattle.wt_text.proofs.Split.{spaced_tokens}
use Rattle.wt_io.proofs.laws.tokens_are_the_line.Goals as goal

pub returns : goal.returns
returns c = spaced_tokens
