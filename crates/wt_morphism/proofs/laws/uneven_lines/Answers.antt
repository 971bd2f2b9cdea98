use Rattle.wt_morphism.proofs.Evenness.{uneven_even}
use Rattle.wt_morphism.proofs.laws.uneven_lines.Goals as goal

pub returns : goal.returns
returns c = uneven_even
