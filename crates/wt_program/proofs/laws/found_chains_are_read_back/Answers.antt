use Rattle.wt_program.proofs.ReadBack.{read_back}
use Rattle.wt_program.proofs.laws.found_chains_are_read_back.Goals as goal

pub returns : goal.returns
returns c = λ s set levels chain f one two. read_back s set levels chain f.radius f.few f.good one two f.found
