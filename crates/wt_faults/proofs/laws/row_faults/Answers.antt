use Rattle.wt_faults.proofs.ReaderLaws.{read_faults}
use Rattle.wt_faults.proofs.Open.{set_open}
use Rattle.wt_faults.proofs.RowReads.{set_read}
use Rattle.wt_faults.proofs.laws.row_faults.Goals as goal

pub returns : goal.returns
returns c = λ n. read_faults (set_read n) (set_open n)
