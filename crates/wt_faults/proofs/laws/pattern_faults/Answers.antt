use Rattle.wt_faults.proofs.ReaderLaws.{read_faults}
use Rattle.wt_faults.proofs.Open.{rows_open, pattern_open}
use Rattle.wt_faults.proofs.RowReads.{rows_read, shaped_read}
use Rattle.wt_faults.proofs.laws.pattern_faults.Goals as goal

pub returns-clause-rows : goal.returns-clause-rows
returns-clause-rows c = λ w h le. read_faults (rows_read w h) (rows_open w h le)

pub returns-clause-shaped : goal.returns-clause-shaped
returns-clause-shaped c = read_faults shaped_read pattern_open
