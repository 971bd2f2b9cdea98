use Rattle.wt_faults.proofs.ReaderLaws.{read_faults}
use Rattle.wt_faults.proofs.Follows.{both_read}
use Rattle.wt_faults.proofs.RowReads.{shaped_read}
use Rattle.wt_faults.proofs.CertReads.{cert_read}
use Rattle.wt_faults.proofs.CertOpen.{desub_open}
use Rattle.wt_faults.proofs.laws.desub_faults.Goals as goal

pub returns : goal.returns
returns c = read_faults (both_read cert_read shaped_read) desub_open
