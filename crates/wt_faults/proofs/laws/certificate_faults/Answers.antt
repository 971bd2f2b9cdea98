use Rattle.wt_faults.proofs.ReaderLaws.{read_faults}
use Rattle.wt_faults.proofs.CertReads.{cert_read}
use Rattle.wt_faults.proofs.CertOpen.{certificate_open}
use Rattle.wt_faults.proofs.laws.certificate_faults.Goals as goal

pub returns : goal.returns
returns c = read_faults cert_read certificate_open
