use Rattle.wt_text.specs.Readers.{whole_text}
use Rattle.wt_text.proofs.Texts.{IsWhole, text_whole}
use Rattle.wt_cert.specs.Fits.{IsWritable}
use Rattle.wt_cert.specs.Parts.{cert_part}
use Rattle.wt_cert.specs.Spelling.{cert_lines}
use Rattle.wt_cert.proofs.PartLaws.{certificate}
use Rattle.wt_cert.proofs.laws.certificates_are_exact.Goals as goal

whole_cert : IsWhole (whole_text cert_part) cert_lines IsWritable
whole_cert = text_whole certificate

pub returns-clause-found : goal.returns-clause-found
returns-clause-found c = whole_cert.found

pub returns-clause-again : goal.returns-clause-again
returns-clause-again c = whole_cert.again
