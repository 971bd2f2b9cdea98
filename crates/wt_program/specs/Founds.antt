-- What is promised of a chain that a search finds, through its text.
use Rattle.std.specs.Prelude.{◌≡◌, List, ℕ, Ok}
use Rattle.wt_text.specs.Lines.{bytes_of}
use Rattle.wt_chain.specs.declared.raw.RawChain.{RawChain}
use Rattle.wt_check.specs.Texts.{report_text}
use Rattle.wt_cert.specs.Fits.{IsWritable}
use Rattle.wt_cert.specs.Spelling.{cert_lines}
use Rattle.wt_program.specs.declared.reply.Reply.TheVariants.{Answered}
use Rattle.wt_program.specs.Checks as checks

-- the certificate of a chain
abbrev pub cert_text : RawChain → List ℕ
cert_text c = bytes_of (cert_lines c)

-- A chain comes back through its certificate.
pub record IsReadBack (c : RawChain) : Type 0 where
  -- it is within the limits of a certificate
  pub fits : IsWritable c
  -- its certificate is read as the same chain
  pub read : checks.chain_of (cert_text c) ≡ Ok c
  -- the chain that is read is accepted
  pub accepted : checks.accepted (cert_text c) ≡ Ok c
  -- `check` answers its certificate with the report
  pub answered : checks.check_reply (cert_text c) ≡ Answered (report_text c)
