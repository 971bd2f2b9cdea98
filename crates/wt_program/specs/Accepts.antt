-- What `check` accepts: the texts of good chains.
use Rattle.std.specs.Prelude.{◌≡◌, ◌≢◌, ◌≤◌, ℕ, List, length}
use Rattle.wt_text.specs.Lines.{bytes_of}
use Rattle.wt_chain.specs.declared.raw.RawChain.{RawChain}
use Rattle.wt_chain.specs.Good.{IsGoodChain}
use Rattle.wt_cert.specs.Fits.{IsWritable}
use Rattle.wt_cert.specs.Spelling.{cert_lines}
use Rattle.wt_program.specs.declared.limits.TheConstants.{MAX_INPUT}
use Rattle.wt_program.specs.declared.status.TheConstants.{ANSWERED, READ_FAULT, WRITE_FAULT, OUT_OF_MEMORY}

-- The bytes are the certificate of this chain.
pub record IsCertificateOf (chain : RawChain) (bytes : List ℕ) : Type 0 where
  -- they are the lines of the chain, as it is spelled
  pub spelled : bytes ≡ bytes_of (cert_lines chain)
  -- the chain is within the limits of a text
  pub writable : IsWritable chain
  -- the chain is good
  pub good : IsGoodChain chain
  -- there are no more bytes than the program reads, 16 MiB
  pub few : length bytes ≤ MAX_INPUT

-- The status of `check` says whether the bytes are a certificate.
pub record AcceptsExactly (bytes : List ℕ) (status : ℕ) : Type 0 where
  -- where it says yes, they are the certificate of a chain
  pub certified : status ≡ ANSWERED → (chain : RawChain) × IsCertificateOf chain bytes
  -- and it says yes to each certificate, save for faults of the devices and running out of memory
  pub accepted : (chain : RawChain) → IsCertificateOf chain bytes
      → status ≢ READ_FAULT → status ≢ WRITE_FAULT → status ≢ OUT_OF_MEMORY → status ≡ ANSWERED
