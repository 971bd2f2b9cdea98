-- What `check N n` answers to n lines: what the program's `check` prints for them as its input.
use Rattle.std.specs.Prelude.{ℕ, nat_lt, if◌then◌else◌, List, length, codes, Option, None, Some, Result, Ok, Err}
use Rattle.wt_line.specs.declared.faults.What.{What}
use Rattle.wt_text.specs.Lines.{lines}
use Rattle.wt_text.specs.Readers.{TextFault, syntax_at, limit_at, whole_text}
use Rattle.wt_chain.specs.declared.raw.RawChain.{RawChain}
use Rattle.wt_chain.specs.declared.raw.Refusal.{Refusal}
use Rattle.wt_chain.specs.Faults.{chain_fault}
use Rattle.wt_check.specs.Texts.{report_text, refusal_text}
use Rattle.wt_cert.specs.Parts.{cert_part}
use Rattle.wt_session.specs.declared.limits.TheConstants.{MAX_INPUT}
use Rattle.wt_session.specs.declared.value.Value.TheVariants.{Chain}
use Rattle.wt_session.specs.Replies.{Reply, binds, refused, limit}
use Rattle.wt_session.specs.Texts.{syntax_text, limit_text}

-- a chain that was read, by its first failing condition
abbrev pub judged : List ℕ → RawChain → Option Refusal → Reply
judged n c None = binds n (Chain c) (report_text c)
judged n c (Some refusal) = refused (refusal_text refusal)

-- what was read: a chain, or the first fault of the text
abbrev pub checked : List ℕ → Result RawChain (TextFault What) → Reply
checked n (Ok c) = judged n c (chain_fault c)
checked n (Err (syntax_at k)) = refused (syntax_text k)
checked n (Err (limit_at what k)) = limit (limit_text what k)

-- more bytes than an input may have are refused before they are read
abbrev pub check_reply : List ℕ → List ℕ → Reply
check_reply n bytes = if nat_lt MAX_INPUT (length bytes) then limit (codes "limit input\n") else checked n (whole_text cert_part (lines bytes))
