-- What `cert C` answers.
use Rattle.std.specs.Prelude.{ℕ, List, Result, Ok, Err}
use Rattle.wt_text.specs.Lines.{bytes_of}
use Rattle.wt_chain.specs.declared.raw.RawChain.{RawChain}
use Rattle.wt_cert.specs.Spelling.{cert_lines}
use Rattle.wt_session.specs.Names.{Names}
use Rattle.wt_session.specs.Replies.{Reply, says, chain_named}

-- the chain, or why there is none
abbrev pub cert_of : Result RawChain Reply → Reply
cert_of (Err reply) = reply
cert_of (Ok c) = says (bytes_of (cert_lines c))

-- the reply of `cert`: the certificate of the chain
abbrev pub cert_reply : Names → List ℕ → Reply
cert_reply names c = cert_of (chain_named names c)
