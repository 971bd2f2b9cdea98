-- upgrade N C: the same chain in version two.
use Rattle.std.specs.Prelude.{ℕ, List, codes, Result, Ok, Err}
use Rattle.wt_chain.specs.declared.raw.RawChain.{RawChain}
use Rattle.wt_chain.specs.declared.raw.Version.TheVariants.{Two}
use Rattle.wt_session.specs.declared.value.Value.TheVariants.{Chain}
use Rattle.wt_session.specs.Names.{Names}
use Rattle.wt_session.specs.Replies.{Reply, binds, chain_named}

-- the chain in version two: all else is as before
abbrev pub upgraded : RawChain → RawChain
upgraded c = record c { version = Two }

-- the reply for a chain that was looked up
abbrev pub upgrade_of : List ℕ → Result RawChain Reply → Reply
upgrade_of n (Err stopped) = stopped
upgrade_of n (Ok c) = binds n (Chain (upgraded c)) (codes "version 2\n")

-- the reply to `upgrade N C`
abbrev pub upgrade_reply : Names → List ℕ → List ℕ → Reply
upgrade_reply names n c = upgrade_of n (chain_named names c)
