-- census C k t: how often each tile stands in what k turns of the loop make of tile t.
use Rattle.std.specs.Prelude.{◌≡◌, ℕ, List, codes, Result, Ok, Err, MatchResult}
use Rattle.wt_step.specs.declared.raw.RawLink.{RawLink}
use Rattle.wt_chain.specs.declared.raw.RawChain.{RawChain}
use Rattle.wt_chain.specs.declared.raw.End.{End}
use Rattle.wt_check.specs.declared.counts.CensusFault.{CensusFault}
use Rattle.wt_check.specs.declared.counts.CensusFault.TheVariants.{OpenChain, NoTile, TooLarge, OutOfMemory}
use Rattle.wt_check.specs.Census.{IsCensus, HasNoFault, HasFault}
use Rattle.wt_session.specs.Names.{Names}
use Rattle.wt_session.specs.Replies.{Reply, says, limit, no_tile, open_chain, chain_named}
use Rattle.wt_session.specs.Rows.{numbers_text}

-- the census, or why there is none
abbrev pub MayAnswerCensus : List RawLink → End → ℕ → ℕ → Result (List ℕ) CensusFault → Type 0
MayAnswerCensus steps end turns tile answer = MatchResult answer (λ counts. IsCensus steps end turns tile counts × HasNoFault steps end turns tile) (λ e. HasFault steps end turns tile e)

-- a number for each tile
abbrev pub counts_text : List ℕ → List ℕ
counts_text counts = numbers_text (codes "counts") counts

-- the reply to what may be answered to the question for a census
abbrev pub IsCountsReply : ℕ → Result (List ℕ) CensusFault → Reply → Type 0
IsCountsReply tile (Ok counts) reply = reply ≡ says (counts_text counts)
IsCountsReply tile (Err OpenChain) reply = reply ≡ open_chain
IsCountsReply tile (Err NoTile) reply = reply ≡ no_tile tile
IsCountsReply tile (Err TooLarge) reply = reply ≡ limit (codes "limit count\n")
IsCountsReply tile (Err OutOfMemory) reply = ⊥

-- the same for a chain that was looked up
abbrev pub IsCensusOf : ℕ → ℕ → Result RawChain Reply → Reply → Type 0
IsCensusOf turns tile (Err stopped) reply = reply ≡ stopped
IsCensusOf turns tile (Ok c) reply = (answer : Result (List ℕ) CensusFault) × MayAnswerCensus c.steps c.end turns tile answer × IsCountsReply tile answer reply

-- the reply to `census C k t`
abbrev pub IsCensusReply : Names → List ℕ → ℕ → ℕ → Reply → Type 0
IsCensusReply names c turns tile reply = IsCensusOf turns tile (chain_named names c) reply
