-- primitive C: the least power of the loop in which every tile makes every tile, or that there is none.
use Rattle.std.specs.Prelude.{◌≡◌, ℕ, List, ◌++◌, drop, codes, Option, None, Some, Result, Ok, Err}
use Rattle.std.specs.Fmt.{decimal}
use Rattle.wt_step.specs.declared.raw.RawLink.{RawLink}
use Rattle.wt_chain.specs.declared.raw.RawChain.{RawChain}
use Rattle.wt_chain.specs.declared.raw.End.{End}
use Rattle.wt_chain.specs.declared.raw.End.TheVariants.{Open, Loop}
use Rattle.wt_check.specs.Primitive.{IsLoopPower}
use Rattle.wt_session.specs.Names.{Names}
use Rattle.wt_session.specs.Replies.{Reply, says, open_chain, chain_named}

-- the power, or that there is none
abbrev pub power_text : Option ℕ → List ℕ
power_text None = codes "not primitive\n"
power_text (Some p) = codes "primitive " ++ (decimal p ++ codes "\n")

-- the reply for the steps and the end of a chain
abbrev pub IsPowerReply : List RawLink → End → Reply → Type 0
IsPowerReply steps Open reply = reply ≡ open_chain
IsPowerReply steps (Loop start renaming expansion) reply = (power : Option ℕ) × IsLoopPower (drop start steps) renaming power × (reply ≡ says (power_text power))

-- a reply for a chain that was looked up
abbrev pub IsPrimitiveOf : Result RawChain Reply → Reply → Type 0
IsPrimitiveOf (Err stopped) reply = reply ≡ stopped
IsPrimitiveOf (Ok c) reply = IsPowerReply c.steps c.end reply

-- the reply to `primitive C`
abbrev pub IsPrimitiveReply : Names → List ℕ → Reply → Type 0
IsPrimitiveReply names c reply = IsPrimitiveOf (chain_named names c) reply
