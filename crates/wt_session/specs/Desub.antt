-- What `desub N C k P` answers.
use Rattle.std.specs.Prelude.{◌≡◌, ℕ, Bool, true, false, List, ◌++◌, slice_get, codes, Option, None, Some, Result, Ok, Err}
use Rattle.std.specs.Fmt.{decimal}
use Rattle.wt_grid.specs.Grid.{Grid}
use Rattle.wt_tile.specs.declared.tile.TileList.{TileList}
use Rattle.wt_pattern.specs.declared.fault.Fault.{Fault}
use Rattle.wt_pattern.specs.Patterns.{IsPattern}
use Rattle.wt_step.specs.declared.raw.RawLink.{RawLink}
use Rattle.wt_step.specs.declared.coarse.DesubFault.{DesubFault}
use Rattle.wt_step.specs.declared.coarse.DesubFault.TheVariants.{NotValid, TooSmall, OutOfMemory}
use Rattle.wt_step.specs.Links.{fine_of, coarse_of}
use Rattle.wt_step.specs.Coarse.{IsDesubstitution, cuts_low, cuts_high, desub_fault}
use Rattle.wt_chain.specs.declared.raw.RawChain.{RawChain}
use Rattle.wt_chain.specs.Sets.{same_set}
use Rattle.wt_session.specs.declared.value.Value.TheVariants.{Pattern}
use Rattle.wt_session.specs.Sheets.{Laid}
use Rattle.wt_session.specs.Names.{Names}
use Rattle.wt_session.specs.Replies.{Reply, binds, refused, pattern_named, chain_named}
use Rattle.wt_session.specs.Texts.{not_valid_text, coarse_text}

-- The coarse pattern is over the set of level k + 1. It isn't computed here but named by the law that there is only one.

-- a step past the last
abbrev pub step_text : ℕ → List ℕ
step_text k = codes "refused step " ++ (decimal k ++ codes "\n")

-- the coarse pattern over the step's coarse set, bound to a name
abbrev pub coarse_reply : List ℕ → RawLink → Grid → Bool → Bool → Reply
coarse_reply n link q low high = binds n (Pattern (record { pattern = q; over = Some (coarse_of link) })) (coarse_text q low high)

-- a pattern of tiles: its first neighbours that don't match, or that it is too small, or else its coarse pattern
abbrev pub IsTakenReply : List ℕ → RawLink → Grid → Option DesubFault → Reply → Type 0
IsTakenReply n link p (Some (NotValid fault)) reply = reply ≡ refused (not_valid_text fault)
IsTakenReply n link p (Some TooSmall) reply = reply ≡ refused (codes "refused too small\n")
IsTakenReply n link p (Some OutOfMemory) reply = ⊥
IsTakenReply n link p None reply = (q : Grid) × IsDesubstitution link p q × IsPattern (coarse_of link).tiles q × (reply ≡ coarse_reply n link q (cuts_low link p) (cuts_high link p))

-- whether the pattern's set is that of level k
abbrev pub IsSetReply : List ℕ → RawLink → Grid → Bool → Reply → Type 0
IsSetReply n link p true reply = IsTakenReply n link p (desub_fault link p) reply
IsSetReply n link p false reply = reply ≡ refused (codes "refused other set\n")

-- the step that is asked for, or that there is none of this number
abbrev pub IsStepReply : List ℕ → ℕ → Grid → TileList → Option RawLink → Reply → Type 0
IsStepReply n k p set None reply = reply ≡ refused (step_text k)
IsStepReply n k p set (Some link) reply = IsSetReply n link p (same_set set (fine_of link)) reply

-- the set that the pattern is over
abbrev pub IsOverReply : List ℕ → RawChain → ℕ → Grid → Option TileList → Reply → Type 0
IsOverReply n c k p None reply = reply ≡ refused (codes "refused no set\n")
IsOverReply n c k p (Some set) reply = IsStepReply n k p set (slice_get c.steps k) reply

-- the pattern, or why there is none
abbrev pub IsDesubOf : List ℕ → RawChain → ℕ → Result Laid Reply → Reply → Type 0
IsDesubOf n c k (Err stopped) reply = reply ≡ stopped
IsDesubOf n c k (Ok laid) reply = IsOverReply n c k laid.pattern laid.over reply

-- the chain is looked at before the pattern
abbrev pub IsDesubIn : Names → List ℕ → Result RawChain Reply → ℕ → List ℕ → Reply → Type 0
IsDesubIn names n (Err stopped) k p reply = reply ≡ stopped
IsDesubIn names n (Ok c) k p reply = IsDesubOf n c k (pattern_named names p) reply

-- The reply of `desub`. Refused for a name, then for a pattern over no set, a step past the last, another set, a pattern that isn't valid, one that is too small.
abbrev pub IsDesubReply : Names → List ℕ → List ℕ → ℕ → List ℕ → Reply → Type 0
IsDesubReply names n c k p reply = IsDesubIn names n (chain_named names c) k p reply
