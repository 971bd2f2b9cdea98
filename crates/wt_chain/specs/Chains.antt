-- Good chains, as a record of what holds, and chains that are still open.
use Rattle.std.specs.Prelude.{ℕ, ◌+◌, ◌≡◌, ◌<◌, ◌≤◌, List, length, Option, None, Some, nat_lt, if◌then◌else◌}
use Rattle.wt_step.specs.declared.raw.RawLink.{RawLink}
use Rattle.wt_chain.specs.declared.raw.RawChain.{RawChain}
use Rattle.wt_chain.specs.declared.raw.Version.{Version}
use Rattle.wt_chain.specs.declared.raw.End.TheVariants.{Loop}
use Rattle.wt_chain.specs.declared.push.PushFault.{PushFault}
use Rattle.wt_chain.specs.declared.push.PushFault.TheVariants.{NotNext, TooMany}
use Rattle.wt_chain.specs.Versions.{version_of}
use Rattle.wt_chain.specs.Sets.{comes_next, set_behind}
use Rattle.wt_chain.specs.Faults.{steps_fault, close_fault}

-- 1 to 32 good steps, each of which takes apart the set before it, with the version that has them
pub record IsOpen (links : List RawLink) (version : Version) : Type 0 where
  pub some : 0 < length links
  pub few : length links ≤ 32
  pub good : steps_fault links ≡ None
  pub fits : version ≡ version_of links

-- the chain of these steps, closed to a loop
abbrev pub looped : List RawLink → ℕ → List ℕ → ℕ → RawChain
looped links start renaming expansion = record { version = version_of links; steps = links; end = Loop start renaming expansion }

-- why a step can't be put behind these
abbrev pub push_fault : List RawLink → RawLink → Option PushFault
push_fault links link =
    if comes_next (set_behind links) link then (if nat_lt (length links) 32 then None else Some TooMany) else Some NotNext

-- the steps may be closed so, and make this chain
abbrev pub IsClosedAs : List RawLink → ℕ → List ℕ → ℕ → RawChain → Type 0
IsClosedAs links start renaming expansion chain =
    (close_fault links start renaming expansion ≡ None) × (chain ≡ looped links start renaming expansion)
