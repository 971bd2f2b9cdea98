-- Chains whose first set has no wrapping rectangle.
use Rattle.std.specs.Prelude.{ℕ}
use Rattle.wt_chain.specs.declared.raw.RawChain.{RawChain}
use Rattle.wt_chain.specs.Looped.{IsLooped, first_tiles}
use Rattle.wt_periodic.specs.Wraps.{HasNoWrapOf}

-- where the chain is looped, no rectangle of tiles of its first set wraps round, of any size
abbrev pub HasNoWrap : RawChain → Type 0
HasNoWrap chain = (loop : IsLooped chain) → (w h : ℕ) → HasNoWrapOf (first_tiles loop) w h
