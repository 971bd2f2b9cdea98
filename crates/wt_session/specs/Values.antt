-- What is known of the values that names are bound to.
use Rattle.std.specs.Prelude.{◌≡◌, ℕ, List, None, Some}
use Rattle.wt_grid.specs.Grid.{IsGrid}
use Rattle.wt_tile.specs.Sets.{set_fault}
use Rattle.wt_chain.specs.Faults.{chain_fault}
use Rattle.wt_torus.specs.Sound.{IsSound}
use Rattle.wt_session.specs.declared.value.Value.{Value}
use Rattle.wt_session.specs.declared.value.Value.TheVariants.{Set, Pattern, Chain, Partition}
use Rattle.wt_session.specs.Sheets.{AreTiles}
use Rattle.wt_session.specs.Names.{Names, find}

-- A set has no fault, the cells of a pattern over a set are its tiles, a chain has no fault, and the torus of a partition is one, with half-planes that have directions.
abbrev pub IsGoodValue : Value → Type 0
IsGoodValue (Set set) = set_fault set ≡ None
IsGoodValue (Pattern laid) = IsGrid laid.pattern × AreTiles laid.over laid.pattern
IsGoodValue (Chain c) = chain_fault c ≡ None
IsGoodValue (Partition p) = IsSound p

-- each name is bound to such a value
abbrev pub HasGoodValues : Names → Type 0
HasGoodValues names = (n : List ℕ) (v : Value) → find n names ≡ Some v → IsGoodValue v
