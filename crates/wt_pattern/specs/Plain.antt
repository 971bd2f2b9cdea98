-- Lists of tiles that are sets but for two faults.
use Rattle.std.specs.Prelude.{Option, None, Some}
use Rattle.wt_tile.specs.declared.tile.SetFault.{SetFault}
use Rattle.wt_tile.specs.declared.tile.SetFault.TheVariants.{Empty, TooMany, NoColour, Names, Repeated}

-- A list with this first fault is a tile set, but that it may be empty or repeat a tile.
abbrev pub IsPlain : Option SetFault → Type 0
IsPlain None = Unit {0}
IsPlain (Some Empty) = Unit {0}
IsPlain (Some (Repeated i j)) = Unit {0}
IsPlain (Some TooMany) = ⊥
IsPlain (Some (NoColour t)) = ⊥
IsPlain (Some (Names axis)) = ⊥
