-- What an answer of `strip` promises of the set that came in.
use Rattle.std.specs.Prelude.{◌≡◌, ◌⊎◌, ℕ, ◌≤◌, List, length, Option, None, Some, Ok}
use Rattle.std.specs.Io.KnownBytes.{Appends}
use Rattle.wt_text.specs.Words.{value_from}
use Rattle.wt_text.specs.Lines.{lines}
use Rattle.wt_text.specs.Readers.{whole_text}
use Rattle.wt_grid.specs.Grid.{Grid}
use Rattle.wt_tile.specs.declared.tile.Tile.{Tile}
use Rattle.wt_tile.specs.declared.tile.TileList.{TileList}
use Rattle.wt_pattern.specs.Patterns.{IsPattern}
use Rattle.wt_scale.specs.Existence.{IsPatternOf}
use Rattle.wt_strip.specs.declared.layers.Layers.{Layers}
use Rattle.wt_program.specs.SetTexts.{set_part}
use Rattle.wt_program.specs.Commands.{Command, check, run, desub, bound, expand, periodic, strip, strip_check, markov, markov_step, sample}
use Rattle.wt_program.specs.Strips.{empty_text, filled_text}
use Rattle.wt_program.specs.StripChecks.{set_and_layers}

-- no valid pattern over these tiles is at least so wide and so high
abbrev pub HasNoPattern : List Tile → ℕ → ℕ → Type 0
HasNoPattern ts w h = (g : Grid) → IsPattern ts g → w ≤ g.width → h ≤ g.height → ⊥

-- the bytes are a set and layers, and the set has no valid pattern of at least their width and their number
abbrev pub IsBarring : List ℕ → Type 0
IsBarring bytes = (list : TileList) × (l : Layers) × (set_and_layers bytes ≡ Ok (list, l)) × HasNoPattern list.tiles l.width (length l.layers)

-- a valid pattern of this width and height was written
abbrev pub IsFilling : List Tile → ℕ → ℕ → Option (List ℕ) → Option (List ℕ) → Type 0
IsFilling ts w h old new = (g : Grid) × IsPatternOf ts w h g × Appends old new (filled_text g)

-- layers of this width were written, at most n, and no valid pattern is at least so wide as they are and so high as their number
abbrev pub IsEmptying : List Tile → ℕ → ℕ → Option (List ℕ) → Option (List ℕ) → Type 0
IsEmptying ts w h old new = (l : Layers) × (l.width ≡ w) × (length l.layers ≤ h) × HasNoPattern ts w (length l.layers) × Appends old new (empty_text l)

-- the bytes are a set, and a pattern over it was written or layers that leave none
abbrev pub IsSettled : ℕ → ℕ → List ℕ → Option (List ℕ) → Option (List ℕ) → Type 0
IsSettled w h bytes old new = (list : TileList) × (whole_text set_part (lines bytes) ≡ Ok list) × (IsFilling list.tiles w h old new ⊎ IsEmptying list.tiles w h old new)

-- what an answer promises: of both words of `strip`; of the other words nothing
abbrev pub IsStripPromise : Option Command → List ℕ → Option (List ℕ) → Option (List ℕ) → Type 0
IsStripPromise None bytes old new = Unit {0}
IsStripPromise (Some check) bytes old new = Unit {0}
IsStripPromise (Some run) bytes old new = Unit {0}
IsStripPromise (Some (desub step)) bytes old new = Unit {0}
IsStripPromise (Some (bound x y)) bytes old new = Unit {0}
IsStripPromise (Some (expand width height)) bytes old new = Unit {0}
IsStripPromise (Some (periodic limit budget)) bytes old new = Unit {0}
IsStripPromise (Some markov) bytes old new = Unit {0}
IsStripPromise (Some (markov_step step)) bytes old new = Unit {0}
IsStripPromise (Some (sample side)) bytes old new = Unit {0}
IsStripPromise (Some (strip w h)) bytes old new = IsSettled (value_from 0 w) (value_from 0 h) bytes old new
IsStripPromise (Some strip_check) bytes old new = IsBarring bytes
