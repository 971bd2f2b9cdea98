-- What text a tile set and a pattern have.
use Rattle.std.specs.Prelude.{◌≡◌, ◌≤◌, ℕ, List, length}
use Rattle.wt_text.specs.Lines.{bytes_of}
use Rattle.wt_text.specs.Spellings.{AllFit}
use Rattle.wt_tile.specs.declared.tile.TileList.{TileList}
use Rattle.wt_grid.specs.Grid.{Grid, IsGrid}
use Rattle.wt_pattern.specs.TileRows.{rows_spelling, IsListed}
use Rattle.wt_pattern.specs.PatternRows.{pattern_lines}

-- the bytes are the text of a list of n tiles that has one
abbrev pub IsSetText : ℕ → TileList → List ℕ → Type 0
IsSetText n list bytes = (bytes ≡ bytes_of (rows_spelling list)) × (length list.tiles ≡ n) × IsListed list

-- a rectangle whose cells are at most this
abbrev pub HasCellsTo : ℕ → Grid → Type 0
HasCellsTo most g = IsGrid g × AllFit (λ c. c ≤ most) g.cells

-- the bytes are the text of a rectangle of this width and height, whose cells are at most this
abbrev pub IsPatternText : ℕ → ℕ → ℕ → Grid → List ℕ → Type 0
IsPatternText most w h g bytes = (bytes ≡ bytes_of (pattern_lines g)) × (g.width ≡ w) × (g.height ≡ h) × IsGrid g × AllFit (λ c. c ≤ most) g.cells
