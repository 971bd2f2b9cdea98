-- Scaffolding: what the tiles of a row stand for, kept in tables.
use Rattle.std.specs.Prelude.{◌≡◌, ℕ, ◌<◌, ◌≤◌, List, length, slice_index}
use Rattle.wt_grid.specs.declared.image.Image.{Image}
use Rattle.wt_grid.specs.Images.{first_tile, last_tile}
use Rattle.wt_grid.specs.Traces.{piece_tiles}
use Rattle.wt_expand.specs.declared.table.PieceTable.{PieceTable}
use Rattle.wt_expand.specs.Levels.{Level}
use Rattle.wt_expand.specs.Blocks.{piece_under}
use Rattle.wt_grid.specs.declared.limits.TheConstants.{MAX_TILES}

-- the entries of t are the ends of a piece, and how many tiles it has
pub record IsPiece (firsts lasts lens : List ℕ) (t : ℕ) (p : Image) : Type 0 where
  pub first : slice_index firsts t ≡ first_tile p
  pub last : slice_index lasts t ≡ last_tile p
  pub count : slice_index lens t ≡ length (piece_tiles p)

-- the first tiles of the set above a step have the entries of what they stand for
pub record HasPieces (table : PieceTable) (renaming : List ℕ) (level : Level) : Type 0 where
  pub within : table.count ≤ MAX_TILES
  pub each : (t : ℕ) → t < table.count → IsPiece table.firsts table.lasts table.lens t (piece_under renaming level t)
