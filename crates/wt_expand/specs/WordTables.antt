-- Scaffolding: the words of a level's tiles, kept in tables, and how long they are.
use Rattle.std.specs.Prelude.{◌≡◌, ◌+◌, ◌*◌, ◌<◌, ◌≤◌, ℕ, Bool, List, [], ◌∷◌, take, drop, slice_index}
use Rattle.wt_grid.specs.declared.image.Image.{Image}
use Rattle.wt_grid.specs.declared.axis.Axis.TheVariants.{One, Two}
use Rattle.wt_grid.specs.declared.axis.Axis.{Axis}
use Rattle.wt_grid.specs.declared.limits.TheConstants.{MAX_TILES}
use Rattle.std.specs.List.{flat_map}
use Rattle.wt_grid.specs.Traces.{piece_tiles}
use Rattle.wt_chain.specs.Turns.{axis_of}
use Rattle.wt_expand.specs.declared.limits.TheConstants.{MAX_WORD, MAX_TABLE}
use Rattle.wt_expand.specs.declared.counter.Counter.{Counter}
use Rattle.wt_expand.specs.declared.counter.LevelRef.{LevelRef}
use Rattle.wt_expand.specs.declared.words.WordTable.{WordTable}
use Rattle.wt_expand.specs.Levels.{Level}
use Rattle.wt_expand.specs.Counters.{counter_levels, digits_at, piece_at_level}
use Rattle.wt_expand.specs.Words.{laid_piece, words}

-- a level along axis 1 may make two tiles of each
abbrev pub times : Axis → ℕ → ℕ
times One n = 2 * n
times Two n = n

-- how many tiles a tile above these levels comes to at most
abbrev pub longest_word : List Level → ℕ
longest_word [] = 1
longest_word (level ∷ levels) = times (axis_of level.link) (longest_word levels)

-- below the lowest k levels no word has more than MAX_WORD tiles
abbrev pub HasShortWords : Counter → ℕ → Type 0
HasShortWords counter k = longest_word (take k (counter_levels counter)) ≤ MAX_WORD

-- what the tiles above the lowest k levels come to in the row that is due
abbrev pub words_below : Counter → ℕ → List ℕ → ℕ → List ℕ
words_below counter k space = words counter.renaming.now (take k (counter_levels counter)) (digits_at counter 0 space)

-- what the tiles of an image come to there, one after another
abbrev pub image_below : Counter → ℕ → List ℕ → Image → List ℕ
image_below counter k space p = flat_map (words_below counter k space) (piece_tiles p)

-- what is laid of a tile of the row above a level
abbrev pub image_laid_at : Counter → LevelRef → Bool → ℕ → Image
image_laid_at counter level upper t = laid_piece (axis_of level.link.now) upper (piece_at_level counter level t)

-- the tiles that stand in a table for tile t
abbrev pub word_at : WordTable → ℕ → List ℕ
word_at table t = take (slice_index table.lens t) (drop (slice_index table.starts t) table.tiles)

-- the table has this word for tile t, among the tiles in use, and can copy MAX_WORD tiles from there
pub record IsWord (table : WordTable) (t : ℕ) (word : List ℕ) : Type 0 where
  pub place : slice_index table.starts t + MAX_WORD ≤ MAX_TABLE
  pub few : slice_index table.lens t ≤ MAX_WORD
  pub below : slice_index table.starts t + slice_index table.lens t ≤ table.end
  pub is : word_at table t ≡ word

-- the table has the words of the first tiles
pub record HasWords (table : WordTable) (word_of : ℕ → List ℕ) : Type 0 where
  pub within : table.count ≤ MAX_TILES
  pub room : table.end ≤ MAX_TABLE
  pub each : (t : ℕ) → t < table.count → IsWord table t (word_of t)
