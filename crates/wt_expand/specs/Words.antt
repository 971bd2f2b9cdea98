-- What a tile some levels up stands for in one row of the first level.
use Rattle.std.specs.Prelude.{◌≡◌, ◌≤◌, ℕ, zero, suc, Bool, List, [], ◌∷◌, length, take}
use Rattle.wt_grid.specs.declared.image.Image.TheVariants as image
use Rattle.wt_grid.specs.declared.image.Image.{Image}
use Rattle.wt_grid.specs.declared.axis.Axis.TheVariants.{One, Two}
use Rattle.wt_grid.specs.declared.axis.Axis.{Axis}
use Rattle.std.specs.List.{flat_map}
use Rattle.wt_grid.specs.Traces.{piece_tiles}
use Rattle.wt_chain.specs.Turns.{axis_of}
use Rattle.wt_expand.specs.Levels.{Level}
use Rattle.wt_expand.specs.Rows.{Digit}
use Rattle.wt_expand.specs.Blocks.{piece_under, tile_of}

-- what is laid of a piece in the lower or the upper row: along axis 1 all of it, along axis 2 one end
abbrev pub laid_piece : Axis → Bool → Image → Image
laid_piece One upper p = p
laid_piece Two upper p = image.One (tile_of upper p)

-- the tiles that are laid of a tile of the row above
abbrev pub word : List ℕ → Level → Bool → ℕ → List ℕ
word renaming level upper t = piece_tiles (laid_piece (axis_of level.link) upper (piece_under renaming level t))

-- the tiles that are laid of a tile above several levels, where the rows between are the lower or the upper ones as the bits of these digits say
abbrev pub words : List ℕ → List Level → List Digit → ℕ → List ℕ
words renaming [] ss t = t ∷ []
words renaming (level ∷ levels) [] t = t ∷ []
words renaming (level ∷ levels) (s ∷ ss) t = flat_map (word renaming level s.is_upper) (words renaming levels ss t)

-- the row of digit k
abbrev pub row_at : ℕ → List Digit → List ℕ
row_at k [] = []
row_at zero (s ∷ ss) = s.row
row_at (suc k) (s ∷ ss) = row_at k ss

-- the first row, w cells of it, laid of the row k levels up alone
abbrev pub row_by_words : ℕ → List ℕ → List Level → ℕ → List Digit → List ℕ
row_by_words w renaming levels k digits = take w (flat_map (words renaming (take k levels) digits) (row_at k digits))

-- the first of these digits has the row that is laid, word by word, of the row of each level above alone
abbrev pub IsRowByWords : ℕ → List ℕ → List Level → Digit → List Digit → Type 0
IsRowByWords w renaming levels s ss = (k : ℕ) → k ≤ length levels → s.row ≡ row_by_words w renaming levels k (s ∷ ss)
