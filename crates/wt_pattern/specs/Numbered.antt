-- Scaffolding: rows that are read one after the other, with the names that were seen before.
use Rattle.std.specs.Prelude.{ℕ, List, Option, Result}
use Rattle.wt_tile.specs.declared.tile.Tile.{Tile}
use Rattle.wt_text.specs.Readers.{both}
use Rattle.wt_names.specs.Numbering.{place, seen_after}
use Rattle.wt_names.specs.Rows.{Edges, name_word}
use Rattle.wt_pattern.specs.declared.rows.Row.{Row}

-- a row's four names
abbrev pub four_names : {W : Type 0} → List (List ℕ) → Option (Result (List ℕ × (List ℕ × (List ℕ × List ℕ))) W × List (List ℕ))
four_names = both name_word (both name_word (both name_word name_word))

-- the words of a row, in their order
abbrev pub row_words : Row → List ℕ × (List ℕ × (List ℕ × List ℕ))
row_words r = (r.right.now, (r.top.now, (r.left.now, r.bottom.now)))

-- the four words of a row, as the names of its edges
abbrev pub row_named : Row → Edges (List ℕ)
row_named r = record { right = r.right.now; top = r.top.now; left = r.left.now; bottom = r.bottom.now }

-- the tile of a row behind others
abbrev pub next_tile : List (List ℕ) → List (List ℕ) → Edges (List ℕ) → Tile
next_tile seen1 seen2 e = record { east = place e.right seen1; north = place e.top seen2; west = place e.left (seen_after seen1 e.right); south = place e.bottom (seen_after seen2 e.top) }
