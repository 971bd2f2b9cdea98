-- Tiles as four edges: right, top, left, bottom. Each axis has its own names and numbers.
use Rattle.std.specs.Prelude.{◌≡◌, ℕ, ◌≤◌, Bool, true, false, ◌&&◌, ◌||◌, nat_le, nat_lt, nat_eq, if◌then◌else◌, List, [], ◌∷◌, ◌++◌, length, Option, None, Some, Result, Ok, Err, IsTrue}
use Rattle.wt_tile.specs.Sets.{apart}
use Rattle.wt_tile.specs.Names.{is_name_byte, all_name_bytes}
use Rattle.wt_text.specs.Readers.{LineFault, both, whole}
use Rattle.wt_text.specs.Spellings.{both_spelling}
use Rattle.wt_names.specs.Numbering.{numbered, all_seen, named, InOrder}

-- A value for each edge of a tile.
pub record Edges (A : Type 0) : Type 0 where
  pub right : A
  pub top : A
  pub left : A
  pub bottom : A

-- the edges along axis 1: of each tile the right one, then the left
abbrev pub along1 : {A : Type 0} → List (Edges A) → List A
along1 [] = []
along1 (t ∷ ts) = t.right ∷ t.left ∷ along1 ts

-- along axis 2: the top one, then the bottom
abbrev pub along2 : {A : Type 0} → List (Edges A) → List A
along2 [] = []
along2 (t ∷ ts) = t.top ∷ t.bottom ∷ along2 ts

-- tiles from what stands along axis 1 and along axis 2
abbrev pub tiles_from : {A : Type 0} → List A → List A → List (Edges A)
tiles_from (e ∷ w ∷ es) (n ∷ s ∷ ns) = record { right = e; top = n; left = w; bottom = s } ∷ tiles_from es ns
tiles_from es ns = []

-- Tiles with a number for each edge, and the names of the numbers of each axis.
pub record NumberedTiles : Type 0 where
  pub tiles : List (Edges ℕ)
  pub names1 : List (List ℕ)
  pub names2 : List (List ℕ)

-- rows of names, with the colours of each axis numbered by first coming
abbrev pub with_numbers : List (Edges (List ℕ)) → NumberedTiles
with_numbers rows = record { tiles = tiles_from (numbered [] (along1 rows)) (numbered [] (along2 rows)); names1 = all_seen [] (along1 rows); names2 = all_seen [] (along2 rows) }

-- the names of the edges of each tile
abbrev pub with_names : NumberedTiles → List (Edges (List ℕ))
with_names list = tiles_from (named list.names1 (along1 list.tiles)) (named list.names2 (along2 list.tiles))

-- the colours are numbered by first coming, with one name for each, and no name twice
pub record IsNumbered (list : NumberedTiles) : Type 0 where
  pub order1 : InOrder (length list.names1) 0 (along1 list.tiles)
  pub order2 : InOrder (length list.names2) 0 (along2 list.tiles)
  pub apart1 : apart list.names1 ≡ true
  pub apart2 : apart list.names2 ≡ true

-- ---- a row in a line

-- 1 to 16 bytes of the alphabet of names
abbrev pub is_name : List ℕ → Bool
is_name t = nat_lt 0 (length t) && nat_le (length t) 16 && all_name_bytes t

-- a name
abbrev pub name_word : {W : Type 0} → List (List ℕ) → Option (Result (List ℕ) W × List (List ℕ))
name_word [] = None
name_word (t ∷ ts) = if is_name t then Some (Ok t, ts) else None

-- a name as it stands in a line
abbrev pub name_spelling : List ℕ → List (List ℕ)
name_spelling t = t ∷ []

-- right, top, left, bottom
abbrev pub row_form : {W : Type 0} → List (List ℕ) → Result (List ℕ × (List ℕ × (List ℕ × List ℕ))) (LineFault W)
row_form = whole (both name_word (both name_word (both name_word name_word)))

-- the four names of a row as they stand in a line
abbrev pub row_spelling : List ℕ × (List ℕ × (List ℕ × List ℕ)) → List (List ℕ)
row_spelling = both_spelling name_spelling (both_spelling name_spelling (both_spelling name_spelling name_spelling))

-- each of the four is a name
abbrev pub RowFits : List ℕ × (List ℕ × (List ℕ × List ℕ)) → Type 0
RowFits x = (is_name x.0 ≡ true) × ((is_name x.1.0 ≡ true) × ((is_name x.1.1.0 ≡ true) × (is_name x.1.1.1 ≡ true)))
