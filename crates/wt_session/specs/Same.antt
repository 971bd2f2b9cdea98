-- same S T: the least renaming of the tiles of S to those of T, or that there is none.
use Rattle.std.specs.Prelude.{ℕ, List, codes, Option, None, Some, Result, Ok, Err}
use Rattle.wt_tile.specs.declared.tile.TileList.{TileList}
use Rattle.wt_bijection.specs.Least.{least_renaming}
use Rattle.wt_session.specs.Names.{Names}
use Rattle.wt_session.specs.Replies.{Reply, says, set_named}
use Rattle.wt_session.specs.Rows.{numbers_text}

-- the partner of each tile, in order
abbrev pub renaming_text : List ℕ → List ℕ
renaming_text renaming = numbers_text (codes "renaming") renaming

-- the renaming, or that there is none
abbrev pub same_text : Option (List ℕ) → List ℕ
same_text None = codes "none\n"
same_text (Some renaming) = renaming_text renaming

-- the reply for two sets, of which the second was looked up
abbrev pub same_onto : TileList → Result TileList Reply → Reply
same_onto from (Err stopped) = stopped
same_onto from (Ok to) = says (same_text (least_renaming from.tiles to.tiles))

-- the first set is looked at before the second
abbrev pub same_from : Names → List ℕ → Result TileList Reply → Reply
same_from names t (Err stopped) = stopped
same_from names t (Ok from) = same_onto from (set_named names t)

-- the reply to `same S T`
abbrev pub same_reply : Names → List ℕ → List ℕ → Reply
same_reply names s t = same_from names t (set_named names s)
