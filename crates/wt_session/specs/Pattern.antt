-- What `pattern N S w h` answers.
use Rattle.std.specs.Prelude.{ℕ, List, ◌++◌, length, codes, Option, None, Some, Result, Ok, Err}
use Rattle.std.specs.Fmt.{decimal}
use Rattle.wt_grid.specs.Grid.{Grid}
use Rattle.wt_tile.specs.declared.tile.TileList.{TileList}
use Rattle.wt_pattern.specs.Validity.{first_stranger}
use Rattle.wt_session.specs.declared.value.Value.TheVariants.{Pattern}
use Rattle.wt_session.specs.Names.{Names}
use Rattle.wt_session.specs.Replies.{Reply, binds, refused, set_named}
use Rattle.wt_session.specs.Texts.{stranger_text}

-- the width and height
abbrev pub pattern_text : Grid → List ℕ
pattern_text p = codes "pattern " ++ (decimal p.width ++ (codes " " ++ (decimal p.height ++ codes "\n")))

-- the cells over a set, where they are its tiles
abbrev pub placed : List ℕ → TileList → Grid → Option (ℕ × ℕ) → Reply
placed n set p None = binds n (Pattern (record { pattern = p; over = Some set })) (pattern_text p)
placed n set p (Some at) = refused (stranger_text p at)

-- the set, or why there is none
abbrev pub placed_over : List ℕ → Grid → Result TileList Reply → Reply
placed_over n p (Err reply) = reply
placed_over n p (Ok set) = placed n set p (first_stranger (length set.tiles) p)

-- the name that is bound, the set's name and the cells
abbrev pub pattern_reply : Names → List ℕ → List ℕ → Grid → Reply
pattern_reply names n s p = placed_over n p (set_named names s)
