-- What `tiles N n` answers.
use Rattle.std.specs.Prelude.{◌≡◌, ℕ, List, ◌++◌, length, codes, Option, None, Some}
use Rattle.wt_grid.specs.declared.axis.Axis.{Axis}
use Rattle.std.specs.Fmt.{decimal}
use Rattle.wt_tile.specs.declared.tile.TileList.{TileList}
use Rattle.wt_tile.specs.declared.tile.SetFault.{SetFault}
use Rattle.wt_tile.specs.declared.tile.SetFault.TheVariants.{Empty, TooMany, NoColour, Names, Repeated}
use Rattle.wt_tile.specs.Sets.{set_fault}
use Rattle.wt_session.specs.declared.value.Value.TheVariants.{Set}
use Rattle.wt_session.specs.Replies.{Reply, binds, refused}
use Rattle.wt_session.specs.Texts.{repeated_text}

-- the numbers of tiles, and of colours of axis 1 and of axis 2
abbrev pub tiles_text : TileList → List ℕ
tiles_text set = codes "tiles " ++ (decimal (length set.tiles) ++ (codes " colours " ++ (decimal (length set.names1) ++ (codes " " ++ (decimal (length set.names2) ++ codes "\n")))))

-- A list that was read has its colours numbered, with names of their own, and at most 256 tiles, so no other fault comes.
abbrev pub IsTilesReplyBy : Option SetFault → List ℕ → TileList → Reply → Type 0
IsTilesReplyBy None n list reply = reply ≡ binds n (Set list) (tiles_text list)
IsTilesReplyBy (Some Empty) n list reply = reply ≡ refused (codes "refused set empty\n")
IsTilesReplyBy (Some (Repeated i j)) n list reply = reply ≡ refused (repeated_text i j)
IsTilesReplyBy (Some TooMany) n list reply = ⊥
IsTilesReplyBy (Some (NoColour t)) n list reply = ⊥
IsTilesReplyBy (Some (Names axis)) n list reply = ⊥

-- the reply of `tiles`: the set, bound to the name n. Refused where it is empty, then at its first tile that comes twice.
abbrev pub IsTilesReply : List ℕ → TileList → Reply → Type 0
IsTilesReply n list reply = IsTilesReplyBy (set_fault list) n list reply
