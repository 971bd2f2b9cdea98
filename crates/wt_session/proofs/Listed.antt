-- A list that was read has no fault but that it is empty or repeats a tile.
use Rattle.std.proofs.Common.{◌≡◌, Option, None, Some, subst}
use Rattle.wt_tile.specs.declared.tile.TileList.{TileList}
use Rattle.wt_tile.specs.declared.tile.SetFault.{SetFault}
use Rattle.wt_tile.specs.declared.tile.SetFault.TheVariants.{Empty, TooMany, NoColour, Names, Repeated}
use Rattle.wt_tile.specs.Sets.{set_fault}
use Rattle.wt_pattern.specs.Plain.{IsPlain}
use Rattle.wt_session.specs.Tiles.{IsTilesReply, IsTilesReplyBy}
use Rattle.wt_session.specs.Replies.{Reply}

pub plain_fault : (list : TileList) (fault : SetFault) → IsPlain (set_fault list) → set_fault list ≡ Some fault → IsPlain (Some fault)
plain_fault list fault p e = subst IsPlain e p
