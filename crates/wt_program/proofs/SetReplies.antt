-- What is replied to a list of tiles that was read.
use Rattle.std.proofs.Common.{◌≡◌, ℕ, List, sym, subst}
use Rattle.std.specs.Prelude.{Option, None, Some, Result, Ok, Err, IfOk}
use Rattle.wt_grid.specs.Grid.{Grid}
use Rattle.wt_tile.specs.declared.tile.Tile.{Tile}
use Rattle.wt_tile.specs.declared.tile.TileList.{TileList}
use Rattle.wt_tile.specs.declared.tile.SetFault.{SetFault}
use Rattle.wt_tile.specs.Sets.{set_fault}
use Rattle.wt_periodic.specs.declared.least.WrapEnd.{WrapEnd}
use Rattle.wt_periodic.specs.Least.{MayAnswerWrap}
use Rattle.wt_program.specs.declared.reply.Reply.{Reply}
use Rattle.wt_pattern.specs.Plain.{IsPlain}
use Rattle.wt_program.specs.SetTexts.{IsSetRefusal, IsListReply}
use Rattle.wt_program.specs.Periodics.{IsToldWrap, IsWrapReply}

pub plain_fault : (list : TileList) (fault : SetFault) → IsPlain (set_fault list) → set_fault list ≡ Some fault → IsPlain (Some fault)
plain_fault list fault p e = subst IsPlain e p

-- a list that is a set
pub answered_list : {E : Type 0} (answers : List Tile → Reply → Type 0) (list : TileList) (ts : List Tile) (r : Result Reply E) → set_fault list ≡ None → ts ≡ list.tiles → IfOk r (answers ts) → IfOk r (IsListReply answers list (set_fault list))
answered_list answers list ts (Ok reply) e same is = subst (λ (f : Option SetFault). IsListReply answers list f reply) (sym e) (subst (λ (l : List Tile). answers l reply) same is)
answered_list answers list ts (Err w) e same is = tt

-- a list that is none
pub refused_list : {E : Type 0} (answers : List Tile → Reply → Type 0) (list : TileList) (fault : SetFault) (r : Result Reply E) → set_fault list ≡ Some fault → IfOk r (IsSetRefusal fault) → IfOk r (IsListReply answers list (set_fault list))
refused_list answers list fault (Ok reply) e is = subst (λ (f : Option SetFault). IsListReply answers list f reply) (sym e) is
refused_list answers list fault (Err w) e is = tt

-- what a search answered is told
pub told_wrap : {E : Type 0} (ts : List Tile) (limit budget : ℕ) (answer : Result (Option Grid) WrapEnd) (r : Result Reply E) → MayAnswerWrap ts limit budget answer → IfOk r (IsToldWrap limit answer) → IfOk r (IsWrapReply limit budget ts)
told_wrap ts limit budget answer (Ok reply) may told = (answer, may, told)
told_wrap ts limit budget answer (Err w) may told = tt
