-- Patterns with a period, followed up through steps and turns of a loop.
use Rattle.std.proofs.Common.{arith, ◌≡◌, ◌≤◌, ◌+◌, ℕ, zero, suc, List, [], ◌∷◌, None, Bool, refl, sym, ◌∙◌, ap, subst}
use Rattle.wt_grid.specs.Axes.{same_axis}
use Rattle.wt_grid.specs.declared.image.Image.TheVariants.{One as Single, Two as Double}
use Rattle.wt_grid.specs.declared.image.Image.{Image}
use Rattle.wt_grid.specs.declared.axis.Axis.TheVariants.{One, Two}
use Rattle.wt_grid.specs.declared.axis.Axis.{Axis}
use Rattle.std.proofs.Math.ListN.{get_or-map}
use Rattle.wt_tile.specs.declared.tile.Tile.{Tile}
use Rattle.wt_tile.specs.declared.tile.TileList.{TileList}
use Rattle.wt_bijection.specs.Carried.{IsRenaming}
use Rattle.wt_pattern.specs.Patterns.{IsPattern}
use Rattle.wt_grid.specs.Grid.{Grid}
use Rattle.wt_grid.specs.Shifts.{HasVector}
use Rattle.wt_grid.specs.Widths.{Stage}
use Rattle.wt_grid.specs.Images.{first_tile}
use Rattle.wt_grid.specs.Traces.{piece_tiles, IsStageOf, IsTraced}
use Rattle.wt_grid.proofs.Bridge.{length-listed}
use Rattle.wt_step.specs.declared.raw.RawLink.{RawLink}
use Rattle.wt_step.specs.declared.raw.RawLink.TheVariants.{Marker, Restrict}
use Rattle.wt_step.specs.Links.{link_fault, fine_of, coarse_of}
use Rattle.wt_step.specs.Words.{image_at}
use Rattle.wt_morphism.specs.Images.{piece}
use Rattle.wt_step.specs.Meaning.{pieces_of}
use Rattle.wt_chain.specs.Sets.{last_set, AreLinked}
use Rattle.wt_chain.specs.Growth.{stage, renaming_stage, stages, turn, turn_stages, is_along}
use Rattle.wt_scale.specs.Scales.{side_below}
use Rattle.wt_scale.specs.Sizes.{size_from, turns_size}
use Rattle.wt_scale.proofs.Lowering.{lowered}
use Rattle.wt_scale.proofs.Renamed.{renamed, renamed_width, renamed_height, renamed_pattern, renamed_repeats, renamed_traced}

-- A valid pattern of this size with a period no longer than d and e, which isn't gone where they aren't 0; its runs of cells of the period's length stand for d and e cells behind these stages.
pub record Standing (ts : List Tile) (side : ℕ) (opposed : Bool) (rows columns : List Stage) (d e : ℕ) : Type 0 where
  pub grid : Grid
  pub pattern : IsPattern ts grid
  pub wide : side ≤ grid.width
  pub high : side ≤ grid.height
  pub right : ℕ
  pub up : ℕ
  pub vector : HasVector One opposed right up grid
  pub right_most : right ≤ d
  pub up_most : up ≤ e
  pub right_some : 1 ≤ d → 1 ≤ right
  pub up_some : 1 ≤ e → 1 ≤ up
  pub right_runs : IsTraced One rows d grid right
  pub up_runs : IsTraced Two columns e grid up

-- ---- the stages of a step are those of its pieces

tiles_same : (x : Image) → piece_tiles x ≡ piece_tiles (piece x)
tiles_same (Single a) = refl
tiles_same (Double a b) = refl

first_same : (x : Image) → first_tile x ≡ first_tile (piece x)
first_same (Single a) = refl
first_same (Double a b) = refl

axis_same : (x y : Axis) → same_axis x y ≡ same_axis x y
axis_same One One = refl
axis_same One Two = refl
axis_same Two One = refl
axis_same Two Two = refl

stage_of : (axis : Axis) (l : RawLink) → IsStageOf (is_along axis l) (pieces_of l) (stage axis l)
stage_of axis (Marker s) = record {
  axis = axis_same axis s.axis;
  pieces = λ t. tiles_same (image_at s t) ∙ ap piece_tiles (sym (get_or-map piece s.images t (Single 0)));
  first = λ t. first_same (image_at s t) ∙ ap first_tile (sym (get_or-map piece s.images t (Single 0)));
}
stage_of axis (Restrict s) = record {
  axis = refl;
  pieces = λ t. ap piece_tiles (sym (get_or-map Single s.kept t 0));
  first = λ t. ap first_tile (sym (get_or-map Single s.kept t 0));
}

-- ---- up a step, up several, over a renaming, round a loop

pub larger_below : (l : RawLink) (side : ℕ) → side ≤ side_below l side
larger_below (Marker s) side = omega arith
larger_below (Restrict s) side = omega arith

pub larger_from : (ls : List RawLink) (side : ℕ) → side ≤ size_from ls side
larger_from [] side = omega arith
larger_from (l ∷ ls) side = let a = larger_below l (size_from ls side) in let b = larger_from ls side in omega arith

pub larger_turns : (loop : List RawLink) (n side : ℕ) → side ≤ turns_size loop n side
larger_turns loop zero side = omega arith
larger_turns loop (suc n) side = let a = larger_from loop side in let b = larger_turns loop n (size_from loop side) in omega arith

still_some : (d r r' : ℕ) → (1 ≤ d → 1 ≤ r) → r ≤ r' + r' → 1 ≤ d → 1 ≤ r'
still_some d r r' h le some = let s = h some in omega arith

pub step_up : (l : RawLink) (side : ℕ) (opposed : Bool) (rows columns : List Stage) (d e : ℕ) → link_fault l ≡ None → d + 2 ≤ side → e + 2 ≤ side
    → Standing (fine_of l).tiles (side_below l side) opposed rows columns d e → Standing (coarse_of l).tiles side opposed (stage One l ∷ rows) (stage Two l ∷ columns) d e
step_up l side opposed rows columns d e good ld le s =
    let a = s.right_most in let b = s.up_most in
    let k = lowered l good s.grid side opposed s.right s.up s.pattern s.wide s.high (omega arith) (omega arith) s.vector in
    let c = k.right_shorter in let f = k.up_shorter in
    record {
      grid = k.coarse;
      pattern = k.pattern;
      wide = k.wide;
      high = k.high;
      right = k.right;
      up = k.up;
      vector = k.vector;
      right_most = omega arith;
      up_most = omega arith;
      right_some = still_some d s.right k.right s.right_some k.right_half;
      up_some = still_some e s.up k.up s.up_some k.up_half;
      right_runs = k.right_runs (stage One l) rows d (stage_of One l) s.right_runs;
      up_runs = k.up_runs (stage Two l) columns e (stage_of Two l) s.up_runs;
    }

pub steps_up : (ls : List RawLink) (set : TileList) (side : ℕ) (opposed : Bool) (rows columns : List Stage) (d e : ℕ) → AreLinked set ls → d + 2 ≤ side → e + 2 ≤ side
    → Standing set.tiles (size_from ls side) opposed rows columns d e → Standing (last_set set ls).tiles side opposed (stages One ls rows) (stages Two ls columns) d e
steps_up [] set side opposed rows columns d e linked ld le s = s
steps_up (l ∷ ls) set side opposed rows columns d e linked ld le s =
    let n = larger_from ls side in
    let t : Standing (fine_of l).tiles (side_below l (size_from ls side)) opposed rows columns d e = subst (λ (x : TileList). Standing x.tiles (side_below l (size_from ls side)) opposed rows columns d e) (sym linked.1) s in
    steps_up ls (coarse_of l) side opposed (stage One l ∷ rows) (stage Two l ∷ columns) d e linked.2 ld le (step_up l (size_from ls side) opposed rows columns d e linked.0 (omega arith) (omega arith) t)

rename_up : (from to : List Tile) (list : List ℕ) → IsRenaming from to list → (side : ℕ) (opposed : Bool) (rows columns : List Stage) (d e : ℕ)
    → Standing from side opposed rows columns d e → Standing to side opposed (renaming_stage list ∷ rows) (renaming_stage list ∷ columns) d e
rename_up from to list ren side opposed rows columns d e s =
    let w = renamed_width from to list ren s.grid s.pattern in
    let h = renamed_height from to list ren s.grid s.pattern in
    let x = s.wide in let y = s.high in
    record {
      grid = renamed from to list ren s.grid s.pattern;
      pattern = renamed_pattern from to list ren s.grid s.pattern;
      wide = omega arith;
      high = omega arith;
      right = s.right;
      up = s.up;
      vector = renamed_repeats from to list ren s.grid s.pattern One s.right _ _ s.vector;
      right_most = s.right_most;
      up_most = s.up_most;
      right_some = s.right_some;
      up_some = s.up_some;
      right_runs = renamed_traced from to list ren s.grid s.pattern One rows d s.right s.right_runs;
      up_runs = renamed_traced from to list ren s.grid s.pattern Two columns e s.up s.up_runs;
    }

module _ (l : RawLink) (ls : List RawLink) (list : List ℕ) (linked : AreLinked (fine_of l) (l ∷ ls)) (ren : IsRenaming (last_set (coarse_of l) ls).tiles (fine_of l).tiles list) where
  turn_up : (side : ℕ) (opposed : Bool) (rows columns : List Stage) (d e : ℕ) → d + 2 ≤ side → e + 2 ≤ side
      → Standing (fine_of l).tiles (size_from (l ∷ ls) side) opposed rows columns d e → Standing (fine_of l).tiles side opposed (turn One (l ∷ ls) list rows) (turn Two (l ∷ ls) list columns) d e
  turn_up side opposed rows columns d e ld le s =
      rename_up (last_set (coarse_of l) ls).tiles (fine_of l).tiles list ren side opposed (stages One (l ∷ ls) rows) (stages Two (l ∷ ls) columns) d e
      (steps_up (l ∷ ls) (fine_of l) side opposed rows columns d e linked ld le s)

  pub turns_up : (n side : ℕ) (opposed : Bool) (d e : ℕ) → d + 2 ≤ side → e + 2 ≤ side
      → Standing (fine_of l).tiles (turns_size (l ∷ ls) n side) opposed [] [] d e → Standing (fine_of l).tiles side opposed (turn_stages One (l ∷ ls) list n) (turn_stages Two (l ∷ ls) list n) d e
  turns_up zero side opposed d e ld le s = s
  turns_up (suc n) side opposed d e ld le s =
      let x = larger_from (l ∷ ls) side in
      turn_up side opposed (turn_stages One (l ∷ ls) list n) (turn_stages Two (l ∷ ls) list n) d e ld le (turns_up n (size_from (l ∷ ls) side) opposed d e (omega arith) (omega arith) s)

-- the same pattern, from here on
pub anew : (ts : List Tile) (side : ℕ) (opposed : Bool) (rows columns : List Stage) (d e : ℕ) → (s : Standing ts side opposed rows columns d e) → Standing ts side opposed [] [] s.right s.up
anew ts side opposed rows columns d e s = record {
  grid = s.grid;
  pattern = s.pattern;
  wide = s.wide;
  high = s.high;
  right = s.right;
  up = s.up;
  vector = s.vector;
  right_most = omega arith;
  up_most = omega arith;
  right_some = λ h. h;
  up_some = λ h. h;
  right_runs = λ i j le lt. length-listed s.right _;
  up_runs = λ i j le lt. length-listed s.up _;
}
