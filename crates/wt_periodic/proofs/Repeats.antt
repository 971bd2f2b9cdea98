-- A wrapping rectangle, repeated to any size, is valid and has its sides as periods.
use Rattle.std.proofs.Common.{arith, ◌≡◌, ℕ, suc, ◌+◌, ◌%◌, ◌<◌, ◌≤◌, List, sym, ap, ◌∙◌}
use Rattle.wt_tile.specs.Matching.{matches}
use Rattle.wt_grid.specs.declared.axis.Axis.TheVariants.{One, Two}
use Rattle.std.proofs.Math.Nat.{mod-lt, add-mod_right}
use Rattle.wt_tile.specs.declared.tile.Tile.{Tile}
use Rattle.wt_grid.specs.Grid.{Grid, cell, IsGrid}
use Rattle.wt_grid.specs.Parts.{IsValid}
use Rattle.wt_grid.specs.Shifts.{IsRepeated}
use Rattle.wt_grid.proofs.Bridge.{cell_of}
use Rattle.wt_grid.proofs.Parts.{grid_grid}
use Rattle.wt_pattern.specs.Patterns.{AllTiles}
use Rattle.wt_pattern.proofs.PeriodLaws.{repeated_forward}
use Rattle.wt_periodic.specs.Wraps.{IsWrap, IsWrapOf}
use Rattle.wt_periodic.specs.Repeats.{repeated_cell, repeated, IsPeriodic}
use Rattle.wt_periodic.proofs.Following.{next_mod}

pub at_repeated : (g : Grid) (w h x y : ℕ) → x < w → y < h → cell (repeated g w h) x y ≡ cell g (x % g.width) (y % g.height)
at_repeated g w h x y lx ly = cell_of w h x y (repeated_cell g) lx ly

tiles_repeated : (ts : List Tile) (g : Grid) (w h : ℕ) → IsGrid g → AllTiles ts g → AllTiles ts (repeated g w h)
tiles_repeated ts g w h grid b x y lx ly = rw (at_repeated g w h x y lx ly) (b (x % g.width) (y % g.height) (mod-lt x grid.wide) (mod-lt y grid.high))

valid_repeated : (ts : List Tile) (g : Grid) (w h : ℕ) → IsGrid g → IsWrap ts g → IsValid (matches ts) (repeated g w h)
valid_repeated ts g w h grid wrap One x y lx ly =
    let m = wrap.right (x % g.width) (y % g.height) (mod-lt x grid.wide) (mod-lt y grid.high) in
    let a = at_repeated g w h x y (omega arith) ly in
    let b = at_repeated g w h (suc x) y lx ly ∙ ap (λ (k : ℕ). cell g k (y % g.height)) (next_mod g.width x grid.wide) in
    rw (a, b) m
valid_repeated ts g w h grid wrap Two y x ly lx =
    let m = wrap.above (x % g.width) (y % g.height) (mod-lt x grid.wide) (mod-lt y grid.high) in
    let a = at_repeated g w h x y lx (omega arith) in
    let b = at_repeated g w h x (suc y) lx ly ∙ ap (λ (k : ℕ). cell g (x % g.width) k) (next_mod g.height y grid.high) in
    rw (a, b) m

right_period : (g : Grid) (w h : ℕ) → IsRepeated One g.width 0 0 (repeated g w h)
right_period g w h i j li la lb =
    at_repeated g w h i (j + 0) (omega arith) la
    ∙ ap (λ (k : ℕ). cell g k ((j + 0) % g.height)) (sym (add-mod_right i g.width))
    ∙ sym (at_repeated g w h (i + g.width) (j + 0) li la)

up_period : (g : Grid) (w h : ℕ) → IsRepeated One 0 0 g.height (repeated g w h)
up_period g w h i j li la lb =
    let e : j + 0 ≡ j = omega arith in
    let z : i + 0 ≡ i = omega arith in
    let lj : j < h = omega arith in
    let lx : i < w = omega arith in
    rw (e, z) (at_repeated g w h i j lx lj
    ∙ ap (λ (k : ℕ). cell g (i % g.width) k) (sym (add-mod_right j g.height))
    ∙ sym (at_repeated g w h i (j + g.height) lx lb))

pub is_periodic : (ts : List Tile) (w h : ℕ) (g : Grid) → IsWrapOf ts w h g → (m n : ℕ) → 1 ≤ m → 1 ≤ n → IsPeriodic ts g (repeated g m n)
is_periodic ts w h g p m n lm ln = record {
  pattern = (grid_grid m n (repeated_cell g) lm ln, tiles_repeated ts g m n p.grid p.tiles, valid_repeated ts g m n p.grid p.wrap);
  right = repeated_forward One (repeated g m n) g.width 0 (right_period g m n);
  up = repeated_forward One (repeated g m n) 0 g.height (up_period g m n);
}
