-- Closed fillings of all cells are the wrapping rectangles.
use Rattle.std.proofs.Common.{arith, ◌≡◌, ℕ, suc, ◌+◌, ◌-◌, ◌*◌, ◌/◌, ◌%◌, ◌<◌, ◌≤◌, true, List, get_or, inl, inr, refl, ap, ◌∙◌, subst}
use Rattle.wt_grid.specs.declared.axis.Axis.TheVariants.{One, Two}
use Rattle.std.proofs.lemmas.Bool.{cases_lt}
use Rattle.std.proofs.lemmas.Nat.{mul-add-lt, mod-mul-add, div-add-mod'}
use Rattle.std.proofs.Math.Nat.{mod-lt, mul-le-mul_left}
use Rattle.wt_tile.specs.declared.tile.Tile.{Tile}
use Rattle.wt_tile.specs.Matching.{matches}
use Rattle.wt_grid.specs.Grid.{Grid}
use Rattle.wt_window.proofs.Windows.{row_below}
use Rattle.wt_periodic.specs.Wraps.{IsWrapOf}
use Rattle.wt_periodic.specs.Fillings.{IsClosed}
use Rattle.wt_periodic.proofs.Following.{following_on, following_last}

abbrev pub grid_with : ℕ → ℕ → List ℕ → Grid
grid_with w h f = record { width = w; height = h; cells = f }

pub from_closed : (ts : List Tile) (w h : ℕ) (f : List ℕ) → 1 ≤ w → 1 ≤ h → IsClosed ts w h (w * h) f → IsWrapOf ts w h (grid_with w h f)
from_closed ts w h f wide high c = record {
  grid = record { wide = wide; high = high; whole = c.filling.size };
  wide = refl;
  high = refl;
  tiles = λ x y lx ly. c.filling.tiles (y * w + x) (mul-add-lt y w x h ly lx);
  wrap = record {
    right = λ x y lx ly. elim (cases_lt (x + 1) w) [
      | inl l ↦ rw (following_on w x l) (c.filling.right x y (omega arith) (mul-add-lt y w (suc x) h ly (omega arith)))
      | inr ge ↦
          let last : y * w + x < w * h = mul-add-lt y w x h ly lx in
          let place : (y * w + x) % w + 1 ≡ w = omega (arith, mod-mul-add y w x lx, ge, lx) in
          let first : y * w + x + 1 - w ≡ y * w + 0 = omega (arith, ge, lx) in
          let m : matches ts One (get_or f (y * w + x) 0) (get_or f (y * w + x + 1 - w) 0) ≡ true = c.right (y * w + x) last place in
          rw (following_last w x ge) (rw first at m)
    ];
    above = λ x y lx ly. elim (cases_lt (y + 1) h) [
      | inl l ↦ rw (following_on h y l) (c.filling.above x y lx (mul-add-lt (suc y) w x h (omega arith) lx))
      | inr ge ↦
          let last : y * w + x < w * h = mul-add-lt y w x h ly lx in
          let top : h ≡ suc y = omega arith in
          let all : w * h ≡ y * w + w = ap (λ (k : ℕ). w * k) top ∙ (let e : w * suc y ≡ y * w + w = omega arith in e) in
          let first : y * w + x + w - w * h ≡ 0 * w + x = omega (arith, all) in
          let m : matches ts Two (get_or f (y * w + x) 0) (get_or f (y * w + x + w - w * h) 0) ≡ true = c.above (y * w + x) last (omega (arith, all)) in
          rw (following_last h y ge) (rw first at m)
    ];
  };
}

last_row : (w h y x k : ℕ) → y * w + x ≡ k → x < w → w * h ≤ k + w → h ≤ y + 1
last_row w h y x k at lx le = elim (cases_lt (y + 1) h) [
  | inl l ↦ absurd (
      let more : w * (y + 2) ≤ w * h = mul-le-mul_left w (omega arith) in
      let two : w * (y + 2) ≡ y * w + w + w = omega arith in
      omega (arith, at, le, more, two, lx))
  | inr ge ↦ ge
]

closed_of : (ts : List Tile) (g : Grid) → IsWrapOf ts g.width g.height g → IsClosed ts g.width g.height (g.width * g.height) g.cells
closed_of ts g p = record {
  filling = record {
    size = p.grid.whole;
    tiles = λ k lk.
        let at : k / g.width * g.width + k % g.width ≡ k = div-add-mod' k g.width in
        let t = p.tiles (k % g.width) (k / g.width) (mod-lt k p.grid.wide) (row_below g.width g.height (k % g.width) (k / g.width) (omega (arith, at, lk))) in
        rw at at t;
    right = λ x y lx lk.
        let ly : y < g.height = row_below g.width g.height (suc x) y lk in
        let m = p.wrap.right x y (omega arith) ly in
        rw (following_on g.width x (omega arith)) at m;
    above = λ x y lx lk.
        let ly : suc y < g.height = row_below g.width g.height x (suc y) lk in
        let m = p.wrap.above x y lx (omega arith) in
        rw (following_on g.height y (omega arith)) at m;
    first = λ lk. absurd (omega arith);
    second = λ lk. absurd (omega arith);
  };
  right = λ k lk e.
      let at : k / g.width * g.width + k % g.width ≡ k = div-add-mod' k g.width in
      let ly : k / g.width < g.height = row_below g.width g.height (k % g.width) (k / g.width) (omega (arith, at, lk)) in
      let m = p.wrap.right (k % g.width) (k / g.width) (mod-lt k p.grid.wide) ly in
      let first : k / g.width * g.width + 0 ≡ k + 1 - g.width = omega (arith, at, e) in
      rw (following_last g.width (k % g.width) (omega (arith, e)), at, first) at m;
  above = λ k lk le.
      let at : k / g.width * g.width + k % g.width ≡ k = div-add-mod' k g.width in
      let low : k % g.width < g.width = mod-lt k p.grid.wide in
      let ly : k / g.width < g.height = row_below g.width g.height (k % g.width) (k / g.width) (omega (arith, at, lk)) in
      let top : g.height ≤ k / g.width + 1 = last_row g.width g.height (k / g.width) (k % g.width) k at low le in
      let same : g.height ≡ suc (k / g.width) = omega arith in
      let all : g.width * g.height ≡ k / g.width * g.width + g.width = ap (λ (n : ℕ). g.width * n) same ∙ (let e : g.width * suc (k / g.width) ≡ k / g.width * g.width + g.width = omega arith in e) in
      let m = p.wrap.above (k % g.width) (k / g.width) low ly in
      let first : 0 * g.width + k % g.width ≡ k + g.width - g.width * g.height = omega (arith, at, all) in
      rw (following_last g.height (k / g.width) top, at, first) at m;
}

pub to_closed : (ts : List Tile) (w h : ℕ) (g : Grid) → IsWrapOf ts w h g → IsClosed ts w h (w * h) g.cells
to_closed ts w h g p =
    let q : IsWrapOf ts g.width g.height g = record { grid = p.grid; wide = refl; high = refl; tiles = p.tiles; wrap = p.wrap } in
    subst (λ (a : ℕ). IsClosed ts a h (a * h) g.cells) p.wide (subst (λ (b : ℕ). IsClosed ts g.width b (g.width * b) g.cells) p.high (closed_of ts g q))
