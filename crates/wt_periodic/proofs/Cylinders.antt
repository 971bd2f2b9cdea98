-- A wrapping rectangle, turned to its least tile and repeated across its lines, is a cylinder; so a length without a cylinder is dead.
use Rattle.std.proofs.Common.{arith, ◌≡◌, ℕ, zero, suc, ◌+◌, ◌-◌, ◌*◌, ◌/◌, ◌%◌, ◌<◌, ◌≤◌, true, List, length, get_or, inl, inr, refl, sym, ap, ◌∙◌, subst, Bool, false, replicate}
use Rattle.wt_grid.specs.Axes.{other}
use Rattle.wt_grid.specs.declared.axis.Axis.TheVariants.{One, Two}
use Rattle.wt_grid.specs.declared.axis.Axis.{Axis}
use Rattle.std.proofs.lemmas.Bool.{cases_eq}
use Rattle.std.proofs.lemmas.List.{get_or-set_other}
use Rattle.std.proofs.lemmas.Nat.{div-mul-add, mod-mul-add, mul-add-lt, div-add-mod'}
use Rattle.std.proofs.Math.Nat.{mod-lt, mod-eq_of_lt}
use Rattle.wt_tile.specs.declared.tile.Tile.{Tile}
use Rattle.wt_grid.specs.Grid.{Grid, cell, listed}
use Rattle.wt_grid.proofs.Bridge.{length-listed, get_or-listed}
use Rattle.wt_periodic.specs.Wraps.{IsWrapOf}
use Rattle.wt_periodic.specs.Cylinders.{IsPair, IsCylinder, IsDead, AreDead}
use Rattle.wt_periodic.specs.declared.pairs.TheConstants.{RADIUS}
use Rattle.wt_periodic.proofs.Paired.{pair_right, pair_above}
use Rattle.std.proofs.Math.ListN.{set}
use Rattle.wt_periodic.proofs.Following.{following_on, following_last, next_mod}
use Rattle.wt_periodic.proofs.WrapGrids.{grid_with, from_closed}
use Rattle.wt_periodic.proofs.Turned.{lowest}

-- lines f 0 y, f 1 y, .. that match so and close
pub record Lines (ts : List Tile) (axis : Axis) (w : ℕ) (f : ℕ → ℕ → ℕ) : Type 0 where
  pub tiles : (x y : ℕ) → x < w → f x y < length ts
  pub along : (x y : ℕ) → suc x < w → IsPair ts axis (f x y) (f (suc x) y)
  pub close : (x y : ℕ) → x + 1 ≡ w → IsPair ts axis (f x y) (f 0 y)
  pub across : (x y : ℕ) → x < w → IsPair ts (other axis) (f x y) (f x (suc y))
  pub low : (x y : ℕ) → x < w → f 0 0 ≤ f x y

module _ (ts : List Tile) (axis : Axis) (w n : ℕ) (f : ℕ → ℕ → ℕ) (wide : 1 ≤ w) (p : Lines ts axis w f) where
  abbrev cells : List ℕ
  cells = listed n (λ k. f (k % w) (k / w))

  at_place : (k : ℕ) → k < n → get_or cells k 0 ≡ f (k % w) (k / w)
  at_place k lk = get_or-listed n k (λ k. f (k % w) (k / w)) 0 lk

  at_cell : (k x y : ℕ) → k < n → x < w → y * w + x ≡ k → get_or cells k 0 ≡ f x y
  at_cell k x y lk lx e =
      let m : k % w ≡ x = ap (λ (i : ℕ). i % w) (sym e) ∙ mod-mul-add y w x lx in
      let d : k / w ≡ y = ap (λ (i : ℕ). i / w) (sym e) ∙ div-mul-add y w x lx in
      at_place k lk ∙ ap (λ (i : ℕ). f i (k / w)) m ∙ ap (f x) d

  is_along : (k x : ℕ) → k < n → suc x ≡ k % w → IsPair ts axis (get_or cells (k - 1) 0) (get_or cells k 0)
  is_along k x lk e =
      let at : k / w * w + k % w ≡ k = div-add-mod' k w in
      let lx : suc x < w = omega (arith, mod-lt k wide, e) in
      let here : k / w * w + suc x ≡ k = omega (arith, at, e) in
      let there : k / w * w + x ≡ k - 1 = omega (arith, here) in
      rw (at_cell k (suc x) (k / w) lk lx here, at_cell (k - 1) x (k / w) (omega arith) (omega arith) there) (p.along x (k / w) lx)

  is_across : (k y : ℕ) → k < n → suc y ≡ k / w → IsPair ts (other axis) (get_or cells (k - w) 0) (get_or cells k 0)
  is_across k y lk e =
      let at : k / w * w + k % w ≡ k = div-add-mod' k w in
      let lx : k % w < w = mod-lt k wide in
      let here : suc y * w + k % w ≡ k = ap (λ (i : ℕ). i * w + k % w) e ∙ at in
      let there : y * w + k % w ≡ k - w = omega (arith, here) in
      rw (at_cell k (k % w) (suc y) lk lx here, at_cell (k - w) (k % w) y (omega arith) lx there) (p.across (k % w) y lx)

  pub is_cylinder : 1 ≤ n → IsCylinder ts axis w n cells
  is_cylinder some = record {
    size = length-listed n (λ k. f (k % w) (k / w));
    tiles = λ k lk. rw (at_place k lk) (p.tiles (k % w) (k / w) (mod-lt k wide));
    along = λ k lk off. let x : ℕ = k % w - 1 in is_along k (k % w - 1) lk (omega (arith, off));
    close = λ k lk e.
        let at : k / w * w + k % w ≡ k = div-add-mod' k w in
        let first : k / w * w + 0 ≡ k + 1 - w = omega (arith, at, e) in
        rw (at_place k lk, at_cell (k + 1 - w) 0 (k / w) (omega arith) (omega arith) first) (p.close (k % w) (k / w) e);
    across = λ k lk le.
        let at : k / w * w + k % w ≡ k = div-add-mod' k w in
        let low : k % w < w = mod-lt k wide in
        let some_line = not_first (k / w) (k % w) k at low le in
        is_across k (k / w - 1) lk (omega (arith, some_line));
    low = λ k lk.
        let zeroth : 0 * w + 0 ≡ 0 = omega arith in
        rw (at_cell 0 0 0 (omega arith) (omega arith) zeroth, at_place k lk) (p.low (k % w) (k / w) (mod-lt k wide));
  }
    where
      not_first : (y x k : ℕ) → y * w + x ≡ k → x < w → w ≤ k → 1 ≤ y
      not_first zero x k e lx le = absurd (omega (arith, e, lx, le))
      not_first (suc y) x k e lx le = omega arith

-- ---- the lines of a wrapping rectangle that begins with its least tile

-- the first cell is the least of all
first_low : (g : Grid) → 1 ≤ g.width → 1 ≤ g.height → ((k : ℕ) → k < g.width * g.height → get_or g.cells 0 0 ≤ get_or g.cells k 0) → (x y : ℕ) → x < g.width → y < g.height → (z : ℕ) → z ≡ 0 → cell g z z ≤ cell g x y
first_low g wide high low x y lx ly z e =
    let corner : z * g.width + z ≡ 0 = ap (λ (k : ℕ). k * g.width + k) e ∙ (let h : 0 * g.width + 0 ≡ 0 = omega arith in h) in
    rw corner (low (y * g.width + x) (mul-add-lt y g.width x g.height ly lx))

-- a round of some cells begins with cell 0
zero_mod : (n : ℕ) → 1 ≤ n → 0 % n ≡ 0
zero_mod n le = mod-eq_of_lt le

rows_of : (ts : List Tile) (g : Grid) → IsWrapOf ts g.width g.height g → ((k : ℕ) → k < g.width * g.height → get_or g.cells 0 0 ≤ get_or g.cells k 0) → Lines ts One g.width (λ x y. cell g x (y % g.height))
rows_of ts g p low = record {
  tiles = λ x y lx. p.tiles x (y % g.height) lx (mod-lt y p.grid.high);
  along = λ x y lx. let m = pair_right ts g.width g.height g RADIUS p x (y % g.height) (omega arith) (mod-lt y p.grid.high) in rw (following_on g.width x (omega arith)) at m;
  close = λ x y e. let m = pair_right ts g.width g.height g RADIUS p x (y % g.height) (omega arith) (mod-lt y p.grid.high) in rw (following_last g.width x (omega arith)) at m;
  across = λ x y lx. let m = pair_above ts g.width g.height g RADIUS p x (y % g.height) lx (mod-lt y p.grid.high) in rw (next_mod g.height y p.grid.high) m;
  low = λ x y lx. let h = first_low g p.grid.wide p.grid.high low x (y % g.height) lx (mod-lt y p.grid.high) 0 refl in rw (zero_mod g.height p.grid.high) h;
}

columns_of : (ts : List Tile) (g : Grid) → IsWrapOf ts g.width g.height g → ((k : ℕ) → k < g.width * g.height → get_or g.cells 0 0 ≤ get_or g.cells k 0) → Lines ts Two g.height (λ x y. cell g (y % g.width) x)
columns_of ts g p low = record {
  tiles = λ x y lx. p.tiles (y % g.width) x (mod-lt y p.grid.wide) lx;
  along = λ x y lx. let m = pair_above ts g.width g.height g RADIUS p (y % g.width) x (mod-lt y p.grid.wide) (omega arith) in rw (following_on g.height x (omega arith)) at m;
  close = λ x y e. let m = pair_above ts g.width g.height g RADIUS p (y % g.width) x (mod-lt y p.grid.wide) (omega arith) in rw (following_last g.height x (omega arith)) at m;
  across = λ x y lx. let m = pair_right ts g.width g.height g RADIUS p (y % g.width) x (mod-lt y p.grid.wide) lx in rw (next_mod g.width y p.grid.wide) m;
  low = λ x y lx. let h = first_low g p.grid.wide p.grid.high low (y % g.width) x (mod-lt y p.grid.wide) lx 0 refl in rw (zero_mod g.width p.grid.wide) h;
}

-- ---- dead lengths

-- no cylinder of n cells has lines of this length
abbrev pub HasNoCylinder : List Tile → Axis → ℕ → ℕ → Type 0
HasNoCylinder ts axis w n = (g : List ℕ) → IsCylinder ts axis w n g → ⊥

pub dead : (ts : List Tile) (axis : Axis) (w n : ℕ) → 1 ≤ w → 1 ≤ n → HasNoCylinder ts axis w n → IsDead ts axis w
dead ts One w n wide some none = λ h g p.
    let s = lowest ts w h g p in
    let high : 1 ≤ h = rw p.high at p.grid.high in
    let q : IsWrapOf ts w h (grid_with w h s.cells) = from_closed ts w h s.cells wide high s.sought.closed in
    none (cells ts One w n (λ x y. cell (grid_with w h s.cells) x (y % h)) wide (rows_of ts (grid_with w h s.cells) q s.sought.low))
    (is_cylinder ts One w n (λ x y. cell (grid_with w h s.cells) x (y % h)) wide (rows_of ts (grid_with w h s.cells) q s.sought.low) some)
dead ts Two h n high some none = λ w g p.
    let s = lowest ts w h g p in
    let wide : 1 ≤ w = rw p.wide at p.grid.wide in
    let q : IsWrapOf ts w h (grid_with w h s.cells) = from_closed ts w h s.cells wide high s.sought.closed in
    none (cells ts Two h n (λ x y. cell (grid_with w h s.cells) (y % w) x) high (columns_of ts (grid_with w h s.cells) q s.sought.low))
    (is_cylinder ts Two h n (λ x y. cell (grid_with w h s.cells) (y % w) x) high (columns_of ts (grid_with w h s.cells) q s.sought.low) some)

-- one mark more
pub mark_more : (ts : List Tile) (axis : Axis) (marks : List Bool) (n : ℕ) → AreDead ts axis marks → IsDead ts axis n → AreDead ts axis (set marks n true)
mark_more ts axis marks n all here m e = elim (cases_eq m n) [
  | inl same ↦ subst (λ (k : ℕ). IsDead ts axis k) (sym same) here
  | inr apart ↦ all m (sym (get_or-set_other marks n m true false apart) ∙ e)
]

pub none_marked : (k n : ℕ) → get_or (replicate {A = Bool} k false) n false ≡ false
none_marked zero n = refl
none_marked (suc k) zero = refl
none_marked (suc k) (suc n) = none_marked k n

pub no_marks : (ts : List Tile) (axis : Axis) (k : ℕ) → AreDead ts axis (replicate {A = Bool} k false)
no_marks ts axis k n e = absurd (let h : false ≡ true = sym (none_marked k n) ∙ e in cc)

-- the marks of an axis, however the tiles and the axis are called
pub dead_as : (ts ts' : List Tile) (axis axis' : Axis) (marks : List Bool) → ts ≡ ts' → axis ≡ axis' → AreDead ts axis marks → AreDead ts' axis' marks
dead_as ts ts' axis axis' marks e f all = subst (λ (l : List Tile). AreDead l axis' marks) e (subst (λ (a : Axis). AreDead ts a marks) f all)
