-- A wrapping rectangle, turned so that its least tile stands in its first cell.
use Rattle.std.proofs.Common.{arith, ◌≡◌, ◌⊎◌, ℕ, zero, suc, ◌+◌, ◌*◌, ◌/◌, ◌%◌, ◌<◌, ◌≤◌, List, [], ◌∷◌, get_or, take, inl, inr, refl, sym, ap, ◌∙◌, subst}
use Rattle.std.proofs.lemmas.Bool.{cases_lt}
use Rattle.std.proofs.lemmas.Nat.{mul-add-lt, div-add-mod'}
use Rattle.std.proofs.Math.Nat.{mod-lt, mod-eq_of_lt, add-mod_left}
use Rattle.wt_tile.specs.declared.tile.Tile.{Tile}
use Rattle.wt_grid.specs.Grid.{Grid, cell, grid_of}
use Rattle.wt_grid.proofs.Bridge.{cell_of, get_or-listed}
use Rattle.wt_grid.proofs.Parts.{grid_grid}
use Rattle.wt_window.proofs.Windows.{row_below}
use Rattle.wt_grid.specs.Order.{IsBefore}
use Rattle.wt_periodic.specs.Wraps.{following, IsWrapOf}
use Rattle.wt_periodic.specs.Fillings.{IsSought}
use Rattle.wt_periodic.proofs.Following.{following_on, following_last, following_inside, next_mod}
use Rattle.wt_periodic.proofs.WrapGrids.{to_closed}

-- the least of some numbers
pub least_at : (n : ℕ) (f : ℕ → ℕ) → 1 ≤ n → (k : ℕ) × (k < n) × ((i : ℕ) → i < n → f k ≤ f i)
least_at zero f le = absurd (omega arith)
least_at (suc zero) f le = (0, omega arith, λ i lt. let z : i ≡ 0 = omega arith in rw z (omega arith))
least_at (suc (suc n)) f le =
    let r = least_at (suc n) f (omega arith) in
    let low : r.0 < suc n = r.1 in
    elim (cases_lt (f (suc n)) (f r.0)) [
      | inl l ↦ (suc n, omega arith, λ i lt. elim (cases_lt i (suc n)) [ inl li ↦ (let h = r.2 i li in omega (arith, h, l)) | inr ge ↦ (let z : i ≡ suc n = omega arith in rw z (omega arith)) ])
      | inr ge ↦ (r.0, omega arith, λ i lt. elim (cases_lt i (suc n)) [ inl li ↦ r.2 i li | inr more ↦ (let z : i ≡ suc n = omega arith in rw z ge) ])
    ]

-- the rectangle that begins at column a of row b, and goes on round the border
abbrev pub turned : Grid → ℕ → ℕ → Grid
turned g a b = grid_of g.width g.height (λ x y. cell g ((x + a) % g.width) ((y + b) % g.height))

at_turned : (g : Grid) (a b x y : ℕ) → x < g.width → y < g.height → cell (turned g a b) x y ≡ cell g ((x + a) % g.width) ((y + b) % g.height)
at_turned g a b x y lx ly = cell_of g.width g.height x y (λ x y. cell g ((x + a) % g.width) ((y + b) % g.height)) lx ly

turned_next : (n x a : ℕ) → x < n → (following n x + a) % n ≡ following n ((x + a) % n)
turned_next n x a lt =
    let some : 1 ≤ n = omega arith in
    elim (cases_lt (x + 1) n) [
      | inl l ↦
          let e : following n x + a ≡ suc (x + a) = omega (arith, following_on n x l) in
          ap (λ (k : ℕ). k % n) e ∙ next_mod n (x + a) some
      | inr ge ↦
          let e : following n x + a ≡ a = omega (arith, following_last n x ge) in
          let all : n + a ≡ suc (x + a) = omega arith in
          ap (λ (k : ℕ). k % n) e ∙ sym (add-mod_left n a) ∙ ap (λ (k : ℕ). k % n) all ∙ next_mod n (x + a) some
    ]

pub turned_wrap : (ts : List Tile) (w h : ℕ) (g : Grid) (a b : ℕ) → IsWrapOf ts w h g → IsWrapOf ts w h (turned g a b)
turned_wrap ts w h g a b p = record {
  grid = grid_grid g.width g.height (λ x y. cell g ((x + a) % g.width) ((y + b) % g.height)) p.grid.wide p.grid.high;
  wide = p.wide;
  high = p.high;
  tiles = λ x y lx ly. rw (at_turned g a b x y lx ly) (p.tiles ((x + a) % g.width) ((y + b) % g.height) (mod-lt (x + a) p.grid.wide) (mod-lt (y + b) p.grid.high));
  wrap = record {
    right = λ x y lx ly.
        let m = p.wrap.right ((x + a) % g.width) ((y + b) % g.height) (mod-lt (x + a) p.grid.wide) (mod-lt (y + b) p.grid.high) in
        let here = at_turned g a b x y lx ly in
        let there = at_turned g a b (following g.width x) y (following_inside g.width x lx) ly ∙ ap (λ (k : ℕ). cell g k ((y + b) % g.height)) (turned_next g.width x a lx) in
        rw (here, there) m;
    above = λ x y lx ly.
        let m = p.wrap.above ((x + a) % g.width) ((y + b) % g.height) (mod-lt (x + a) p.grid.wide) (mod-lt (y + b) p.grid.high) in
        let here = at_turned g a b x y lx ly in
        let there = at_turned g a b x (following g.height y) lx (following_inside g.height y ly) ∙ ap (λ (k : ℕ). cell g ((x + a) % g.width) k) (turned_next g.height y b ly) in
        rw (here, there) m;
  };
}

-- what the search looks for, where a rectangle wraps round: it begins with the least tile
pub record Lowest (ts : List Tile) (w h : ℕ) (g : List ℕ) : Type 0 where
  pub cells : List ℕ
  pub sought : IsSought ts w h cells
  pub least : (k : ℕ) → k < w * h → get_or cells 0 0 ≤ get_or g k 0

-- turned to its cell m, the rectangle begins with that cell
corner : (g : Grid) (m : ℕ) → 1 ≤ g.width → 1 ≤ g.height → m < g.width * g.height → get_or (turned g (m % g.width) (m / g.width)).cells 0 0 ≡ get_or g.cells m 0
corner g m wide high lt =
    let at : m / g.width * g.width + m % g.width ≡ m = div-add-mod' m g.width in
    let lx : m % g.width < g.width = mod-lt m wide in
    let ly : m / g.width < g.height = row_below g.width g.height (m % g.width) (m / g.width) (omega (arith, at, lt)) in
    let zeroth : 0 * g.width + 0 ≡ 0 = omega arith in
    let zx : 0 + m % g.width ≡ m % g.width = omega arith in
    let zy : 0 + m / g.width ≡ m / g.width = omega arith in
    ap (λ (k : ℕ). get_or (turned g (m % g.width) (m / g.width)).cells k 0) (sym zeroth)
    ∙ at_turned g (m % g.width) (m / g.width) 0 0 wide high
    ∙ ap (λ (k : ℕ). cell g (k % g.width) ((0 + m / g.width) % g.height)) zx
    ∙ ap (λ (k : ℕ). cell g k ((0 + m / g.width) % g.height)) (mod-eq_of_lt lx)
    ∙ ap (λ (k : ℕ). cell g (m % g.width) (k % g.height)) zy
    ∙ ap (λ (k : ℕ). cell g (m % g.width) k) (mod-eq_of_lt ly)
    ∙ ap (λ (k : ℕ). get_or g.cells k 0) at

lowest_at : (ts : List Tile) (g : Grid) (m : ℕ) → IsWrapOf ts g.width g.height g → m < g.width * g.height → ((i : ℕ) → i < g.width * g.height → get_or g.cells m 0 ≤ get_or g.cells i 0) → Lowest ts g.width g.height g.cells
lowest_at ts g m p lt low =
    let first = corner g m p.grid.wide p.grid.high lt in
    record {
      cells = (turned g (m % g.width) (m / g.width)).cells;
      sought = record {
        closed = to_closed ts g.width g.height (turned g (m % g.width) (m / g.width)) (turned_wrap ts g.width g.height g (m % g.width) (m / g.width) p);
        low = λ k lk.
            let there = get_or-listed (g.width * g.height) k (λ k. cell g ((k % g.width + m % g.width) % g.width) ((k / g.width + m / g.width) % g.height)) 0 lk in
            let inside = mul-add-lt ((k / g.width + m / g.width) % g.height) g.width ((k % g.width + m % g.width) % g.width) g.height (mod-lt (k / g.width + m / g.width) p.grid.high) (mod-lt (k % g.width + m % g.width) p.grid.wide) in
            let l = low ((k / g.width + m / g.width) % g.height * g.width + (k % g.width + m % g.width) % g.width) inside in
            rw (first, there) l;
      };
      least = λ k lk. rw first (low k lk);
    }

lowest_of : (ts : List Tile) (g : Grid) → IsWrapOf ts g.width g.height g → Lowest ts g.width g.height g.cells
lowest_of ts g p =
    let some = mul-add-lt 0 g.width 0 g.height p.grid.high p.grid.wide in
    let m = least_at (g.width * g.height) (λ k. get_or g.cells k 0) (omega (arith, some)) in
    lowest_at ts g m.0 p m.1 m.2

pub lowest : (ts : List Tile) (w h : ℕ) (g : Grid) → IsWrapOf ts w h g → Lowest ts w h g.cells
lowest ts w h g p =
    let q : IsWrapOf ts g.width g.height g = record { grid = p.grid; wide = refl; high = refl; tiles = p.tiles; wrap = p.wrap } in
    subst (λ (a : ℕ). Lowest ts a h g.cells) p.wide (subst (λ (b : ℕ). Lowest ts g.width b g.cells) p.high (lowest_of ts g q))

first_of : (f s : List ℕ) (k : ℕ) → take k f ≡ take k s → get_or f k 0 < get_or s k 0 → get_or f 0 0 ≤ get_or s 0 0
first_of f s zero e lt = omega (arith, lt)
first_of [] s (suc k) e lt = omega arith
first_of (x ∷ f) [] (suc k) e lt = absurd (cc)
first_of (x ∷ f) (y ∷ s) (suc k) e lt = let h : x ≡ y = cc in omega (arith, h)

less : (f s : List ℕ) (top : ℕ) → (f ≡ s) ⊎ IsBefore f s → get_or s 0 0 < top → get_or f 0 0 < top
less f s top h lt = elim h [
  | inl e ↦ rw e lt
  | inr b ↦ (let l = first_of f s b.0 b.1 b.2 in omega (arith, l, lt))
]

-- What is least among the rectangles that begin with their least tile is least among all.
pub least_of_all : (ts : List Tile) (w h : ℕ) (found : List ℕ) → ((s : List ℕ) → IsSought ts w h s → (found ≡ s) ⊎ IsBefore found s)
    → (g : Grid) → IsWrapOf ts w h g → (found ≡ g.cells) ⊎ IsBefore found g.cells
least_of_all ts w h found best g p =
    let s = lowest ts w h g p in
    let below = s.least in
    elim (cases_lt (get_or s.cells 0 0) (get_or g.cells 0 0)) [
      | inl l ↦ inr (0, refl, less found s.cells (get_or g.cells 0 0) (best s.cells s.sought) l)
      | inr ge ↦ best g.cells (record { closed = to_closed ts w h g p; low = λ k lk. let b = below k lk in omega (arith, b, ge) })
    ]
