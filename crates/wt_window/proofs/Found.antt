-- The least window, and pairs that have one.
use Rattle.std.proofs.Common.{arith, ◌≡◌, ◌⊎◌, ◌↔◌, ℕ, suc, ◌+◌, ◌*◌, ◌<◌, ◌≤◌, true, nat_lt, List, [], length, get_or, replicate, refl, sym, ◌∙◌, subst}
use Rattle.wt_grid.specs.Order.{IsBefore}
use Rattle.wt_grid.specs.declared.axis.Axis.TheVariants.{One, Two}
use Rattle.wt_grid.specs.declared.axis.Axis.{Axis}
use Rattle.std.proofs.lemmas.Bool.{lt-ltb}
use Rattle.std.proofs.lemmas.Bool.Decides.{nat_tests}
use Rattle.std.proofs.lemmas.Nat.{mul-add-lt}
use Rattle.std.proofs.lemmas.List.{get_or-replicate}
use Rattle.std.proofs.Math.Nat.{mul-le-mul}
use Rattle.wt_tile.specs.declared.tile.Tile.{Tile}
use Rattle.wt_tile.specs.Matching.{matches}
use Rattle.wt_grid.specs.Grid.{Grid}
use Rattle.wt_lane.specs.Masks.{mask_bit}
use Rattle.wt_pattern.specs.Windows.{window_size, IsEmptyWindow}
use Rattle.wt_window.specs.Trials.{Window, IsFilling, window, cells}
use Rattle.wt_mask.specs.Masks.{bit, mask_at}
use Rattle.wt_window.specs.Frames.{IsBox, IsFrame, IsTiled, Stand}
use Rattle.wt_pattern.specs.Windows.{IsSurroundable}
use Rattle.wt_window.specs.Surrounded.{IsLeastWindow, allowed}
use Rattle.wt_window.proofs.Windows.{whole_windows}

-- ---- frames

few_cells : (x y : ℕ) → x ≤ 10 → y ≤ 9 → x * y ≤ 90
few_cells x y lx ly = let m : x * y ≤ 10 * 9 = mul-le-mul lx ly in m

few_cells' : (x y : ℕ) → x ≤ 9 → y ≤ 10 → x * y ≤ 90
few_cells' x y lx ly = let m : x * y ≤ 9 * 10 = mul-le-mul lx ly in m

pub window_frame : (axis : Axis) (a b r n : ℕ) → r ≤ 4 → a < n → b < n → IsFrame n (window axis a b r)
window_frame One a b r n le la lb = record {
  box = record { wide = omega arith; low_width = omega arith; few = few_cells (r + r + 2) (r + r + 1) (omega arith) (omega arith) };
  first = la;
  second = lb;
  first_in = mul-add-lt r (r + r + 2) r (r + r + 1) (omega arith) (omega arith);
  second_in = mul-add-lt r (r + r + 2) (suc r) (r + r + 1) (omega arith) (omega arith);
}
window_frame Two a b r n le la lb = record {
  box = record { wide = omega arith; low_width = omega arith; few = few_cells' (r + r + 1) (r + r + 2) (omega arith) (omega arith) };
  first = la;
  second = lb;
  first_in = mul-add-lt r (r + r + 1) r (r + r + 2) (omega arith) (omega arith);
  second_in = mul-add-lt (suc r) (r + r + 1) r (r + r + 2) (omega arith) (omega arith);
}

pub window_box : (axis : Axis) (r : ℕ) → r ≤ 4 → IsBox (window_size axis r).0 (window_size axis r).1
window_box One r le = record { wide = omega arith; low_width = omega arith; few = few_cells (r + r + 2) (r + r + 1) (omega arith) (omega arith) }
window_box Two r le = record { wide = omega arith; low_width = omega arith; few = few_cells' (r + r + 1) (r + r + 2) (omega arith) (omega arith) }

pub all_stand : (ts : List Tile) (width height : ℕ) (g all : List ℕ) → ((u : ℕ) → mask_bit all u ≡ bit (nat_lt u (length ts))) → width * height ≤ 90 → IsTiled ts width height g → Stand (replicate {A = List ℕ} 90 all) g
all_stand ts width height g all whole few p k lk =
    let small : k < 90 = omega (arith, lk, p.size, few) in
    let low : get_or g k 0 < length ts = p.tiles k (omega (arith, lk, p.size)) in
    rw (get_or-replicate {A = List ℕ} 90 k all [] small) (whole (get_or g k 0) ∙ rw (lt-ltb (get_or g k 0) (length ts) low) refl)

-- ---- the least window

abbrev grid_with : Window → List ℕ → Grid
grid_with w f = record { width = w.width; height = w.height; cells = f }

least_window : (ts : List Tile) (axis : Axis) (a b r : ℕ) (f : List ℕ) → IsFilling ts (window axis a b r) (cells (window axis a b r)) f
    → ((g : List ℕ) → IsFilling ts (window axis a b r) (cells (window axis a b r)) g → (f ≡ g) ⊎ IsBefore f g)
    → IsLeastWindow ts axis a b r (grid_with (window axis a b r) f)
least_window ts axis a b r f p least = record {
  window = (whole_windows ts axis a b r (grid_with (window axis a b r) f)).1 (refl, refl, p);
  least = λ h q. let s = (whole_windows ts axis a b r h).0 q in least h.cells s.2;
}

pub least_found : (ts : List Tile) (axis : Axis) (a b r : ℕ) (w : Window) (f : List ℕ) → w ≡ window axis a b r → IsFilling ts w (cells w) f
    → ((g : List ℕ) → IsFilling ts w (cells w) g → (f ≡ g) ⊎ IsBefore f g) → IsLeastWindow ts axis a b r (grid_with (window axis a b r) f)
least_found ts axis a b r w f e =
    subst (λ (v : Window). IsFilling ts v (cells v) f → ((g : List ℕ) → IsFilling ts v (cells v) g → (f ≡ g) ⊎ IsBefore f g) → IsLeastWindow ts axis a b r (grid_with (window axis a b r) f)) (sym e)
    (λ p least. least_window ts axis a b r f p least)

pub none_found : (ts : List Tile) (axis : Axis) (a b r : ℕ) (w : Window) → w ≡ window axis a b r → ((g : List ℕ) → IsFilling ts w (cells w) g → ⊥) → IsEmptyWindow ts axis a b r
none_found ts axis a b r w e =
    subst (λ (v : Window). ((g : List ℕ) → IsFilling ts v (cells v) g → ⊥) → IsEmptyWindow ts axis a b r) (sym e)
    (λ nothing g q. nothing g.cells ((whole_windows ts axis a b r g).0 q).2)

-- ---- surroundable pairs

pub record IsMatch (ts : List Tile) (axis : Axis) (a b : ℕ) : Type 0 where
  pub first : a < length ts
  pub second : b < length ts
  pub fits : matches ts axis a b ≡ true

pub surroundable_match : (ts : List Tile) (axis : Axis) (a b r : ℕ) → IsSurroundable ts axis a b r → IsMatch ts axis a b
surroundable_match ts One a b r s =
    let p = s.1 in
    let x : r < s.0.width = omega (arith, p.long) in
    let x' : suc r < s.0.width = omega (arith, p.long) in
    let y : r < s.0.height = omega (arith, p.wide) in
    record {
      first = rw p.first at (p.tiles r r x y);
      second = rw p.second at (p.tiles (suc r) r x' y);
      fits = rw (p.first, p.second) at (p.valid One r r x' y);
    }
surroundable_match ts Two a b r s =
    let p = s.1 in
    let x : r < s.0.width = omega (arith, p.wide) in
    let y : r < s.0.height = omega (arith, p.long) in
    let y' : suc r < s.0.height = omega (arith, p.long) in
    record {
      first = rw p.first at (p.tiles r r x y);
      second = rw p.second at (p.tiles r (suc r) x y');
      fits = rw (p.first, p.second) at (p.valid Two r r y' x);
    }

pub as_allowed : (rows : List (List ℕ)) (a b : ℕ) → (mask_bit (mask_at rows a) b ≡ 1) ↔ (allowed rows a b ≡ true)
as_allowed rows a b = (λ e. grind (arith, nat_tests, e), λ e. grind (arith, nat_tests, e))
