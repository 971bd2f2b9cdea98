-- No tile of a window is dropped where a mask is carried on to the next cell.
use Rattle.std.proofs.Common.{arith, ◌≡◌, ◌≢◌, ℕ, zero, suc, ◌+◌, ◌-◌, ◌*◌, ◌/◌, ◌%◌, ◌<◌, ◌≤◌, Bool, true, false, nat_lt, nat_le, List, length, get_or, cond, inl, inr, refl, ap, ◌∙◌, None, Some}
use Rattle.std.proofs.lemmas.Bool.{cases_eq, ltb-true, leb-true, lt-ltb}
use Rattle.std.proofs.lemmas.Nat.{mul-add-lt, div-add-mod'}
use Rattle.std.proofs.Math.Nat.{mod-lt}
use Rattle.wt_tile.specs.declared.tile.Tile.{Tile}
use Rattle.wt_lane.specs.Masks.{mask_bit}
use Rattle.wt_mask.specs.declared.sides.Way.{Way}
use Rattle.wt_mask.specs.declared.sides.Way.TheVariants.{Right, Left, Up, Down}
use Rattle.wt_window.specs.Trials.{Window, IsFilling, cells}
use Rattle.wt_mask.specs.Masks.{mask_at, may_stand}
use Rattle.wt_window.specs.Frames.{IsTable, IsTiled, beside, Stand}
use Rattle.wt_window.proofs.Windows.{row_below}

-- what stands beside a cell of a filling
pub record IsBeside (ts : List Tile) (w : Window) (g : List ℕ) (c d : ℕ) (way : Way) : Type 0 where
  pub inside : d < cells w
  pub fits : may_stand ts way (get_or g c 0) (get_or g d 0) ≡ true

some_of : (b : Bool) (x d : ℕ) → cond b (Some x) None ≡ Some d → (b ≡ true) × (x ≡ d)
some_of true x d e = (refl, cc)
some_of false x d e = absurd (cc)

pub standing_beside : (ts : List Tile) (w : Window) (g : List ℕ) (c d : ℕ) (way : Way) → 0 < w.width → c < cells w → IsTiled ts w.width w.height g → beside w c way ≡ Some d → IsBeside ts w g c d way
standing_beside ts w g c d Right wide lt p e =
    let s = some_of (nat_lt (c % w.width + 1) w.width) (c + 1) d e in
    let x : ℕ = c % w.width in
    let y : ℕ = c / w.width in
    let at : c / w.width * w.width + c % w.width ≡ c = div-add-mod' c w.width in
    let col : suc (c % w.width) < w.width = let h = ltb-true (c % w.width + 1) w.width s.0 in omega arith in
    let row : c / w.width < w.height = row_below w.width w.height (c % w.width) (c / w.width) (omega (arith, at)) in
    let low : c / w.width * w.width + suc (c % w.width) < cells w = mul-add-lt (c / w.width) w.width (suc (c % w.width)) w.height row col in
    let next : c / w.width * w.width + suc (c % w.width) ≡ d = omega (arith, at, s.1) in
    record {
      inside = omega (arith, low, next);
      fits = let m = p.right (c % w.width) (c / w.width) col low in rw (at, next) at m;
    }
standing_beside ts w g c d Left wide lt p e =
    let s = some_of (nat_lt 0 (c % w.width)) (c - 1) d e in
    let at : c / w.width * w.width + c % w.width ≡ c = div-add-mod' c w.width in
    let off : 0 < c % w.width = ltb-true 0 (c % w.width) s.0 in
    let col : suc (c % w.width - 1) < w.width = let h = mod-lt c wide in omega arith in
    let here : c / w.width * w.width + suc (c % w.width - 1) ≡ c = omega (arith, at) in
    let next : c / w.width * w.width + (c % w.width - 1) ≡ d = omega (arith, at, s.1) in
    record {
      inside = omega (arith, s.1);
      fits = let m = p.right (c % w.width - 1) (c / w.width) col (omega (arith, here)) in rw (here, next) at m;
    }
standing_beside ts w g c d Up wide lt p e =
    let s = some_of (nat_lt (c + w.width) (cells w)) (c + w.width) d e in
    let at : c / w.width * w.width + c % w.width ≡ c = div-add-mod' c w.width in
    let low : c + w.width < cells w = ltb-true (c + w.width) (cells w) s.0 in
    let next : suc (c / w.width) * w.width + c % w.width ≡ d = omega (arith, at, s.1) in
    record {
      inside = omega (arith, s.1, low);
      fits = let m = p.above (c % w.width) (c / w.width) (mod-lt c wide) (omega (arith, next, s.1, low)) in rw (at, next) at m;
    }
standing_beside ts w g c d Down wide lt p e =
    let s = some_of (nat_le w.width c) (c - w.width) d e in
    let at : c / w.width * w.width + c % w.width ≡ c = div-add-mod' c w.width in
    let high : w.width ≤ c = leb-true w.width c s.0 in
    let y = some_row (c / w.width) w.width (c % w.width) c at (mod-lt c wide) high in
    let here : suc y.0 * w.width + c % w.width ≡ c = ap (λ (k : ℕ). k * w.width + c % w.width) y.1 ∙ at in
    let next : y.0 * w.width + c % w.width ≡ d = omega (arith, here, s.1) in
    record {
      inside = omega (arith, s.1);
      fits = let m = p.above (c % w.width) y.0 (mod-lt c wide) (omega (arith, here)) in rw (here, next) at m;
    }
  where
    some_row : (y w x c : ℕ) → y * w + x ≡ c → x < w → w ≤ c → (z : ℕ) × (suc z ≡ y)
    some_row zero w x c e lx le = absurd (omega arith)
    some_row (suc y) w x c e lx le = (y, refl)

pub carried : (ts : List Tile) (w : Window) (g : List ℕ) (old new table : List (List ℕ)) (way : Way) (c d : ℕ) → 0 < w.width → c < cells w → IsTable ts way table → beside w c way ≡ Some d
    → ((k : ℕ) → k ≢ d → mask_at new k ≡ mask_at old k)
    → ((t u : ℕ) → t < length table → mask_bit (mask_at old c) t ≡ 1 → mask_bit (mask_at table t) u ≡ 1 → mask_bit (mask_at old d) u ≡ 1 → mask_bit (mask_at new d) u ≡ 1)
    → IsTiled ts w.width w.height g → Stand old g → Stand new g
carried ts w g old new table way c d wide lt tab e others kept p s k lk = elim (cases_eq k d) [
  | inl same ↦
      let b = standing_beside ts w g c d way wide lt p e in
      let inside : d < cells w = b.inside in
      let t : get_or g c 0 < length ts = p.tiles c lt in
      let u : get_or g d 0 < length ts = p.tiles d inside in
      let has : mask_bit (mask_at table (get_or g c 0)) (get_or g d 0) ≡ 1 = tab.1 (get_or g c 0) (get_or g d 0) t ∙ rw (lt-ltb (get_or g d 0) (length ts) u, b.fits) refl in
      rw same (kept (get_or g c 0) (get_or g d 0) (omega (arith, t, tab.0)) (s c (omega (arith, p.size, lt))) has (s d (omega (arith, p.size, inside))))
  | inr other ↦ rw (others k other) (s k lk)
]

pub none_left : (ts : List Tile) (w : Window) (g : List ℕ) (new : List (List ℕ)) (way : Way) (c d : ℕ) → length ts ≤ 256 → 0 < w.width → c < cells w → beside w c way ≡ Some d
    → ((u : ℕ) → u < 256 → mask_bit (mask_at new d) u ≡ 1 → ⊥) → IsTiled ts w.width w.height g → Stand new g → ⊥
none_left ts w g new way c d few wide lt e nothing p s =
    let b = standing_beside ts w g c d way wide lt p e in
    let inside : d < cells w = b.inside in
    let u : get_or g d 0 < length ts = p.tiles d inside in
    nothing (get_or g d 0) (omega arith) (s d (omega (arith, p.size, inside)))

pub tiled : (ts : List Tile) (w : Window) (g : List ℕ) → IsFilling ts w (cells w) g → IsTiled ts w.width w.height g
tiled ts w g p = record { size = p.size; tiles = p.tiles; right = p.right; above = p.above }
