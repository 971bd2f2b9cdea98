-- Fillings that close their rows and columns, a cell at a time.
use Rattle.std.proofs.Common.{arith, ◌≡◌, ℕ, zero, suc, ◌+◌, ◌-◌, ◌*◌, ◌%◌, ◌<◌, ◌≤◌, Bool, true, false, ◌&&◌, nat_eq, nat_le, nat_lt, List, [], ◌∷◌, ◌++◌, length, get_or, take, min, inl, inr, refl, sym, ap, ◌∙◌, subst}
use Rattle.wt_grid.specs.declared.axis.Axis.TheVariants.{One, Two}
use Rattle.std.proofs.lemmas.Bool.{cases_lt, and_parts, ltb-true, lt-ltb, leb-true, le-leb}
use Rattle.std.proofs.lemmas.Bool.Decides.{nat_tests}
use Rattle.std.proofs.lemmas.List.{get_or-take, length-take-le, take_more, take_more_set}
use Rattle.std.proofs.Math.Seq.{get_or-append_seam}
use Rattle.std.proofs.Math.ListN.{set, get_or-append}
use Rattle.wt_tile.specs.declared.tile.Tile.{Tile}
use Rattle.wt_tile.specs.Matching.{matches}
use Rattle.wt_mask.specs.Masks.{bit}
use Rattle.wt_window.specs.Trials.{IsFilling, implies, fits_left, fits_below, fits_pair}
use Rattle.wt_window.proofs.Steps.{follows, grown}
use Rattle.wt_window.proofs.Searched.{next_of}
use Rattle.wt_mask.proofs.Bits.{bit_true, four_bits}
use Rattle.wt_periodic.specs.Fillings.{open_window, IsClosed, closes_row, closes_column, IsClosing}

implied : (b x : Bool) → (b ≡ true → x ≡ true) → implies b x ≡ true
implied true x h = h refl
implied false x h = refl

of_implied : (b x : Bool) → implies b x ≡ true → b ≡ true → x ≡ true
of_implied true x e t = e
of_implied false x e t = absurd (cc)

same_of : (a b : ℕ) → nat_eq a b ≡ true → a ≡ b
same_of a b e = grind (arith, nat_tests, e)

of_same : (a b : ℕ) → a ≡ b → nat_eq a b ≡ true
of_same a b e = grind (arith, nat_tests, e)

one_row : (w h : ℕ) → 1 ≤ h → w ≤ w * h
one_row w zero le = absurd (omega arith)
one_row w (suc h) le = let e : w * suc h ≡ w * h + w = omega arith in omega (arith, e)

-- one tile more
pub grown_closed : (ts : List Tile) (w h : ℕ) (f : List ℕ) (t : ℕ) → 1 ≤ w → 1 ≤ h → IsClosed ts w h (length f) f → IsClosing ts w h f t → length f < w * h → IsClosed ts w h (length f + 1) (f ++ t ∷ [])
grown_closed ts w h f t wide high c n low = record {
  filling =
      let s : suc (length f) ≡ length f + 1 = omega arith in
      subst (λ (k : ℕ). IsFilling ts (open_window w h) k (f ++ t ∷ [])) s (grown ts (open_window w h) f t c.filling n.next.low (follows ts (open_window w h) f t n.next.follow));
  right = λ k lk e. elim (cases_lt k (length f)) [
    | inl l ↦ rw (get_or-append f (t ∷ []) 0 k l, get_or-append f (t ∷ []) 0 (k + 1 - w) (omega arith)) (c.right k l e)
    | inr ge ↦
        let same : k ≡ length f = omega arith in
        let e' : length f % w + 1 ≡ w = sym (ap (λ (n : ℕ). n % w + 1) same) ∙ e in
        let test : nat_eq (length f % w + 1) w ≡ true = of_same (length f % w + 1) w e' in
        let m : matches ts One t (get_or (f ++ t ∷ []) (length f + 1 - w) 0) ≡ true = of_implied (nat_eq (length f % w + 1) w) (matches ts One t (get_or (f ++ t ∷ []) (length f + 1 - w) 0)) n.row test in
        rw (same, get_or-append_seam f t [] 0) m
  ];
  above = λ k lk le. elim (cases_lt k (length f)) [
    | inl l ↦ rw (get_or-append f (t ∷ []) 0 k l, get_or-append f (t ∷ []) 0 (k + w - w * h) (omega (arith, l, low, le, one_row w h high))) (c.above k l le)
    | inr ge ↦
        let same : k ≡ length f = omega arith in
        let le' : w * h ≤ length f + w = omega (arith, le, same) in
        let test : nat_le (w * h) (length f + w) ≡ true = le-leb (w * h) (length f + w) le' in
        let m : matches ts Two t (get_or (f ++ t ∷ []) (length f + w - w * h) 0) ≡ true = of_implied (nat_le (w * h) (length f + w)) (matches ts Two t (get_or (f ++ t ∷ []) (length f + w - w * h) 0)) n.column test in
        rw (same, get_or-append_seam f t [] 0) m
  ];
}

-- the same, where a cell is filled
pub begun_closed : (ts : List Tile) (w h : ℕ) (filled : List ℕ) (at t : ℕ) → 1 ≤ w → 1 ≤ h → at < w * h → at < length filled → IsClosed ts w h at (take at filled) → IsClosing ts w h (take at filled) t
    → IsClosed ts w h (at + 1) (take (at + 1) (set filled at t))
begun_closed ts w h filled at t wide high lt inside c n =
    let size : length (take at filled) ≡ at = length-take-le at filled (omega arith) in
    let c' : IsClosed ts w h (length (take at filled)) (take at filled) = subst (λ (k : ℕ). IsClosed ts w h k (take at filled)) (sym size) c in
    let g = grown_closed ts w h (take at filled) t wide high c' n (omega (arith, size, lt)) in
    subst (λ (l : List ℕ). IsClosed ts w h (at + 1) l) (sym (take_more_set filled at t inside))
    (subst (λ (k : ℕ). IsClosed ts w h (k + 1) (take at filled ++ t ∷ [])) size g)

-- a closed filling goes on with a tile that closes what it has to
pub closing_of : (ts : List Tile) (w h : ℕ) (g f : List ℕ) (at : ℕ) → 1 ≤ w → 1 ≤ h → at < w * h → IsClosed ts w h (w * h) g → take at g ≡ f → IsClosing ts w h f (get_or g at 0)
closing_of ts w h g f at wide high lt c e =
    let inside : at < length g = omega (arith, c.filling.size, lt) in
    let n : length f ≡ at = rw (← e) (length-take-le at g (omega arith)) in
    let s : f ++ get_or g at 0 ∷ [] ≡ take (at + 1) g = ap (λ (l : List ℕ). l ++ get_or g at 0 ∷ []) (sym e) ∙ sym (take_more g at 0 inside) in
    let F : (k : ℕ) → k < at + 1 → get_or (f ++ get_or g at 0 ∷ []) k 0 ≡ get_or g k 0 = λ k lk. ap (λ (l : List ℕ). get_or l k 0) s ∙ get_or-take (at + 1) g k 0 lk in
    record {
      next = next_of ts (open_window w h) g f at wide lt c.filling e;
      row = implied (nat_eq (length f % w + 1) w) (matches ts One (get_or g at 0) (get_or (f ++ get_or g at 0 ∷ []) (length f + 1 - w) 0)) (λ q.
          let e' : length f % w + 1 ≡ w = same_of (length f % w + 1) w q in
          let e'' : at % w + 1 ≡ w = sym (ap (λ (k : ℕ). k % w + 1) n) ∙ e' in
          let m : matches ts One (get_or g at 0) (get_or g (at + 1 - w) 0) ≡ true = c.right at lt e'' in
          rw (n, F (at + 1 - w) (omega arith)) m);
      column = implied (nat_le (w * h) (length f + w)) (matches ts Two (get_or g at 0) (get_or (f ++ get_or g at 0 ∷ []) (length f + w - w * h) 0)) (λ q.
          let le : w * h ≤ length f + w = leb-true (w * h) (length f + w) q in
          let le' : w * h ≤ at + w = omega (arith, le, n) in
          let m : matches ts Two (get_or g at 0) (get_or g (at + w - w * h) 0) ≡ true = c.above at lt le' in
          rw (n, F (at + w - w * h) (omega (arith, lt, one_row w h high))) m);
    }

-- ---- the mask of the tiles that close

pub joint : (n l b p q : Bool) (ml mb mp mq x y z : ℕ) → ml ≡ bit (n && l) → mb ≡ bit (n && b) → mp ≡ bit (n && p) → mq ≡ bit (n && q) → x ≡ min ml mb → y ≡ min x mp → z ≡ min y mq
    → z ≡ bit (n && ((l && b) && (p && q)))
joint n l b p q ml mb mp mq x y z el eb ep eq ex ey ez = rw (ez, ey, ex, el, eb, ep, eq) (four_bits n l b p q)

no_pair : (w h : ℕ) (f : List ℕ) (t : ℕ) → length f < w * h → fits_pair (open_window w h) f t ≡ true
no_pair w h f t lt = let test : nat_eq (length f) (w * h) ≡ false = grind (arith, nat_tests, lt) in rw test refl

pub closing_bit : (ts : List Tile) (w h : ℕ) (f : List ℕ) (t z : ℕ) → length f < w * h
    → z ≡ bit (nat_lt t (length ts) && ((fits_left ts (open_window w h) f t && fits_below ts (open_window w h) f t) && (closes_row ts w f t && closes_column ts w h f t))) → z ≡ 1 → IsClosing ts w h f t
closing_bit ts w h f t z lt e one =
    let all = and_parts (nat_lt t (length ts)) ((fits_left ts (open_window w h) f t && fits_below ts (open_window w h) f t) && (closes_row ts w f t && closes_column ts w h f t))
    (bit_true (nat_lt t (length ts) && ((fits_left ts (open_window w h) f t && fits_below ts (open_window w h) f t) && (closes_row ts w f t && closes_column ts w h f t))) (sym e ∙ one)) in
    let two = and_parts (fits_left ts (open_window w h) f t && fits_below ts (open_window w h) f t) (closes_row ts w f t && closes_column ts w h f t) all.1 in
    let ends = and_parts (closes_row ts w f t) (closes_column ts w h f t) two.1 in
    record {
      next = record { low = ltb-true t (length ts) all.0; follow = rw (two.0, no_pair w h f t lt) refl };
      row = ends.0;
      column = ends.1;
    }

pub bit_closing : (ts : List Tile) (w h : ℕ) (f : List ℕ) (t z : ℕ)
    → z ≡ bit (nat_lt t (length ts) && ((fits_left ts (open_window w h) f t && fits_below ts (open_window w h) f t) && (closes_row ts w f t && closes_column ts w h f t))) → IsClosing ts w h f t → z ≡ 1
bit_closing ts w h f t z e n =
    let both = and_parts (fits_left ts (open_window w h) f t && fits_below ts (open_window w h) f t) (fits_pair (open_window w h) f t) n.next.follow in
    e ∙ rw (lt-ltb t (length ts) n.next.low, both.0, n.row, n.column) refl

-- the mask of the tiles that close, as it is put together
pub mask_closes : (ts : List Tile) (w h : ℕ) (filled : List ℕ) (at t ml mb mp mq x y z : ℕ) → at ≤ length filled → at < w * h
    → ml ≡ bit (nat_lt t (length ts) && fits_left ts (open_window w h) (take at filled) t) → mb ≡ bit (nat_lt t (length ts) && fits_below ts (open_window w h) (take at filled) t)
    → mp ≡ bit (nat_lt t (length ts) && closes_row ts w (take at filled) t) → mq ≡ bit (nat_lt t (length ts) && closes_column ts w h (take at filled) t)
    → x ≡ min ml mb → y ≡ min x mp → z ≡ min y mq → z ≡ 1 → IsClosing ts w h (take at filled) t
mask_closes ts w h filled at t ml mb mp mq x y z le lt el eb ep eq ex ey ez one =
    closing_bit ts w h (take at filled) t z (omega (arith, lt, length-take-le at filled le))
    (joint (nat_lt t (length ts)) (fits_left ts (open_window w h) (take at filled) t) (fits_below ts (open_window w h) (take at filled) t) (closes_row ts w (take at filled) t) (closes_column ts w h (take at filled) t)
    ml mb mp mq x y z el eb ep eq ex ey ez) one

pub closes_mask : (ts : List Tile) (w h : ℕ) (filled : List ℕ) (at t ml mb mp mq x y z : ℕ)
    → ml ≡ bit (nat_lt t (length ts) && fits_left ts (open_window w h) (take at filled) t) → mb ≡ bit (nat_lt t (length ts) && fits_below ts (open_window w h) (take at filled) t)
    → mp ≡ bit (nat_lt t (length ts) && closes_row ts w (take at filled) t) → mq ≡ bit (nat_lt t (length ts) && closes_column ts w h (take at filled) t)
    → x ≡ min ml mb → y ≡ min x mp → z ≡ min y mq → IsClosing ts w h (take at filled) t → z ≡ 1
closes_mask ts w h filled at t ml mb mp mq x y z el eb ep eq ex ey ez n =
    bit_closing ts w h (take at filled) t z
    (joint (nat_lt t (length ts)) (fits_left ts (open_window w h) (take at filled) t) (fits_below ts (open_window w h) (take at filled) t) (closes_row ts w (take at filled) t) (closes_column ts w h (take at filled) t)
    ml mb mp mq x y z el eb ep eq ex ey ez) n

two_rows : (w h : ℕ) → 2 ≤ h → w + w ≤ w * h
two_rows w zero le = absurd (omega arith)
two_rows w (suc zero) le = absurd (omega arith)
two_rows w (suc (suc h)) le = let e : w * suc (suc h) ≡ w * h + w + w = omega arith in omega (arith, e)

-- a cell of the last row closes its column with the cell of row 0
pub column_closed : (ts : List Tile) (w h : ℕ) (filled : List ℕ) (at t : ℕ) → 1 ≤ w → 2 ≤ h → at < w * h → length filled ≡ w * h → length filled - w ≤ at
    → closes_column ts w h (take at filled) t ≡ matches ts Two t (get_or filled (at - (length filled - w)) 0)
column_closed ts w h filled at t wide high lt long last =
    let size : length (take at filled) ≡ at = length-take-le at filled (omega (arith, long, lt)) in
    let row : w + w ≤ w * h = two_rows w h high in
    let le : w * h ≤ length (take at filled) + w = omega (arith, size, long, last, row) in
    let test : nat_le (w * h) (length (take at filled) + w) ≡ true = le-leb (w * h) (length (take at filled) + w) le in
    let place : length (take at filled) + w - w * h ≡ at - (length filled - w) = omega (arith, size, long, row, last) in
    let there : get_or (take at filled ++ t ∷ []) (at - (length filled - w)) 0 ≡ get_or filled (at - (length filled - w)) 0 =
    get_or-append (take at filled) (t ∷ []) 0 (at - (length filled - w)) (omega (arith, size, long, row, last, wide, lt)) ∙ get_or-take at filled (at - (length filled - w)) 0 (omega (arith, long, row, last, wide, lt)) in
    rw (test, place, there) refl
