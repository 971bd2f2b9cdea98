-- Masks of the tiles that fit, and counts from one placed tile to the next.
use Rattle.std.proofs.Common.{arith, ◌≡◌, ℕ, zero, suc, ◌+◌, ◌-◌, ◌%◌, ◌<◌, ◌≤◌, Bool, true, false, ◌&&◌, cond, nat_lt, List, [], ◌∷◌, length, Option, None, Some, set, min, subst, refl, ap, sym, ◌∙◌, inl, inr}
use Rattle.wt_grid.specs.declared.axis.Axis.TheVariants.{One, Two}
use Rattle.std.specs.Prelude.{slice_set, nat_le}
use Rattle.std.proofs.lemmas.Bool.{cases_lt, cases_eq, lt-ltb, ltb-true, and_parts, and_from}
use Rattle.std.proofs.lemmas.Bool.Decides.{nat_tests}
use Rattle.std.proofs.lemmas.List.{get_or-set_same, get_or-set_other, length-set}
use Rattle.wt_tile.specs.declared.tile.Tile.{Tile}
use Rattle.wt_lane.specs.Masks.{mask_bit, set_below}
use Rattle.wt_mask.specs.declared.sides.Way.TheVariants.{Right, Left, Up, Down}
use Rattle.wt_mask.specs.Masks.{bit}
use Rattle.wt_mask.proofs.Bits.{bit_both}
use Rattle.wt_refute.specs.Placed.{Placed, place, tile_in, is_vacant, is_free, right_of, above, left_of, below, may_join, passing, fitting, fits_cell}
use Rattle.wt_refute.specs.Fitted.{joins, IsFitMask, IsCounted, AreCounted}
use Rattle.wt_refute.specs.Standard.{tighter, tightest_from}
use Rattle.wt_refute.proofs.Passing.{passing_more}
use Rattle.wt_refute.proofs.More.{tightest_more}

-- ---- the mask of a cell

module _ (ts : List Tile) (t : ℕ) where
  on_left : (o : Option ℕ) → joins ts Left o t ≡ may_join ts One (Some t) o
  on_left None = refl
  on_left (Some s) = refl

  on_down : (o : Option ℕ) → joins ts Down o t ≡ may_join ts Two (Some t) o
  on_down None = refl
  on_down (Some s) = refl

  on_right : (o : Option ℕ) → joins ts Right o t ≡ may_join ts One o (Some t)
  on_right None = refl
  on_right (Some s) = refl

  on_up : (o : Option ℕ) → joins ts Up o t ≡ may_join ts Two o (Some t)
  on_up None = refl
  on_up (Some s) = refl

all_bits : (n a b c d : Bool) → min (min (min (bit (n && a)) (bit (n && b))) (bit (n && c))) (bit (n && d)) ≡ bit (n && (a && b && c && d))
all_bits n a b c d =
    ap (λ (k : ℕ). min (min k (bit (n && c))) (bit (n && d))) (bit_both n a b)
    ∙ ap (λ (k : ℕ). min k (bit (n && d))) (bit_both n (a && b) c)
    ∙ bit_both n (a && b && c) d

abbrev fits_with : List Tile → Option ℕ → Option ℕ → Option ℕ → Option ℕ → ℕ → Bool
fits_with ts r a l b t = may_join ts One (Some t) r && may_join ts Two (Some t) a && may_join ts One l (Some t) && may_join ts Two b (Some t)

pub fit_bits : (ts : List Tile) (p : Placed) (c t r a l b one' two' three' : ℕ)
    → r ≡ bit (nat_lt t (length ts) && joins ts Left (right_of p c) t) → a ≡ bit (nat_lt t (length ts) && joins ts Down (above p c) t)
    → l ≡ bit (nat_lt t (length ts) && joins ts Right (left_of p c) t) → b ≡ bit (nat_lt t (length ts) && joins ts Up (below p c) t)
    → one' ≡ min r a → two' ≡ min one' l → three' ≡ min two' b
    → three' ≡ bit (nat_lt t (length ts) && fits_cell ts p c t)
fit_bits ts p c t r a l b one' two' three' er ea el eb e1 e2 e3 =
    let n = nat_lt t (length ts) in
    let fr = er ∙ ap (λ (x : Bool). bit (nat_lt t (length ts) && x)) (on_left ts t (right_of p c)) in
    let fa = ea ∙ ap (λ (x : Bool). bit (nat_lt t (length ts) && x)) (on_down ts t (above p c)) in
    let fl = el ∙ ap (λ (x : Bool). bit (nat_lt t (length ts) && x)) (on_right ts t (left_of p c)) in
    let fb = eb ∙ ap (λ (x : Bool). bit (nat_lt t (length ts) && x)) (on_up ts t (below p c)) in
    e3 ∙ ap (λ (k : ℕ). min k b) (e2 ∙ ap (λ (k : ℕ). min k l) e1)
    ∙ ap (λ (k : ℕ). min (min (min k a) l) b) fr
    ∙ ap (λ (k : ℕ). min (min (min (bit (nat_lt t (length ts) && may_join ts One (Some t) (right_of p c))) k) l) b) fa
    ∙ ap (λ (k : ℕ). min (min (min (bit (nat_lt t (length ts) && may_join ts One (Some t) (right_of p c))) (bit (nat_lt t (length ts) && may_join ts Two (Some t) (above p c)))) k) b) fl
    ∙ ap (λ (k : ℕ). min (min (min (bit (nat_lt t (length ts) && may_join ts One (Some t) (right_of p c))) (bit (nat_lt t (length ts) && may_join ts Two (Some t) (above p c)))) (bit (nat_lt t (length ts) && may_join ts One (left_of p c) (Some t)))) k) fb
    ∙ all_bits (nat_lt t (length ts)) (may_join ts One (Some t) (right_of p c)) (may_join ts Two (Some t) (above p c)) (may_join ts One (left_of p c) (Some t)) (may_join ts Two (below p c) (Some t))

-- a tile whose bit is set fits, and one whose bit isn't set doesn't
pub fit_some : (ts : List Tile) (p : Placed) (c : ℕ) (mask : List ℕ) (t : ℕ) → IsFitMask ts p c mask → mask_bit mask t ≡ 1 → (t < length ts) × (fits_cell ts p c t ≡ true)
fit_some ts p c mask t fit e = split (nat_lt t (length ts)) (fits_cell ts p c t) refl refl (sym (fit t) ∙ e)
  where
    split : (a b : Bool) → nat_lt t (length ts) ≡ a → fits_cell ts p c t ≡ b → bit (a && b) ≡ 1 → (t < length ts) × (fits_cell ts p c t ≡ true)
    split true true x y h = (ltb-true t (length ts) x, y)
    split true false x y h = absurd (omega (arith, h))
    split false b x y h = absurd (omega (arith, h))

pub fit_none : (ts : List Tile) (p : Placed) (c : ℕ) (mask : List ℕ) (t : ℕ) → IsFitMask ts p c mask → t < length ts → mask_bit mask t ≡ 0 → fits_cell ts p c t ≡ false
fit_none ts p c mask t fit lt e = split (fits_cell ts p c t) refl (ap (λ (b : Bool). bit (b && fits_cell ts p c t)) (sym (lt-ltb t (length ts) lt)) ∙ sym (fit t) ∙ e)
  where
    split : (b : Bool) → fits_cell ts p c t ≡ b → bit (fits_cell ts p c t) ≡ 0 → fits_cell ts p c t ≡ false
    split false y h = y
    split true y h = absurd (let one' : bit (fits_cell ts p c t) ≡ 1 = ap bit y in omega (arith, h, one'))

-- ---- how many tiles fit

length_with : (b : Bool) (x : ℕ) (xs : List ℕ) → length (cond b (x ∷ xs) xs) ≡ bit b + length xs
length_with true x xs = omega arith
length_with false x xs = omega arith

-- the last number of n + 1
passing_last : (f : ℕ → Bool) (i n : ℕ) → length (passing f i (suc n)) ≡ length (passing f i n) + bit (f (i + n))
passing_last f i zero =
    let e : i + 0 ≡ i = omega arith in
    let l = length_with (f i) i [] in
    let g : bit (f (i + 0)) ≡ bit (f i) = ap (λ (k : ℕ). bit (f k)) e in
    omega (arith, l, g)
passing_last f i (suc n) =
    let e : i + 1 + n ≡ i + suc n = omega arith in
    let g : bit (f (i + 1 + n)) ≡ bit (f (i + suc n)) = ap (λ (k : ℕ). bit (f k)) e in
    let l = length_with (f i) i (passing f (i + 1) (suc n)) in
    let m = length_with (f i) i (passing f (i + 1) n) in
    let r = passing_last f (i + 1) n in
    omega (arith, l, m, r, g)

module _ (f : ℕ → Bool) (mask : List ℕ) (n : ℕ) (fit : (t : ℕ) → mask_bit mask t ≡ bit (nat_lt t n && f t)) where
  set_low : (k : ℕ) → k ≤ n → set_below mask k ≡ length (passing f 0 k)
  unfolding set_below
  set_low zero le = refl
  set_low (suc k) le =
      let low : nat_lt k n ≡ true = lt-ltb k n (omega arith) in
      let e : mask_bit mask k ≡ bit (f k) = fit k ∙ ap (λ (b : Bool). bit (b && f k)) low in
      let z : bit (f (0 + k)) ≡ bit (f k) = let s : 0 + k ≡ k = omega arith in ap (λ (j : ℕ). bit (f j)) s in
      let r = set_low k (omega arith) in
      let l = passing_last f 0 k in
      omega (arith, e, z, r, l)

  set_high : (j : ℕ) → set_below mask (n + j) ≡ set_below mask n
  unfolding set_below
  set_high zero = let s : n + 0 ≡ n = omega arith in ap (set_below mask) s
  set_high (suc j) =
      let s : n + suc j ≡ suc (n + j) = omega arith in
      let past : nat_lt (n + j) n ≡ false = grind (arith, nat_tests) in
      let z : mask_bit mask (n + j) ≡ 0 = fit (n + j) ∙ ap (λ (b : Bool). bit (b && f (n + j))) past in
      let r = set_high j in
      ap (set_below mask) s ∙ omega (arith, z, r)

pub set_fitting : (ts : List Tile) (p : Placed) (c : ℕ) (mask : List ℕ) → length ts ≤ 256 → IsFitMask ts p c mask → set_below mask 256 ≡ length (fitting ts p c)
set_fitting ts p c mask few fit =
    let s : 256 ≡ length ts + (256 - length ts) = omega arith in
    let same : length ts ≤ length ts = omega arith in
    ap (set_below mask) s ∙ set_high (fits_cell ts p c) mask (length ts) fit (256 - length ts) ∙ set_low (fits_cell ts p c) mask (length ts) fit (length ts) same

-- ---- one cell anew

module _ (ts : List Tile) (p : Placed) (counts : List ℕ) (cell : ℕ) (mask : List ℕ) (count : ℕ) (in_counts : cell < length counts)
    (few : length ts ≤ 256) (fit : IsFitMask ts p cell mask) (counted : count ≡ set_below mask 256) where
  pub anew : IsCounted ts p (slice_set counts cell count) cell
  anew = get_or-set_same counts cell count 0 in_counts ∙ counted ∙ set_fitting ts p cell mask few fit

  pub kept : (d : ℕ) → IsCounted ts p counts d → IsCounted ts p (slice_set counts cell count) d
  kept d old = elim (cases_eq d cell) [
    | inl same ↦ subst (λ (k : ℕ). IsCounted ts p (slice_set counts cell count) k) (sym same) anew
    | inr other ↦ get_or-set_other counts cell d count 0 other ∙ old
  ]

-- ---- a tile placed

same_passing : (f g : ℕ → Bool) (i n : ℕ) → ((k : ℕ) → f k ≡ g k) → passing f i n ≡ passing g i n
same_passing f g i zero e = refl
same_passing f g i (suc n) e =
    ap (λ (b : Bool). cond b (i ∷ passing f (i + 1) n) (passing f (i + 1) n)) (e i)
    ∙ ap (λ (xs : List ℕ). cond (g i) (i ∷ xs) xs) (same_passing f g (i + 1) n e)

module _ (ts : List Tile) (p : Placed) (c t : ℕ) where
  abbrev after : Placed
  after = place p c t

  -- what fits a cell away from the new tile is as before
  away : (d : ℕ) → (d ≡ c → ⊥) → (d ≡ c + 1 → ⊥) → (d ≡ c + p.width → ⊥) → (d + 1 ≡ c → ⊥) → (d + p.width ≡ c → ⊥) → (u : ℕ) → fits_cell ts (place p c t) d u ≡ fits_cell ts p d u
  away d here right up left down u =
      let r : right_of (place p c t) d ≡ right_of p d = ap (λ (o : Option ℕ). cond (nat_lt (d % p.width + 1) p.width) o None) (get_or-set_other p.cells c (d + 1) (Some t) None left) in
      let a : above (place p c t) d ≡ above p d = get_or-set_other p.cells c (d + p.width) (Some t) None down in
      let l : left_of (place p c t) d ≡ left_of p d = ap (λ (o : Option ℕ). cond (nat_lt 0 (d % p.width)) o None) (get_or-set_other p.cells c (d - 1) (Some t) None (λ e. elim (cases_lt 0 d) [
        | inl some ↦ right (omega arith)
        | inr none ↦ here (omega arith)
      ])) in
      let b : below (place p c t) d ≡ below p d = elim (cases_lt d p.width) [
        | inl low ↦ let f : nat_le p.width d ≡ false = grind (arith, nat_tests) in rw f refl
        | inr high ↦ ap (λ (o : Option ℕ). cond (nat_le p.width d) o None) (get_or-set_other p.cells c (d - p.width) (Some t) None (λ e. up (omega arith)))
      ] in
      ap (λ (o : Option ℕ). fits_with ts o (above (place p c t) d) (left_of (place p c t) d) (below (place p c t) d) u) r
      ∙ ap (λ (o : Option ℕ). fits_with ts (right_of p d) o (left_of (place p c t) d) (below (place p c t) d) u) a
      ∙ ap (λ (o : Option ℕ). fits_with ts (right_of p d) (above p d) o (below (place p c t) d) u) l
      ∙ ap (λ (o : Option ℕ). fits_with ts (right_of p d) (above p d) (left_of p d) o u) b

  stays : (counts : List ℕ) (d : ℕ) → ((u : ℕ) → fits_cell ts (place p c t) d u ≡ fits_cell ts p d u) → IsCounted ts p counts d → IsCounted ts (place p c t) counts d
  stays counts d e old = old ∙ ap length (same_passing (fits_cell ts p d) (fits_cell ts (place p c t) d) 0 (length ts) (λ u. sym (e u)))

  free_before : (d : ℕ) → c < length p.cells → is_free (place p c t) d ≡ true → (d ≡ c → ⊥) × (is_free p d ≡ true)
  free_before d lt free =
      let parts = and_parts (nat_lt d (length (place p c t).cells)) (is_vacant (tile_in (place p c t) d)) free in
      let other : d ≡ c → ⊥ = λ same.
      let there : tile_in (place p c t) d ≡ Some t = ap (tile_in (place p c t)) same ∙ get_or-set_same p.cells c (Some t) None lt in
      let both : true ≡ false = sym parts.1 ∙ ap is_vacant there in cc in
      let long : length (set p.cells c (Some t)) ≡ length p.cells = length-set p.cells c (Some t) in
      let inside : nat_lt d (length p.cells) ≡ true = ap (nat_lt d) (sym long) ∙ parts.0 in
      let empty : is_vacant (tile_in p d) ≡ true = ap is_vacant (sym (get_or-set_other p.cells c d (Some t) None other)) ∙ parts.1 in
      (other, and_from (nat_lt d (length p.cells)) (is_vacant (tile_in p d)) inside empty)

  moved : (counts : List ℕ) (d e : ℕ) → d ≡ e → (is_free (place p c t) e ≡ true → IsCounted ts (place p c t) counts e) → is_free (place p c t) d ≡ true → IsCounted ts (place p c t) counts d
  moved counts d e same have free =
      subst (λ (k : ℕ). IsCounted ts (place p c t) counts k) (sym same) (have (subst (λ (k : ℕ). is_free (place p c t) k ≡ true) same free))

  pub put_on : (n0 n1 n2 n3 n4 : List ℕ) → c < length p.cells → AreCounted ts p n0
      → (is_free (place p c t) (c + 1) ≡ true → IsCounted ts (place p c t) n1 (c + 1)) → ((d : ℕ) → IsCounted ts (place p c t) n0 d → IsCounted ts (place p c t) n1 d)
      → (is_free (place p c t) (c + p.width) ≡ true → IsCounted ts (place p c t) n2 (c + p.width)) → ((d : ℕ) → IsCounted ts (place p c t) n1 d → IsCounted ts (place p c t) n2 d)
      → (1 ≤ c → is_free (place p c t) (c - 1) ≡ true → IsCounted ts (place p c t) n3 (c - 1)) → ((d : ℕ) → IsCounted ts (place p c t) n2 d → IsCounted ts (place p c t) n3 d)
      → (p.width ≤ c → is_free (place p c t) (c - p.width) ≡ true → IsCounted ts (place p c t) n4 (c - p.width)) → ((d : ℕ) → IsCounted ts (place p c t) n3 d → IsCounted ts (place p c t) n4 d)
      → AreCounted ts (place p c t) n4
  put_on n0 n1 n2 n3 n4 lt old h1 k1 h2 k2 h3 k3 h4 k4 d free = elim (cases_eq d (c + 1)) [
    | inl right ↦ k4 d (k3 d (k2 d (moved n1 d (c + 1) right h1 free)))
    | inr not_right ↦ elim (cases_eq d (c + p.width)) [
      | inl up ↦ k4 d (k3 d (moved n2 d (c + p.width) up h2 free))
      | inr not_up ↦ elim (cases_eq (d + 1) c) [
        | inl left ↦ k4 d (moved n3 d (c - 1) (omega arith) (h3 (omega arith)) free)
        | inr not_left ↦ elim (cases_eq (d + p.width) c) [
          | inl down ↦ moved n4 d (c - p.width) (omega arith) (h4 (omega arith)) free
          | inr not_down ↦
              let was = free_before d lt free in
              k4 d (k3 d (k2 d (k1 d (stays n0 d (away d was.0 not_right not_up not_left not_down) (old d was.1)))))
        ]
      ]
    ]
  ]

-- ---- from one tile that fits to the next

jump : (f : ℕ → Bool) (n k i : ℕ) → i + k ≤ n → ((j : ℕ) → i ≤ j → j < i + k → f j ≡ false) → passing f i (n - i) ≡ passing f (i + k) (n - (i + k))
jump f n zero i le none = let s : i + 0 ≡ i = omega arith in rw s refl
jump f n (suc k) i le none =
    let s : i + 1 + k ≡ i + suc k = omega arith in
    let no : f i ≡ false = none i (omega arith) (omega arith) in
    passing_more f i n (omega arith)
    ∙ ap (λ (b : Bool). cond b (i ∷ passing f (i + 1) (n - (i + 1))) (passing f (i + 1) (n - (i + 1)))) no
    ∙ jump f n k (i + 1) (omega arith) (λ j low high. none j (omega arith) (omega arith))
    ∙ ap (λ (m : ℕ). passing f m (n - m)) s

pub jump_to : (ts : List Tile) (p : Placed) (c : ℕ) (mask : List ℕ) (from to : ℕ) → IsFitMask ts p c mask → from ≤ to → to ≤ length ts
    → ((i : ℕ) → from ≤ i → i < to → mask_bit mask i ≡ 0) → passing (fits_cell ts p c) from (length ts - from) ≡ passing (fits_cell ts p c) to (length ts - to)
jump_to ts p c mask from to fit le within none =
    let s : from + (to - from) ≡ to = omega arith in
    jump (fits_cell ts p c) (length ts) (to - from) from (omega arith) (λ j low high. fit_none ts p c mask j fit (omega arith) (none j low (omega arith)))
    ∙ ap (λ (m : ℕ). passing (fits_cell ts p c) m (length ts - m)) s

-- ---- the tightest cell

pub tightest_kept : (ts : List Tile) (p : Placed) (held new : Option (ℕ × ℕ)) (i n count : ℕ) (whole : Option (ℕ × ℕ)) → i < n → is_free p i ≡ true → count ≡ length (fitting ts p i)
    → new ≡ Some (tighter (i, count) held) → tightest_from ts p held i (n - i) ≡ whole → tightest_from ts p new (i + 1) (n - (i + 1)) ≡ whole
tightest_kept ts p held new i n count whole lt free counted e old =
    ap (λ (h : Option (ℕ × ℕ)). tightest_from ts p h (i + 1) (n - (i + 1))) (e ∙ ap (λ (k : ℕ). Some (tighter (i, k) held)) counted)
    ∙ ap (λ (b : Bool). tightest_from ts p (cond b (Some (tighter (i, length (fitting ts p i)) held)) held) (i + 1) (n - (i + 1))) (sym free)
    ∙ sym (tightest_more ts p held i n lt) ∙ old

pub tightest_passed : (ts : List Tile) (p : Placed) (held new : Option (ℕ × ℕ)) (i n : ℕ) (whole : Option (ℕ × ℕ)) → i < n → is_free p i ≡ false
    → new ≡ held → tightest_from ts p held i (n - i) ≡ whole → tightest_from ts p new (i + 1) (n - (i + 1)) ≡ whole
tightest_passed ts p held new i n whole lt taken e old =
    ap (λ (h : Option (ℕ × ℕ)). tightest_from ts p h (i + 1) (n - (i + 1))) e
    ∙ ap (λ (b : Bool). tightest_from ts p (cond b (Some (tighter (i, length (fitting ts p i)) held)) held) (i + 1) (n - (i + 1))) (sym taken)
    ∙ sym (tightest_more ts p held i n lt) ∙ old

-- ---- the tiles of a branch

-- the next tile that fits is the first of those that are left
pub next_first : (ts : List Tile) (p : Placed) (c : ℕ) (mask : List ℕ) (from t : ℕ) → IsFitMask ts p c mask → from ≤ t → mask_bit mask t ≡ 1
    → ((i : ℕ) → from ≤ i → i < t → mask_bit mask i ≡ 0) → passing (fits_cell ts p c) from (length ts - from) ≡ t ∷ passing (fits_cell ts p c) (t + 1) (length ts - (t + 1))
next_first ts p c mask from t fit le one' none =
    let s = fit_some ts p c mask t fit one' in
    jump_to ts p c mask from t fit le (omega (arith, s.0)) none ∙ passing_more (fits_cell ts p c) t (length ts) s.0
    ∙ ap (λ (b : Bool). cond b (t ∷ passing (fits_cell ts p c) (t + 1) (length ts - (t + 1))) (passing (fits_cell ts p c) (t + 1) (length ts - (t + 1)))) s.1

-- where none is left, no tile is
pub next_none : (ts : List Tile) (p : Placed) (c : ℕ) (mask : List ℕ) (from : ℕ) → IsFitMask ts p c mask → from ≤ length ts
    → ((i : ℕ) → from ≤ i → mask_bit mask i ≡ 0) → passing (fits_cell ts p c) from (length ts - from) ≡ []
next_none ts p c mask from fit le none =
    let same : length ts ≤ length ts = omega arith in
    let z : length ts - length ts ≡ 0 = omega arith in
    jump_to ts p c mask from (length ts) fit le same (λ i low high. none i low) ∙ ap (passing (fits_cell ts p c) (length ts)) z
