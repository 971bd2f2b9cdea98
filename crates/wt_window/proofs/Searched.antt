-- What a search in reading order tries, and what it finds.
use Rattle.std.proofs.Common.{arith, ◌≡◌, ◌≢◌, ◌⊎◌, ℕ, zero, suc, ◌+◌, ◌-◌, ◌*◌, ◌<◌, ◌≤◌, Bool, true, false, ◌&&◌, nat_lt, nat_eq, List, [], ◌∷◌, ◌++◌, length, get_or, take, map, cond, min, inl, inr, refl, sym, ap, ◌∙◌, subst}
use Rattle.wt_grid.specs.Order.{IsBefore}
use Rattle.std.specs.List.{filter, range_with_len}
use Rattle.std.proofs.lemmas.Bool.{cases_eq, cases_lt, ltb-true, lt-ltb, and_parts}
use Rattle.std.proofs.lemmas.List.{get_or-take, length-take-le, take_more_set, take-take, take-set, get_or-set_same}
use Rattle.std.proofs.Math.ListN.{set}
use Rattle.wt_tile.specs.declared.tile.Tile.{Tile}
use Rattle.wt_lane.specs.Masks.{mask_bit}
use Rattle.wt_window.specs.Trials.{Window, IsFilling, cells, may_follow, extensions, sum_of, trials_from}
use Rattle.wt_mask.specs.Masks.{bit, mask_at}
use Rattle.wt_window.specs.Frames.{Stand, IsNext}
use Rattle.wt_window.proofs.Steps.{follows, following, grown, last_follows, last_below}
use Rattle.wt_window.specs.Trials.{implies, fits_left, fits_below}
use Rattle.wt_mask.proofs.Bits.{bit_true, four_bits}

-- ---- sums over the tiles below a number

-- v 0 + v 1 + .. over the numbers below k that pass
pub total : (ℕ → Bool) → (ℕ → ℕ) → ℕ → ℕ
total p v zero = 0
total p v (suc k) = total p v k + cond (p k) (v k) 0

pub total_none : (p : ℕ → Bool) (v : ℕ → ℕ) → total p v 0 ≡ 0
unfolding total
total_none p v = refl

total_next : (p : ℕ → Bool) (v : ℕ → ℕ) (t : ℕ) → p t ≡ true → total p v (t + 1) ≡ total p v t + v t
unfolding total
total_next p v t e = let s : t + 1 ≡ suc t = omega arith in rw (s, e) refl

pub total_mono : (p : ℕ → Bool) (v : ℕ → ℕ) (a b : ℕ) → a ≤ b → total p v a ≤ total p v b
unfolding total
total_mono p v a zero le = let z : a ≡ 0 = omega arith in rw z (omega arith)
total_mono p v a (suc b) le = elim (cases_lt a (suc b)) [
  | inl l ↦ let h = total_mono p v a b (omega arith) in omega (arith, h)
  | inr g ↦ let z : a ≡ suc b = omega arith in rw z (omega arith)
]

pub total_more : (p : ℕ → Bool) (v : ℕ → ℕ) (a t : ℕ) → a ≤ t → p t ≡ true → total p v a + v t ≤ total p v (t + 1)
total_more p v a t le e = let h = total_mono p v a t le in let n = total_next p v t e in omega (arith, h, n)

sums : {A : Type 0} (F : A → ℕ) (h : ℕ → A) (p : ℕ → Bool) (a n : ℕ) → sum_of F (map h (filter p (range_with_len a n))) + total p (λ k. F (h k)) a ≡ total p (λ k. F (h k)) (a + n)
unfolding total
sums F h p a zero = let e : a + 0 ≡ a = omega arith in rw e (omega arith)
sums F h p a (suc n) =
    let up : a + 1 ≡ suc a = omega arith in
    let far : a + suc n ≡ a + 1 + n = omega arith in
    let rest = sums F h p (a + 1) n in
    let next : total p (λ k. F (h k)) (a + 1) ≡ total p (λ k. F (h k)) a + cond (p a) (F (h a)) 0 = rw up refl in
    by (p a) refl (rw far (sym rest ∙ ap (λ (x : ℕ). sum_of F (map h (filter p (range_with_len (a + 1) n))) + x) next))
  where
    by : (b : Bool) → p a ≡ b → total p (λ k. F (h k)) (a + suc n) ≡ sum_of F (map h (filter p (range_with_len (a + 1) n))) + (total p (λ k. F (h k)) a + cond b (F (h a)) 0)
        → sum_of F (map h (cond b (a ∷ filter p (range_with_len (a + 1) n)) (filter p (range_with_len (a + 1) n)))) + total p (λ k. F (h k)) a ≡ total p (λ k. F (h k)) (a + suc n)
    by true e r = omega (arith, r)
    by false e r = omega (arith, r)

-- what the trials of tiles behind a filling come to, for the tiles below k
abbrev pub tried : List Tile → Window → ℕ → List ℕ → ℕ → ℕ
tried ts w n f k = total (may_follow ts w f) (λ t. trials_from ts w n (f ++ t ∷ [])) k

tried_all : (ts : List Tile) (w : Window) (n : ℕ) (f : List ℕ) → trials_from ts w (suc n) f ≡ 1 + tried ts w n f (length ts)
tried_all ts w n f =
    let s = sums (trials_from ts w n) (λ t. f ++ t ∷ []) (may_follow ts w f) 0 (length ts) in
    let z = total_none (may_follow ts w f) (λ t. trials_from ts w n (f ++ t ∷ [])) in
    let e : 0 + length ts ≡ length ts = omega arith in
    let s' : sum_of (trials_from ts w n) (extensions ts w f) + total (may_follow ts w f) (λ t. trials_from ts w n (f ++ t ∷ [])) 0 ≡ tried ts w n f (length ts) = s ∙ ap (tried ts w n f) e in
    omega (arith, s', z)

pub trials_split : (ts : List Tile) (w : Window) (f : List ℕ) (at : ℕ) → at < cells w → trials_from ts w (cells w - at) f ≡ 1 + tried ts w (cells w - (at + 1)) f (length ts)
trials_split ts w f at lt = let e : cells w - at ≡ suc (cells w - (at + 1)) = omega arith in rw e (tried_all ts w (cells w - (at + 1)) f)

pub trials_some : (ts : List Tile) (w : Window) (n : ℕ) (f : List ℕ) → 0 < trials_from ts w n f
trials_some ts w zero f = omega arith
trials_some ts w (suc n) f = omega arith

-- ---- first parts of fillings

take_next : (g : List ℕ) (i : ℕ) → i < length g → take (i + 1) g ≡ take i g ++ get_or g i 0 ∷ []
take_next [] i lt = absurd (omega arith)
take_next (x ∷ g) zero lt = refl
take_next (x ∷ g) (suc i) lt = let e : suc i + 1 ≡ suc (i + 1) = omega arith in rw e (ap (λ (l : List ℕ). x ∷ l) (take_next g i (omega arith)))

-- lists that agree up to a place agree there
pub last_same : (f g : List ℕ) (i : ℕ) → take (i + 1) f ≡ take (i + 1) g → get_or f i 0 ≡ get_or g i 0
last_same f g i e = sym (get_or-take (i + 1) f i 0 (omega arith)) ∙ ap (λ (l : List ℕ). get_or l i 0) e ∙ get_or-take (i + 1) g i 0 (omega arith)

-- lists that agree up to a place agree before it
pub front_same : (f g : List ℕ) (i : ℕ) → take (i + 1) f ≡ take (i + 1) g → take i f ≡ take i g
front_same f g i e = sym (take-take i (i + 1) f (omega arith)) ∙ ap (take i) e ∙ take-take i (i + 1) g (omega arith)

pub longer_same : (f g : List ℕ) (i t : ℕ) → i < length f → i < length g → take i g ≡ take i f → get_or g i 0 ≡ t → take (i + 1) g ≡ take (i + 1) (set f i t)
longer_same f g i t lf lg e h = take_next g i lg ∙ ap (λ (l : List ℕ). l ++ get_or g i 0 ∷ []) e ∙ ap (λ (x : ℕ). take i f ++ x ∷ []) h ∙ sym (take_more_set f i t lf)

prefix : (ts : List Tile) (w : Window) (n i : ℕ) (g : List ℕ) → i ≤ n → IsFilling ts w n g → IsFilling ts w i (take i g)
prefix ts w n i g le p = record {
  size = length-take-le i g (omega (arith, p.size));
  tiles = λ k lk. rw (get_or-take i g k 0 lk) (p.tiles k (omega arith));
  right = λ x y lx lk. rw (get_or-take i g (y * w.width + x) 0 (omega arith), get_or-take i g (y * w.width + suc x) 0 lk) (p.right x y lx (omega arith));
  above = λ x y lx lk. rw (get_or-take i g (y * w.width + x) 0 (omega arith), get_or-take i g (suc y * w.width + x) 0 lk) (p.above x y lx (omega arith));
  first = λ lk. rw (get_or-take i g w.first 0 lk) (p.first (omega arith));
  second = λ lk. rw (get_or-take i g w.second 0 lk) (p.second (omega arith));
}

-- a whole filling goes on with a tile that may follow its first part
pub next_of : (ts : List Tile) (w : Window) (g f : List ℕ) (at : ℕ) → 1 ≤ w.width → at < cells w → IsFilling ts w (cells w) g → take at g ≡ f → IsNext ts w f (get_or g at 0)
next_of ts w g f at wide lt p e =
    let q : IsFilling ts w (at + 1) (take (at + 1) g) = prefix ts w (cells w) (at + 1) g (omega arith) p in
    let n : length f ≡ at = rw (← e) (length-take-le at g (omega (arith, p.size))) in
    let s : take (at + 1) g ≡ f ++ get_or g at 0 ∷ [] = take_next g at (omega (arith, p.size)) ∙ ap (λ (l : List ℕ). l ++ get_or g at 0 ∷ []) e in
    let i : at + 1 ≡ suc (length f) = omega (arith, n) in
    let r : IsFilling ts w (suc (length f)) (f ++ get_or g at 0 ∷ []) = subst (λ (l : List ℕ). IsFilling ts w (suc (length f)) l) s (subst (λ (k : ℕ). IsFilling ts w k (take (at + 1) g)) i q) in
    record {
      low = last_below ts w f (get_or g at 0) r;
      follow = following ts w f (get_or g at 0) (last_follows ts w f (get_or g at 0) wide r);
    }

-- the filling with one tile more
pub begun_next : (ts : List Tile) (w : Window) (filled : List ℕ) (f : List ℕ) (at t : ℕ) → at < length filled → take at filled ≡ f → IsFilling ts w at f → IsNext ts w f t → IsFilling ts w (at + 1) (take (at + 1) (set filled at t))
begun_next ts w filled f at t lt e p n =
    let size : length f ≡ at = p.size in
    let i : at + 1 ≡ suc (length f) = omega arith in
    let p' : IsFilling ts w (length f) f = subst (λ (k : ℕ). IsFilling ts w k f) (sym size) p in
    let g = grown ts w f t p' n.low (follows ts w f t n.follow) in
    let s : f ++ t ∷ [] ≡ take (at + 1) (set filled at t) = ap (λ (l : List ℕ). l ++ t ∷ []) (sym e) ∙ sym (take_more_set filled at t lt) in
    subst (λ (l : List ℕ). IsFilling ts w (at + 1) l) s (subst (λ (k : ℕ). IsFilling ts w k (f ++ t ∷ [])) (sym i) g)

pub trials_next : (ts : List Tile) (w : Window) (filled f : List ℕ) (at t n : ℕ) → at < length filled → take at filled ≡ f → trials_from ts w n (take (at + 1) (set filled at t)) ≡ trials_from ts w n (f ++ t ∷ [])
trials_next ts w filled f at t n lt e = ap (trials_from ts w n) (take_more_set filled at t lt ∙ ap (λ (l : List ℕ). l ++ t ∷ []) e)

-- ---- the tiles that are tried

pub is_next : (ts : List Tile) (w : Window) (f m fit mask : List ℕ) (t : ℕ) → ((t : ℕ) → mask_bit fit t ≡ min (mask_bit m t) (mask_bit mask t))
    → ((t : ℕ) → mask_bit m t ≡ bit (nat_lt t (length ts) && may_follow ts w f t)) → mask_bit fit t ≡ 1 → IsNext ts w f t
is_next ts w f m fit mask t both exact h =
    let one : bit (nat_lt t (length ts) && may_follow ts w f t) ≡ 1 = sym (exact t) ∙ some (mask_bit m t) (mask_bit mask t) (few (nat_lt t (length ts) && may_follow ts w f t) (exact t)) (sym (both t) ∙ h) in
    let parts = and_parts (nat_lt t (length ts)) (may_follow ts w f t) (bit_true (nat_lt t (length ts) && may_follow ts w f t) one) in
    record { low = ltb-true t (length ts) parts.0; follow = parts.1 }
  where
    few : {x : ℕ} (b : Bool) → x ≡ bit b → x ≤ 1
    few true e = omega arith
    few false e = omega arith

    some : (x y : ℕ) → x ≤ 1 → min x y ≡ 1 → x ≡ 1
    some x y le e = omega arith

pub in_fit : (ts : List Tile) (w : Window) (f m fit mask : List ℕ) (t : ℕ) → ((t : ℕ) → mask_bit fit t ≡ min (mask_bit m t) (mask_bit mask t))
    → ((t : ℕ) → mask_bit m t ≡ bit (nat_lt t (length ts) && may_follow ts w f t)) → IsNext ts w f t → mask_bit mask t ≡ 1 → mask_bit fit t ≡ 1
in_fit ts w f m fit mask t both exact n h =
    let one : mask_bit m t ≡ 1 = exact t ∙ rw (lt-ltb t (length ts) n.low, n.follow) refl in
    both t ∙ rw (one, h) refl

pub followed : (ts : List Tile) (w : Window) (f : List ℕ) (at t l b p q x y z : ℕ) → length f ≡ at → l ≡ bit (nat_lt t (length ts) && fits_left ts w f t) → b ≡ bit (nat_lt t (length ts) && fits_below ts w f t)
    → p ≡ bit (nat_lt t (length ts) && implies (nat_eq at w.first) (nat_eq t w.a)) → q ≡ bit (nat_lt t (length ts) && implies (nat_eq at w.second) (nat_eq t w.b))
    → x ≡ min l b → y ≡ min x p → z ≡ min y q → z ≡ bit (nat_lt t (length ts) && may_follow ts w f t)
followed ts w f at t l b p q x y z n el eb ep eq ex ey ez =
    let e : z ≡ min (min (min l b) p) q = ez ∙ ap (λ (k : ℕ). min k q) (ey ∙ ap (λ (k : ℕ). min k p) ex) in
    let ep' : p ≡ bit (nat_lt t (length ts) && implies (nat_eq (length f) w.first) (nat_eq t w.a)) = ep ∙ ap (λ (k : ℕ). bit (nat_lt t (length ts) && implies (nat_eq k w.first) (nat_eq t w.a))) (sym n) in
    let eq' : q ≡ bit (nat_lt t (length ts) && implies (nat_eq (length f) w.second) (nat_eq t w.b)) = eq ∙ ap (λ (k : ℕ). bit (nat_lt t (length ts) && implies (nat_eq k w.second) (nat_eq t w.b))) (sym n) in
    e ∙ ap (λ (k : ℕ). min (min (min k b) p) q) el ∙ ap (λ (k : ℕ). min (min (min (bit (nat_lt t (length ts) && fits_left ts w f t)) k) p) q) eb
    ∙ ap (λ (k : ℕ). min (min (min (bit (nat_lt t (length ts) && fits_left ts w f t)) (bit (nat_lt t (length ts) && fits_below ts w f t))) k) q) ep'
    ∙ ap (λ (k : ℕ). min (min (min (bit (nat_lt t (length ts) && fits_left ts w f t)) (bit (nat_lt t (length ts) && fits_below ts w f t))) (bit (nat_lt t (length ts) && implies (nat_eq (length f) w.first) (nat_eq t w.a)))) k) eq'
    ∙ four_bits (nat_lt t (length ts)) (fits_left ts w f t) (fits_below ts w f t) (implies (nat_eq (length f) w.first) (nat_eq t w.a)) (implies (nat_eq (length f) w.second) (nat_eq t w.b))

pub tiles_front : (ts : List Tile) (w : Window) (filled : List ℕ) (at k : ℕ) → IsFilling ts w at (take at filled) → k < at → get_or filled k 0 < length ts
tiles_front ts w filled at k p lk = let h = p.tiles k lk in rw (get_or-take at filled k 0 lk) at h

-- ---- what is found

-- windows that begin with f and go on below a tile; none has a tile that is passed over
pub passed_over : (ts : List Tile) (w : Window) (f m fit mask : List ℕ) (masks : List (List ℕ)) (g : List ℕ) (at from t : ℕ) → 1 ≤ w.width → at < cells w
    → ((t : ℕ) → mask_bit fit t ≡ min (mask_bit m t) (mask_bit (mask_at masks at) t)) → ((t : ℕ) → mask_bit m t ≡ bit (nat_lt t (length ts) && may_follow ts w f t))
    → IsFilling ts w (cells w) g → take at g ≡ f → Stand masks g → (get_or g at 0 < from → ⊥) → ((i : ℕ) → from ≤ i → i < t → mask_bit fit i ≡ 0) → get_or g at 0 < t → ⊥
passed_over ts w f m fit mask masks g at from t wide lt both exact p e s before zeros below = elim (cases_lt (get_or g at 0) from) [
  | inl l ↦ before l
  | inr ge ↦
      let n = next_of ts w g f at wide lt p e in
      let has = in_fit ts w f m fit (mask_at masks at) (get_or g at 0) both exact n (s at (omega (arith, p.size))) in
      let not' = zeros (get_or g at 0) ge below in
      absurd (omega (arith, has, not'))
]

pub none_at_all : (ts : List Tile) (w : Window) (f m fit : List ℕ) (masks : List (List ℕ)) (g : List ℕ) (at from : ℕ) → 1 ≤ w.width → at < cells w
    → ((t : ℕ) → mask_bit fit t ≡ min (mask_bit m t) (mask_bit (mask_at masks at) t)) → ((t : ℕ) → mask_bit m t ≡ bit (nat_lt t (length ts) && may_follow ts w f t))
    → IsFilling ts w (cells w) g → take at g ≡ f → Stand masks g → (get_or g at 0 < from → ⊥) → ((i : ℕ) → from ≤ i → mask_bit fit i ≡ 0) → ⊥
none_at_all ts w f m fit masks g at from wide lt both exact p e s before zeros =
    passed_over ts w f m fit (mask_at masks at) masks g at from (get_or g at 0 + 1) wide lt both exact p e s before (λ i le below. zeros i le) (omega arith)

-- a window that begins with f, against the first that was found with tile t next
pub first_found : (f g found : List ℕ) (at t : ℕ) → take at g ≡ f → take at found ≡ f → get_or found at 0 ≡ t → (get_or g at 0 < t → ⊥) → (get_or g at 0 ≡ t → (found ≡ g) ⊎ IsBefore found g) → (found ≡ g) ⊎ IsBefore found g
first_found f g found at t eg ef et below same = elim (cases_lt (get_or g at 0) t) [
  | inl l ↦ absurd (below l)
  | inr ge ↦ elim (cases_eq (get_or g at 0) t) [
    | inl e ↦ same e
    | inr n ↦ inr (at, ef ∙ sym eg, more (get_or g at 0) t (get_or found at 0) et ge n)
  ]
]
  where
    more : (x t y : ℕ) → y ≡ t → t ≤ x → (x ≡ t → ⊥) → y < x
    more x t y e le n = elim (cases_lt t x) [ inl l ↦ omega arith | inr h ↦ absurd (n (omega arith)) ]

-- a tile alone in a cell
pub placed_stand : (g : List ℕ) (old new : List (List ℕ)) (at t : ℕ) → ((k : ℕ) → k ≢ at → mask_at new k ≡ mask_at old k) → mask_bit (mask_at new at) t ≡ 1 → get_or g at 0 ≡ t → Stand old g → Stand new g
placed_stand g old new at t others alone e s k lk = elim (cases_eq k at) [
  | inl same ↦ rw (same, e) alone
  | inr other ↦ rw (others k other) (s k lk)
]

-- ---- what is paid

pub child : (ts : List Tile) (w : Window) (filled filled' f : List ℕ) (at t n : ℕ) → filled' ≡ set filled at t → at < length filled → take at filled ≡ f → trials_from ts w n (take (at + 1) filled') ≡ trials_from ts w n (f ++ t ∷ [])
child ts w filled filled' f at t n e lt same = ap (λ (l : List ℕ). trials_from ts w n (take (at + 1) l)) e ∙ trials_next ts w filled f at t n lt same

pub paid_at_end : (ts : List Tile) (w : Window) (f : List ℕ) (at from budget left : ℕ) → at < cells w → from ≤ length ts → budget ≤ left + 1 + tried ts w (cells w - (at + 1)) f from
    → budget ≤ left + trials_from ts w (cells w - at) f
paid_at_end ts w f at from budget left lt le paid =
    let s = trials_split ts w f at lt in
    let m = total_mono (may_follow ts w f) (λ t. trials_from ts w (cells w - (at + 1)) (f ++ t ∷ [])) from (length ts) le in
    omega (arith, s, m, paid)

pub paid_on : (ts : List Tile) (w : Window) (f : List ℕ) (at from t budget left rest more : ℕ) → from ≤ t → IsNext ts w f t → more ≡ trials_from ts w (cells w - (at + 1)) (f ++ t ∷ [])
    → budget ≤ left + 1 + tried ts w (cells w - (at + 1)) f from → left ≤ rest + more → budget ≤ rest + 1 + tried ts w (cells w - (at + 1)) f (t + 1)
paid_on ts w f at from t budget left rest more le n e paid h =
    let m = total_more (may_follow ts w f) (λ t. trials_from ts w (cells w - (at + 1)) (f ++ t ∷ [])) from t le n.follow in
    omega (arith, m, e, paid, h)

pub spent_within : (ts : List Tile) (w : Window) (f : List ℕ) (at from t budget left more : ℕ) → at < cells w → from ≤ t → IsNext ts w f t → more ≡ trials_from ts w (cells w - (at + 1)) (f ++ t ∷ [])
    → budget ≤ left + 1 + tried ts w (cells w - (at + 1)) f from → left < more → budget < trials_from ts w (cells w - at) f
spent_within ts w f at from t budget left more lt le n e paid h =
    let s = trials_split ts w f at lt in
    let low : t + 1 ≤ length ts = let l = n.low in omega arith in
    let m = total_more (may_follow ts w f) (λ t. trials_from ts w (cells w - (at + 1)) (f ++ t ∷ [])) from t le n.follow in
    let k = total_mono (may_follow ts w f) (λ t. trials_from ts w (cells w - (at + 1)) (f ++ t ∷ [])) (t + 1) (length ts) low in
    omega (arith, s, m, k, e, paid, h)

-- a window that begins with f and goes on with a tile goes on as what is filled
pub goes_on : (g filled filled' f : List ℕ) (at t : ℕ) → filled' ≡ set filled at t → at < length filled → at < length g → take at filled ≡ f → take at g ≡ f → get_or g at 0 ≡ t → take (at + 1) g ≡ take (at + 1) filled'
goes_on g filled filled' f at t e lf lg same h q = longer_same filled g at t lf lg (h ∙ sym same) q ∙ ap (take (at + 1)) (sym e)

pub front_kept : (new filled filled' f : List ℕ) (at t : ℕ) → filled' ≡ set filled at t → take at filled ≡ f → take (at + 1) new ≡ take (at + 1) filled' → take at new ≡ f
front_kept new filled filled' f at t e same h = front_same new filled' at h ∙ ap (take at) e ∙ take-set filled at t ∙ same

pub tile_kept : (new filled filled' : List ℕ) (at t : ℕ) → filled' ≡ set filled at t → at < length filled → take (at + 1) new ≡ take (at + 1) filled' → get_or new at 0 ≡ t
tile_kept new filled filled' at t e lt h = last_same new filled' at h ∙ ap (λ (l : List ℕ). get_or l at 0) e ∙ get_or-set_same filled at t 0 lt

pub less_of : (x t : ℕ) → x < t + 1 → (x ≡ t → ⊥) → x < t
less_of x t lt n = elim (cases_lt x t) [ inl l ↦ l | inr g ↦ absurd (n (omega arith)) ]
