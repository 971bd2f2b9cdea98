-- Refutations, and the pairs that they name.
use Rattle.std.proofs.Common.{arith, ◌≡◌, ◌≤◌, ◌<◌, ◌+◌, ℕ, zero, suc, List, [], ◌∷◌, length, slice_get, Option, None, Some, Bool, true, false, ◌&&◌, ◌||◌, not, nat_eq, nat_le, nat_lt, refl, sym, ◌∙◌, ap, subst, inl, inr}
use Rattle.std.proofs.lemmas.Bool.{and_parts}
use Rattle.std.specs.List.{find}
use Rattle.wt_grid.specs.Axes.{axis_number}
use Rattle.wt_grid.specs.declared.axis.Axis.TheVariants.{One, Two}
use Rattle.wt_grid.specs.declared.axis.Axis.{Axis}
use Rattle.std.proofs.lemmas.Bool.Decides.{nat_tests}
use Rattle.wt_tile.specs.Matching.{matches}
use Rattle.wt_refute.specs.declared.tree.Refuted.{Refuted}
use Rattle.wt_grid.specs.Order.{leads, in_order, AllAbove, IsSplit}
use Rattle.wt_grid.proofs.First.{count_none}
use Rattle.wt_step.specs.declared.raw.RawStep.{RawStep}
use Rattle.wt_step.specs.Words.{allows, is_barred, entry_at, times, entry_fits}
use Rattle.wt_step.specs.Faults.{refuted_fit, is_named_well}
use Rattle.wt_refute.specs.Entries.{is_entry, entry_before, entries_follow}
use Rattle.wt_refute.proofs.Entries.{entries_split, ordered}
use Rattle.wt_grid.specs.Pairs.{is_this_pair}
use Rattle.wt_step.proofs.Faultless.{is_pair_same}

-- what a look-up finds
pub find_some : {A : Type 0} (p : A → Bool) (xs : List A) (x : A) → find p xs ≡ Some x → (i : ℕ) × (slice_get xs i ≡ Some x) × (p x ≡ true)
find_some p [] x e = absurd (cc e)
find_some p (y ∷ xs) x e = go (p y) refl (find_some p xs x)
  where
    go : (t : Bool) → p y ≡ t → (find p xs ≡ Some x → (i : ℕ) × (slice_get xs i ≡ Some x) × (p x ≡ true)) → (i : ℕ) × (slice_get (y ∷ xs) i ≡ Some x) × (p x ≡ true)
    go true t r = let f : Some y ≡ Some x = rw t at e in let k : y ≡ x = cc f in (0, f, ap p (sym k) ∙ t)
    go false t r = let q = r (rw t at e) in (suc q.0, q.1, q.2)

pub fits_entry : (n m : ℕ) (rs : List Refuted) (i : ℕ) (k : Refuted) → in_order (entry_fits n m) entries_follow rs ≡ true → slice_get rs i ≡ Some k → (k.radius ≤ n) × (k.a < m) × (k.b < m)
fits_entry n m [] i k o e = absurd (cc e)
fits_entry n m (r ∷ rs) zero k o e =
    let f : Some r ≡ Some k = e in
    let same : r ≡ k = cc in
    let b = and_parts (entry_fits n m r) (leads entries_follow r rs) (and_parts (entry_fits n m r && leads entries_follow r rs) (in_order (entry_fits n m) entries_follow rs) o).0 in
    let P : Refuted → Type 0 = λ x. entry_fits n m x ≡ true in
    let c = and_parts (nat_le k.radius n && nat_lt k.a m) (nat_lt k.b m) (subst P same b.0) in
    let d = and_parts (nat_le k.radius n) (nat_lt k.a m) c.0 in
    (grind (arith, nat_tests, d.0), grind (arith, nat_tests, d.1), grind (arith, nat_tests, c.1))
fits_entry n m (r ∷ rs) (suc i) k o e = fits_entry n m rs i k (and_parts (entry_fits n m r && leads entries_follow r rs) (in_order (entry_fits n m) entries_follow rs) o).1 e

pub entry_itself : (k : Refuted) → is_entry k.radius k.axis k.a k.b k ≡ true
entry_itself k =
    let e : nat_eq k.radius k.radius ≡ true = grind (arith, nat_tests) in
    let f : nat_eq (axis_number k.axis) (axis_number k.axis) ≡ true = grind (arith, nat_tests) in
    let g : nat_eq k.a k.a ≡ true = grind (arith, nat_tests) in
    let h : nat_eq k.b k.b ≡ true = grind (arith, nat_tests) in rw (e, f, g, h) refl

pub above_at : {A : Type 0} (low hit : A → Bool) (xs : List A) (i : ℕ) (k : A) → AllAbove low hit xs → slice_get xs i ≡ Some k → hit k ≡ false
above_at low hit [] i k h e = absurd (cc e)
above_at low hit (x ∷ xs) zero k h e = let f : Some x ≡ Some k = e in let same : x ≡ k = cc in ap hit (sym same) ∙ h.1
above_at low hit (x ∷ xs) (suc i) k h e = above_at low hit xs i k h.2 e

found : {A : Type 0} (low hit : A → Bool) (xs : List A) (i : ℕ) (k : A) → IsSplit low hit xs → slice_get xs i ≡ Some k → hit k ≡ true → find hit xs ≡ Some k
found low hit [] i k s e h = absurd (cc e)
found low hit (x ∷ xs) zero k s e h = let f : Some x ≡ Some k = e in let same : x ≡ k = cc in let t : hit x ≡ true = ap hit same ∙ h in rw t f
found low hit (x ∷ xs) (suc i) k s e h = elim s [
  | inl l ↦ rw l.1 (found low hit xs i k l.2 e h)
  | inr r ↦ absurd (let n = above_at low hit xs i k r.1 e in cc (n, h))
]

axis_same : (x y : Axis) → nat_eq (axis_number x) (axis_number y) ≡ true → x ≡ y
axis_same One One e = refl
axis_same One Two e = absurd (cc e)
axis_same Two One e = absurd (cc e)
axis_same Two Two e = refl

-- what an entry of a pair is of
pub entry_of : (radius : ℕ) (axis : Axis) (a b : ℕ) (k : Refuted) → is_entry radius axis a b k ≡ true → (k.radius ≡ radius) × (k.axis ≡ axis) × (k.a ≡ a) × (k.b ≡ b)
entry_of radius axis a b k e =
    let p = and_parts (nat_eq k.radius radius) (nat_eq (axis_number k.axis) (axis_number axis) && is_this_pair a b (k.a, k.b)) e in
    let q = and_parts (nat_eq (axis_number k.axis) (axis_number axis)) (is_this_pair a b (k.a, k.b)) p.1 in
    let y = is_pair_same a b (k.a, k.b) q.1 in
    (grind (arith, nat_tests, p.0), axis_same k.axis axis q.0, y.0, y.1)

-- a refutation is found by its pair and its radius
pub known_entry : (s : RawStep) → refuted_fit s ≡ true → (i : ℕ) (k : Refuted) → slice_get s.refuted i ≡ Some k → entry_at s k.axis k.a k.b k.radius ≡ Some k
known_entry s fit i k e = found (entry_before k.radius k.axis k.a k.b) (is_entry k.radius k.axis k.a k.b) s.refuted i k
    (entries_split k.radius k.axis k.a k.b s.refuted (ordered (entry_fits s.radius (length s.fine.tiles)) s.refuted fit)) e (entry_itself k)

-- a pair that a refutation names is barred
pub named_barred : (s : RawStep) → ((axis : Axis) (a b : ℕ) → a < length s.fine.tiles → b < length s.fine.tiles → is_named_well s axis a b ≡ true)
    → (axis : Axis) (a b r : ℕ) (k : Refuted) → a < length s.fine.tiles → b < length s.fine.tiles → r ≤ s.radius → entry_at s axis a b r ≡ Some k → is_barred s axis a b ≡ true
named_barred s named axis a b r k la lb le e = go (is_barred s axis a b) refl
  where
    go : (t : Bool) → is_barred s axis a b ≡ t → is_barred s axis a b ≡ true
    go true t = t
    go false t =
        let w = rw t at (named axis a b la lb) in
        let z = (and_parts (matches s.fine.tiles axis a b || not (allows s axis a b)) (nat_eq (times s axis a b) 0) w).1 in
        let none : times s axis a b ≡ 0 = grind (arith, nat_tests, z) in
        absurd (let n = count_none (entry_at s axis a b) 0 (s.radius + 1) r none (omega arith) (omega arith) in cc (n, e))
