-- The refutations name each pair at most once.
use Rattle.std.proofs.Common.{arith, ◌≡◌, ◌⊎◌, ◌≤◌, ◌<◌, ◌+◌, ℕ, zero, suc, List, [], ◌∷◌, length, slice_get, Option, None, Some, is_some, if◌then◌else◌, Bool, true, refl, sym, ◌∙◌, ap, inl, inr}
use Rattle.wt_grid.specs.declared.axis.Axis.{Axis}
use Rattle.std.proofs.lemmas.Bool.{cases_lt}
use Rattle.std.proofs.lemmas.Bool.Decides.{nat_tests}
use Rattle.wt_refute.specs.declared.tree.Refuted.{Refuted}
use Rattle.wt_grid.specs.First.{count_from}
use Rattle.wt_grid.specs.Order.{IsSplit}
use Rattle.wt_grid.proofs.First.{count_none}
use Rattle.wt_step.specs.declared.raw.RawStep.{RawStep}
use Rattle.wt_step.specs.Words.{entry_at, times}
use Rattle.wt_refute.specs.Entries.{is_entry, entry_before}
use Rattle.wt_step.specs.Good.{IsGoodStep}
use Rattle.wt_refute.proofs.Entries.{entries_split}
use Rattle.wt_step.proofs.Shaped.{refuted_ascend}
use Rattle.wt_step.proofs.Goodness.{shape_of}
use Rattle.wt_step.proofs.Named.{above_at, known_entry, named_barred, fits_entry, entry_itself}

-- a list that is split has at most one place with the key
pub one_place : {A : Type 0} (low hit : A → Bool) (xs : List A) (i j : ℕ) (k l : A) → IsSplit low hit xs → slice_get xs i ≡ Some k → slice_get xs j ≡ Some l → hit k ≡ true → hit l ≡ true → i ≡ j
one_place low hit [] i j k l s e f h g = absurd (cc e)
one_place low hit (x ∷ xs) zero zero k l s e f h g = refl
one_place low hit (x ∷ xs) zero (suc j) k l s e f h g =
    let e' : Some x ≡ Some k = e in
    let same : x ≡ k = cc in
    elim s [
      | inl q ↦ absurd (let n = ap hit (sym same) ∙ q.1 in cc (n, h))
      | inr q ↦ absurd (let n = above_at low hit xs j l q.1 f in cc (n, g))
    ]
one_place low hit (x ∷ xs) (suc i) zero k l s e f h g =
    let f' : Some x ≡ Some l = f in
    let same : x ≡ l = cc in
    elim s [
      | inl q ↦ absurd (let n = ap hit (sym same) ∙ q.1 in cc (n, g))
      | inr q ↦ absurd (let n = above_at low hit xs i k q.1 e in cc (n, h))
    ]
one_place low hit (x ∷ xs) (suc i) (suc j) k l s e f h g = elim s [
  | inl q ↦ ap suc (one_place low hit xs i j k l q.2 e f h g)
  | inr q ↦ absurd (let n = above_at low hit xs i k q.1 e in cc (n, h))
]

module _ {A : Type 0} (f : ℕ → Option A) where
  -- what answers is counted
  counted : (i n p : ℕ) (a : A) → i ≤ p → p < i + n → f p ≡ Some a → 1 ≤ count_from f i n
  counted i n p a lo hi e = go (cases_lt 0 (count_from f i n))
    where
      go : (0 < count_from f i n) ⊎ (count_from f i n ≤ 0) → 1 ≤ count_from f i n
      go (inl lt) = lt
      go (inr le) = absurd (let n = count_none f i n p (omega arith) lo hi in cc (n, e))

  two_counted : (i n p q : ℕ) (a b : A) → i ≤ p → p < q → q < i + n → f p ≡ Some a → f q ≡ Some b → 2 ≤ count_from f i n
  two_counted i zero p q a b lo lt hi e g = absurd (omega arith)
  two_counted i (suc n) p q a b lo lt hi e g = go (f i) refl (cases_lt i p) (λ lt'. two_counted (i + 1) n p q a b (omega arith) lt (omega arith) e g) (counted (i + 1) n q b (omega arith) (omega arith) g)
    where
      go : (o : Option A) → f i ≡ o → (i < p) ⊎ (p ≤ i) → (i < p → 2 ≤ count_from f (i + 1) n) → 1 ≤ count_from f (i + 1) n → 2 ≤ (if is_some (f i) then 1 else 0) + count_from f (i + 1) n
      go None h (inl lt') r c = let k = r lt' in rw h (omega arith)
      go None h (inr le) r c = absurd (let same : i ≡ p = omega arith in let n = ap f same ∙ e in cc (n, h))
      go (Some x) h d r c = rw h (omega arith)

module _ (s : RawStep) (g : IsGoodStep s) where
  same_radius : (axis : Axis) (a b p q : ℕ) (k l : Refuted) → times s axis a b ≡ 1 → p ≤ s.radius → q ≤ s.radius → entry_at s axis a b p ≡ Some k → entry_at s axis a b q ≡ Some l → p ≡ q
  same_radius axis a b p q k l one lp lq e f = elim (cases_lt p q) [
    | inl lt ↦ absurd (let c = two_counted (entry_at s axis a b) 0 (s.radius + 1) p q k l (omega arith) lt (omega arith) e f in omega arith)
    | inr le ↦ elim (cases_lt q p) [
      | inl lt ↦ absurd (let c = two_counted (entry_at s axis a b) 0 (s.radius + 1) q p l k (omega arith) lt (omega arith) f e in omega arith)
      | inr le' ↦ omega arith
    ]
  ]

  -- two refutations of one pair are one
  pub named_once : (i j : ℕ) (k l : Refuted) → slice_get s.refuted i ≡ Some k → slice_get s.refuted j ≡ Some l → k.axis ≡ l.axis → k.a ≡ l.a → k.b ≡ l.b → i ≡ j
  named_once i j k l e f x y z =
      let fk = fits_entry s.radius (length s.fine.tiles) s.refuted i k g.refuted_list e in
      let fl = fits_entry s.radius (length s.fine.tiles) s.refuted j l g.refuted_list f in
      let ek = known_entry s g.refuted_list i k e in
      let el = known_entry s g.refuted_list j l f in
      let barred = named_barred s g.named k.axis k.a k.b k.radius k fk.1 fk.2 fk.0 ek in
      let w = rw barred at (g.named k.axis k.a k.b fk.1 fk.2) in
      let one : times s k.axis k.a k.b ≡ 1 = grind (arith, nat_tests, w) in
      let el' : entry_at s k.axis k.a k.b l.radius ≡ Some l = rw (x, y, z) el in
      let r = same_radius k.axis k.a k.b k.radius l.radius k l one fk.0 fl.0 ek el' in
      let hl : is_entry k.radius k.axis k.a k.b l ≡ true = rw (r, x, y, z) (entry_itself l) in
      one_place (entry_before k.radius k.axis k.a k.b) (is_entry k.radius k.axis k.a k.b) s.refuted i j k l
      (entries_split k.radius k.axis k.a k.b s.refuted (refuted_ascend s (shape_of s g))) e f (entry_itself k) hl
