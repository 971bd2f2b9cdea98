-- Ascending rows between two that begin alike begin so too.
use Rattle.std.proofs.Common.{arith, ◌≡◌, ℕ, zero, suc, ◌+◌, ◌<◌, ◌≤◌, List, [], length, slice_index, true, false, refl, sym, ap, ◌∙◌, subst, inl, inr}
use Rattle.std.proofs.lemmas.Cmp.{nat_list_cmp_total}
use Rattle.std.proofs.lemmas.Bool.{cases_lt}
use Rattle.wt_tile.specs.declared.tile.Tile.{Tile}
use Rattle.wt_grid.specs.declared.axis.Axis.TheVariants.{Two}
use Rattle.wt_tile.specs.Matching.{matches}
use Rattle.wt_strip.specs.declared.layers.Layers.{Layers}
use Rattle.wt_strip.specs.Layers.{IsUnder}
use Rattle.wt_strip.specs.Listed.{rows_in, row_at, IsAscending}
use Rattle.wt_strip.specs.Walks.{AreAlike}
use Rattle.wt_strip.specs.Exact.{is_shaped, AreExact}
use Rattle.wt_strip.proofs.Cells.{Before, not_itself, later, row_long}
use Rattle.wt_strip.proofs.Gathers.{before_by, none_yet}
use Rattle.wt_strip.proofs.Faults.{below_at, sized}

module _ (w : ℕ) (cells : List ℕ) (wide : 1 ≤ w) (ascending : IsAscending w cells (rows_in w cells)) where
  not_turned : (p q : List ℕ) → Before p q → Before q p → ⊥
  not_turned p q a b = not_itself p (nat_list_cmp_total.trans p q p a b)

  -- one column more
  column : (n i s j : ℕ) → suc n ≤ w → i < s → s < j → j < rows_in w cells → AreAlike n (row_at w cells s) (row_at w cells i) → AreAlike n (row_at w cells j) (row_at w cells s)
      → slice_index (row_at w cells i) n ≡ slice_index (row_at w cells j) n → slice_index (row_at w cells s) n ≡ slice_index (row_at w cells i) n
  column n i s j le is sj jr ai aj e =
      let lp = row_long w cells i wide (omega arith) in
      let lq = row_long w cells s wide (omega arith) in
      let lr = row_long w cells j wide jr in
      elim (cases_lt (slice_index (row_at w cells s) n) (slice_index (row_at w cells i) n)) [
        | inl l ↦ absurd (not_turned (row_at w cells i) (row_at w cells s) (later w cells (rows_in w cells) ascending i s is (omega arith))
            (before_by n (row_at w cells s) (row_at w cells i) (omega (arith, lq, le)) (omega (arith, lp, le)) ai l))
        | inr ge ↦ elim (cases_lt (slice_index (row_at w cells i) n) (slice_index (row_at w cells s) n)) [
          | inl l ↦ absurd (not_turned (row_at w cells s) (row_at w cells j) (later w cells (rows_in w cells) ascending s j sj jr)
              (before_by n (row_at w cells j) (row_at w cells s) (omega (arith, lr, le)) (omega (arith, lq, le)) aj (omega (arith, l, e))))
          | inr low ↦ omega (arith, ge, low)
        ]
      ]

  between : (n i s j : ℕ) → n ≤ w → i < s → s < j → j < rows_in w cells → AreAlike n (row_at w cells i) (row_at w cells j) → AreAlike n (row_at w cells s) (row_at w cells i)
  between zero i s j le is sj jr alike = λ k lk. absurd (omega (arith, lk))
  between (suc n) i s j le is sj jr alike =
      let before = between n i s j (omega arith) is sj jr (λ k lk. alike k (omega arith)) in
      let here = column n i s j le is sj jr before (λ k lk. sym (alike k (omega arith)) ∙ sym (before k lk)) (alike n (omega arith)) in
      λ k lk. elim (cases_lt k n) [
        | inl l ↦ before k l
        | inr ge ↦ let e : n ≡ k = omega arith in subst (λ (m : ℕ). slice_index (row_at w cells s) m ≡ slice_index (row_at w cells i) m) e here
      ]

  -- all rows up to one that begins as row i does
  pub reach : (n i j s : ℕ) → n ≤ w → j < rows_in w cells → AreAlike n (row_at w cells j) (row_at w cells i) → i ≤ s → s < j + 1 → AreAlike n (row_at w cells s) (row_at w cells i)
  reach n i j s le jr alike ge lt = elim (cases_lt i s) [
    | inl more ↦ elim (cases_lt s j) [
      | inl less ↦ between n i s j le more less jr (λ k lk. sym (alike k lk))
      | inr last ↦ let e : j ≡ s = omega arith in subst (λ (m : ℕ). AreAlike n (row_at w cells m) (row_at w cells i)) e alike
    ]
    | inr same ↦ let e : i ≡ s = omega arith in subst (λ (m : ℕ). AreAlike n (row_at w cells m) (row_at w cells i)) e (λ k lk. refl)
  ]

-- row i alone
pub alone : (w : ℕ) (cells : List ℕ) (n i s : ℕ) → i ≤ s → s < i + 1 → AreAlike n (row_at w cells s) (row_at w cells i)
alone w cells n i s ge lt = let e : i ≡ s = omega arith in subst (λ (m : ℕ). AreAlike n (row_at w cells m) (row_at w cells i)) e (λ k lk. refl)

-- a row that begins as one does that can't lie below
pub not_under : (ts : List Tile) (w : ℕ) (below : List ℕ) (s r x : ℕ) (q : List ℕ) {p : List ℕ} → x < w → p ≡ row_at w below r → matches ts Two (slice_index p x) (slice_index q x) ≡ false
    → AreAlike (x + 1) (row_at w below s) (row_at w below r) → IsUnder ts w (row_at w below s) q → ⊥
not_under ts w below s r x q {p} lt e clash alike under =
    let here : slice_index (row_at w below s) x ≡ slice_index p x = alike x (omega arith) ∙ ap (λ (u : List ℕ). slice_index u x) (sym e) in
    let both : true ≡ false = sym (under x lt) ∙ ap (λ (t : ℕ). matches ts Two t (slice_index q x)) here ∙ clash in
    absurd cc

-- the rows below ascend
pub ascending_below : (ts : List Tile) (l : Layers) (n : ℕ) (below : List ℕ) → is_shaped (length ts) l ≡ true → AreExact ts l n → below ≡ below_at l n → IsAscending l.width below (rows_in l.width below)
ascending_below ts l zero below shaped exact e = λ r lt.
    let none : rows_in l.width below ≤ 0 = subst (λ (cs : List ℕ). rows_in l.width cs ≤ 0) (sym e) (none_yet ts [] l.width (sized (length ts) l shaped).wide) in
    absurd (omega (arith, none, lt))
ascending_below ts l (suc n) below shaped exact e = subst (λ (cs : List ℕ). IsAscending l.width cs (rows_in l.width cs)) (sym e) ((exact n (omega arith)).ascending)
