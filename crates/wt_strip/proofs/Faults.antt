-- Exact layers and first faults.
use Rattle.std.proofs.Common.{arith, ◌≡◌, ℕ, zero, suc, ◌+◌, ◌-◌, ◌<◌, ◌≤◌, List, [], ◌∷◌, length, slice_index_or, Bool, true, false, nat_le, nat_eq, if◌then◌else◌, refl, sym, ap, ◌∙◌, subst, inl, inr}
use Rattle.std.proofs.lemmas.Bool.{and_parts, cases_lt, leb-true}
use Rattle.std.proofs.lemmas.Bool.Decides.{Decides-eqb}
use Rattle.wt_tile.specs.declared.tile.Tile.{Tile}
use Rattle.wt_grid.specs.Grid.{Grid}
use Rattle.wt_grid.specs.Parts.{part}
use Rattle.std.specs.List.{list_all}
use Rattle.wt_grid.specs.Shifts.{fill}
use Rattle.wt_pattern.specs.Patterns.{IsPattern}
use Rattle.wt_strip.specs.declared.layers.Layers.{Layers}
use Rattle.wt_strip.specs.declared.layers.StripFault.{StripFault}
use Rattle.wt_strip.specs.declared.layers.StripFault.TheVariants.{Shape, Order, Row, Missing}
use Rattle.wt_strip.specs.Layers.{IsUnder, IsInLayer}
use Rattle.wt_strip.specs.Listed.{rows_in, row_at, is_before, IsAscending, IsListed, IsListOf, IsUpon}
use Rattle.wt_strip.specs.Exact.{are_rows, ends_empty, is_shaped, layer_at, AreExact, IsExact, IsDrop, IsLayerFault, IsStripFault}
use Rattle.wt_strip.proofs.Cells.{row_end}
use Rattle.wt_strip.proofs.Towers.{row_of, upon, pattern_part}

both : (b : Bool) → b ≡ true → b ≡ false → ⊥
both true p q = absurd cc
both false p q = absurd cc

-- what the shape says of sizes
pub record IsSized (n : ℕ) (l : Layers) : Type 0 where
  pub wide : 1 ≤ l.width
  pub narrow : l.width ≤ 64
  pub some : 1 ≤ length l.layers
  pub few : length l.layers ≤ 64
  pub layers : list_all (are_rows n l.width) l.layers ≡ true
  pub last : ends_empty l.layers ≡ true

pub sized : (n : ℕ) (l : Layers) → is_shaped n l ≡ true → IsSized n l
sized n l e =
    let g = and_parts _ (ends_empty l.layers) e in
    let f = and_parts _ (nat_le (fill (rows_in l.width) l.layers) 65536) g.0 in
    let d = and_parts _ (list_all (are_rows n l.width) l.layers) f.0 in
    let c = and_parts _ (nat_le (length l.layers) 64) d.0 in
    let b = and_parts _ (nat_le 1 (length l.layers)) c.0 in
    let a = and_parts (nat_le 1 l.width) (nat_le l.width 64) b.0 in
    record { wide = leb-true _ _ a.0; narrow = leb-true _ _ a.1; some = leb-true _ _ b.1; few = leb-true _ _ c.1; layers = d.1; last = g.1 }

nil_of : (l : List ℕ) → nat_eq (length l) 0 ≡ true → l ≡ []
nil_of [] e = refl
nil_of (a ∷ as') e = let h = (Decides-eqb (length (a ∷ as')) 0).0 e in absurd (omega (arith, h))

pub last_empty : (ls : List (List ℕ)) → ends_empty ls ≡ true → slice_index_or ls (length ls - 1) [] ≡ []
last_empty [] e = refl
last_empty (l ∷ []) e = let z : length (l ∷ []) - 1 ≡ 0 = omega arith in ap (λ (k : ℕ). slice_index_or (l ∷ []) k []) z ∙ by (nat_eq (length l) 0) refl e
  where
    by : (b : Bool) → nat_eq (length l) 0 ≡ b → (if b then nat_eq 0 0 else false) ≡ true → l ≡ []
    by true p e = nil_of l p
    by false p e = absurd cc
last_empty (l ∷ m ∷ ls) e = let z : length (l ∷ m ∷ ls) - 1 ≡ suc (length (m ∷ ls) - 1) = omega arith in ap (λ (k : ℕ). slice_index_or (l ∷ m ∷ ls) k []) z ∙ by (nat_eq (length l) 0) e (last_empty (m ∷ ls))
  where
    by : (b : Bool) → (if b then nat_eq (length (m ∷ ls)) 0 else ends_empty (m ∷ ls)) ≡ true → (ends_empty (m ∷ ls) ≡ true → slice_index_or (m ∷ ls) (length (m ∷ ls) - 1) [] ≡ []) → slice_index_or (m ∷ ls) (length (m ∷ ls) - 1) [] ≡ []
    by true e r = let h = (Decides-eqb (length (m ∷ ls)) 0).0 e in absurd (omega (arith, h))
    by false e r = r e

pub none_listed : (w : ℕ) (q : List ℕ) → 1 ≤ w → IsListed w [] q → ⊥
none_listed w q wide h = let e = row_end w [] h.0 wide h.1 in absurd (omega (arith, e))

pub forbid : (ts : List Tile) (l : Layers) (g : Grid) → IsExact ts l → IsPattern ts g → l.width ≤ g.width → length l.layers ≤ g.height → ⊥
forbid ts l g e p wide high =
    let s = sized (length ts) l e.shape in
    let part_g = pattern_part ts g l.width (length l.layers) p s.wide s.some wide high in
    let some = s.some in
    let q = upon ts (part g 0 0 l.width (length l.layers)) part_g (length l.layers - 1) (omega (arith, some)) in
    let listed = (e.layers (length l.layers - 1) (omega (arith, some))).whole _ q in
    none_listed l.width _ s.wide (subst (λ cells. IsListed l.width cells (row_of (part g 0 0 l.width (length l.layers)) (length l.layers - 1))) (last_empty l.layers s.last) listed)

-- a layer that lists a set has no fault
pub no_fault : (In : List ℕ → Type 0) (w : ℕ) (cells : List ℕ) (layer : ℕ) (f : StripFault) → IsListOf In w cells → IsLayerFault In w cells layer f → ⊥
no_fault In w cells layer Shape h f = absurd f
no_fault In w cells layer (Order k r) h f =
    both (is_before (row_at w cells f.1.0) (row_at w cells r)) (subst (λ k. is_before (row_at w cells f.1.0) (row_at w cells k) ≡ true) (sym f.1.1) (h.ascending f.1.0 (let e = f.1.1 in let lt = f.1.2 in omega (arith, e, lt)))) f.1.4
no_fault In w cells layer (Row k r) h f = f.2.2 (h.right r f.2.0)
no_fault In w cells layer (Missing k) h f = f.3.2 (h.whole f.3.0 f.3.1)

-- a drop is the only one
drop_first : (w : ℕ) (cells : List ℕ) (r n : ℕ) → IsDrop w cells r → r < n → IsAscending w cells n → ⊥
drop_first w cells r n d lt a =
    both (is_before (row_at w cells d.0) (row_at w cells r)) (subst (λ k. is_before (row_at w cells d.0) (row_at w cells k) ≡ true) (sym d.1) (a d.0 (let e = d.1 in omega (arith, e)))) d.4

-- a layer has one first fault
pub one_fault : (In : List ℕ → Type 0) (w : ℕ) (cells : List ℕ) (layer : ℕ) (f g : StripFault) → IsLayerFault In w cells layer f → IsLayerFault In w cells layer g → f ≡ g
one_fault In w cells layer Shape g p q = absurd p
one_fault In w cells layer (Order k r) Shape p q = absurd q
one_fault In w cells layer (Order k r) (Order k' r') p q = elim (cases_lt r r') [
  | inl lt ↦ absurd (drop_first w cells r r' p.1 lt q.1.3)
  | inr le ↦ elim (cases_lt r' r) [
    | inl lt ↦ absurd (drop_first w cells r' r q.1 lt p.1.3)
    | inr ge ↦ let same : r ≡ r' = omega arith in let layers : k ≡ k' = p.0 ∙ sym q.0 in rw (same, layers) refl
  ]
]
one_fault In w cells layer (Order k r) (Row k' r') p q = absurd (drop_first w cells r (rows_in w cells) p.1 p.1.2 q.1)
one_fault In w cells layer (Order k r) (Missing k') p q = absurd (drop_first w cells r (rows_in w cells) p.1 p.1.2 q.1)
one_fault In w cells layer (Row k r) Shape p q = absurd q
one_fault In w cells layer (Row k r) (Order k' r') p q = absurd (drop_first w cells r' (rows_in w cells) q.1 q.1.2 p.1)
one_fault In w cells layer (Row k r) (Row k' r') p q = elim (cases_lt r r') [
  | inl lt ↦ absurd (p.2.2 (q.2.1 r lt))
  | inr le ↦ elim (cases_lt r' r) [
    | inl lt ↦ absurd (q.2.2 (p.2.1 r' lt))
    | inr ge ↦ let same : r ≡ r' = omega arith in let layers : k ≡ k' = p.0 ∙ sym q.0 in rw (same, layers) refl
  ]
]
one_fault In w cells layer (Row k r) (Missing k') p q = absurd (p.2.2 (q.2 r p.2.0))
one_fault In w cells layer (Missing k) Shape p q = absurd q
one_fault In w cells layer (Missing k) (Order k' r') p q = absurd (drop_first w cells r' (rows_in w cells) q.1 q.1.2 p.1)
one_fault In w cells layer (Missing k) (Row k' r') p q = absurd (q.2.2 (p.2 r' q.2.0))
one_fault In w cells layer (Missing k) (Missing k') p q = let layers : k ≡ k' = p.0 ∙ sym q.0 in rw layers refl

pub apart : (ts : List Tile) (l : Layers) (f : StripFault) → IsExact ts l → IsStripFault ts l f → ⊥
apart ts l f e (inl p) = both (is_shaped (length ts) l) e.shape p.1
apart ts l f e (inr p) = no_fault (IsInLayer ts l.width p.1.0) l.width (layer_at l p.1.0) (p.1.0 + 1) f (e.layers p.1.0 p.1.1) p.1.3

pub one : (ts : List Tile) (l : Layers) (f g : StripFault) → IsStripFault ts l f → IsStripFault ts l g → f ≡ g
one ts l f g (inl p) (inl q) = p.0 ∙ sym q.0
one ts l f g (inl p) (inr q) = absurd (both (is_shaped (length ts) l) q.0 p.1)
one ts l f g (inr p) (inl q) = absurd (both (is_shaped (length ts) l) p.0 q.1)
one ts l f g (inr p) (inr q) = elim (cases_lt p.1.0 q.1.0) [
  | inl lt ↦ absurd (no_fault (IsInLayer ts l.width p.1.0) l.width (layer_at l p.1.0) (p.1.0 + 1) f (q.1.2 p.1.0 lt) p.1.3)
  | inr le ↦ elim (cases_lt q.1.0 p.1.0) [
    | inl lt ↦ absurd (no_fault (IsInLayer ts l.width q.1.0) l.width (layer_at l q.1.0) (q.1.0 + 1) g (p.1.2 q.1.0 lt) q.1.3)
    | inr ge ↦
        let same : q.1.0 ≡ p.1.0 = omega arith in
        let r : IsLayerFault (IsInLayer ts l.width p.1.0) l.width (layer_at l p.1.0) (p.1.0 + 1) g =
        subst (λ (n : ℕ). IsLayerFault (IsInLayer ts l.width n) l.width (layer_at l n) (n + 1) g) same q.1.3 in
        one_fault (IsInLayer ts l.width p.1.0) l.width (layer_at l p.1.0) (p.1.0 + 1) f g p.1.3 r
  ]
]

-- ---- the rows upon listed rows are those of the next layer

pub upon_layer : (ts : List Tile) (w n : ℕ) (below q : List ℕ) → IsListOf (IsInLayer ts w n) w below → IsUpon ts w (suc n) below q → IsInLayer ts w (suc n) q
upon_layer ts w n below q h p = (p.0, (row_at w below p.1.0, h.right p.1.0 p.1.1, p.1.2))

pub layer_upon : (ts : List Tile) (w n : ℕ) (below q : List ℕ) → IsListOf (IsInLayer ts w n) w below → IsInLayer ts w (suc n) q → IsUpon ts w (suc n) below q
layer_upon ts w n below q h p =
    let r = h.whole p.1.0 p.1.1 in
    (p.0, (r.0, r.1, subst (λ k. IsUnder ts w k q) (sym r.2) p.1.2))

-- two sets with the same rows
pub record AreSame (In On : List ℕ → Type 0) : Type 0 where
  pub there : (q : List ℕ) → In q → On q
  pub back : (q : List ℕ) → On q → In q

pub lists_same : (In On : List ℕ → Type 0) (w : ℕ) (cells : List ℕ) → AreSame In On → IsListOf In w cells → IsListOf On w cells
lists_same In On w cells s h = record {
  ascending = h.ascending;
  right = λ r lt. s.there _ (h.right r lt);
  whole = λ q p. h.whole q (s.back q p);
}

pub fault_same : (In On : List ℕ → Type 0) (w : ℕ) (cells : List ℕ) (layer : ℕ) (f : StripFault) → AreSame In On → IsLayerFault In w cells layer f → IsLayerFault On w cells layer f
fault_same In On w cells layer Shape s p = absurd p
fault_same In On w cells layer (Order k r) s p = p
fault_same In On w cells layer (Row k r) s p = (p.0, p.1, (p.2.0, λ k lt. s.there _ (p.2.1 k lt), λ h. p.2.2 (s.back _ h)))
fault_same In On w cells layer (Missing k) s p = (p.0, p.1, λ r lt. s.there _ (p.2 r lt), (p.3.0, s.there _ p.3.1, p.3.2))

-- the layer before, or no cells below the first
abbrev pub below_at : Layers → ℕ → List ℕ
below_at l zero = []
below_at l (suc n) = layer_at l n

pub same_layer : (ts : List Tile) (l : Layers) (n : ℕ) (below : List ℕ) → AreExact ts l n → below ≡ below_at l n → AreSame (IsUpon ts l.width n below) (IsInLayer ts l.width n)
same_layer ts l zero below h e = record { there = λ q p. p; back = λ q p. p }
same_layer ts l (suc n) below h e = rw e (record {
  there = λ q p. upon_layer ts l.width n (layer_at l n) q (h n (omega arith)) p;
  back = λ q p. layer_upon ts l.width n (layer_at l n) q (h n (omega arith)) p;
})

pub one_more : (ts : List Tile) (l : Layers) (n : ℕ) (below : List ℕ) → AreExact ts l n → below ≡ below_at l n → IsListOf (IsUpon ts l.width n below) l.width (layer_at l n) → AreExact ts l (n + 1)
one_more ts l n below h e p = λ k lt. elim (cases_lt k n) [
  | inl less ↦ h k less
  | inr le ↦ let same : n ≡ k = omega arith in
      subst (λ (j : ℕ). IsListOf (IsInLayer ts l.width j) l.width (layer_at l j)) same (lists_same _ _ l.width (layer_at l n) (same_layer ts l n below h e) p)
]

-- ---- the check of one layer more

pub step_fault : (ts ts' : List Tile) (l : Layers) (n : ℕ) (below cells : List ℕ) (f : StripFault) → ts' ≡ ts → cells ≡ layer_at l n → below ≡ below_at l n → n < length l.layers
    → is_shaped (length ts) l ≡ true → AreExact ts l n → IsLayerFault (IsUpon ts' l.width n below) l.width cells (n + 1) f → IsStripFault ts l f
step_fault ts ts' l n below cells f e here under lt shaped exact fault =
    let at_ts : IsLayerFault (IsUpon ts l.width n below) l.width cells (n + 1) f = subst (λ us. IsLayerFault (IsUpon us l.width n below) l.width cells (n + 1) f) e fault in
    let at_cells : IsLayerFault (IsUpon ts l.width n below) l.width (layer_at l n) (n + 1) f = subst (λ cs. IsLayerFault (IsUpon ts l.width n below) l.width cs (n + 1) f) here at_ts in
    inr (shaped, (n, lt, exact, fault_same (IsUpon ts l.width n below) (IsInLayer ts l.width n) l.width (layer_at l n) (n + 1) f (same_layer ts l n below exact under) at_cells))

pub step_exact : (ts ts' : List Tile) (l : Layers) (n : ℕ) (below cells : List ℕ) → ts' ≡ ts → cells ≡ layer_at l n → below ≡ below_at l n
    → AreExact ts l n → IsListOf (IsUpon ts' l.width n below) l.width cells → AreExact ts l (n + 1)
step_exact ts ts' l n below cells e here under exact h =
    let at_ts : IsListOf (IsUpon ts l.width n below) l.width cells = subst (λ us. IsListOf (IsUpon us l.width n below) l.width cells) e h in
    one_more ts l n below exact under (subst (λ cs. IsListOf (IsUpon ts l.width n below) l.width cs) here at_ts)

pub next_below : (l : Layers) (n : ℕ) (cells : List ℕ) → cells ≡ layer_at l n → cells ≡ below_at l (n + 1)
next_below l n cells e = let s : n + 1 ≡ suc n = omega arith in e ∙ ap (below_at l) (sym s)

-- a place inside a list doesn't ask for the default
pub any_default : (ls : List (List ℕ)) (n : ℕ) (d : List ℕ) → n < length ls → slice_index_or ls n d ≡ slice_index_or ls n []
any_default [] n d lt = absurd (omega arith)
any_default (l ∷ ls) zero d lt = refl
any_default (l ∷ ls) (suc n) d lt = any_default ls n d (omega arith)
