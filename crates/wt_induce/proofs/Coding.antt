-- Lines along an orbit, and the blocks from one visit of the window to the next.
use Rattle.std.proofs.Common.{arith, ◌≡◌, ℕ, zero, suc, ◌+◌, ◌-◌, ◌<◌, ◌≤◌, List, [], ◌∷◌, true, not, Some, slice_get, refl, sym, ap, subst, ◌∙◌, ◌⊎◌, inl, inr}
use Rattle.wt_grid.specs.declared.image.Image.TheVariants.{One as Single, Two as Double}
use Rattle.wt_grid.specs.declared.image.Image.{Image}
use Rattle.std.specs.Prelude.{pos}
use Rattle.wt_golden.specs.Whole.{Whole, whole, plus, minus, is_positive}
use Rattle.wt_torus.specs.Rotation.{IsInside, step, orbit, Window, window, turns, returns, IsInZone}
use Rattle.wt_torus.proofs.Rotation.{AtReturn, first_return, orbit_on, zero_false, both}
use Rattle.wt_grid.specs.Lines.{Singles, Pairs, IsImage}
use Rattle.wt_grid.specs.Grid.{listed}

one_before : (im : List Image) (q : List ℕ) (qs : List (List ℕ)) (u : List ℕ) (ls : List (List ℕ)) → Singles im q u → IsImage im qs ls → IsImage im (q ∷ qs) (u ∷ ls)
one_before im q qs u [] s i = (s, i)
one_before im q qs u (v ∷ ls) s i = inl (s, i)

singles_listed : (im : List Image) (h : ℕ) (f g : ℕ → ℕ) → ((j : ℕ) → j < h → slice_get im (f j) ≡ Some (Single (g j))) → Singles im (listed h f) (listed h g)
singles_listed im zero f g e = tt
singles_listed im (suc h) f g e = (e 0 (omega arith), singles_listed im h (λ k. f (suc k)) (λ k. g (suc k)) (λ j lt. e (suc j) (omega arith)))

pairs_listed : (im : List Image) (h : ℕ) (f g k : ℕ → ℕ) → ((j : ℕ) → j < h → slice_get im (f j) ≡ Some (Double (g j) (k j))) → Pairs im (listed h f) (listed h g) (listed h k)
pairs_listed im zero f g k e = tt
pairs_listed im (suc h) f g k e = (e 0 (omega arith), pairs_listed im h (λ i. f (suc i)) (λ i. g (suc i)) (λ i. k (suc i)) (λ j lt. e (suc j) (omega arith)))

module _ (length move : Whole) (some : is_positive move ≡ true) (less : is_positive (minus length move) ≡ true)
    (half : plus move move ≡ length → ⊥) (im : List Image) (h : ℕ) (rows : 1 ≤ h) (Fine Coarse : Whole → ℕ → Type 0) (fine coarse : Whole → ℕ → ℕ) where
  abbrev w : Window
  w = window length move

  abbrev on : Whole → Whole
  on t = step w.size w.move t

  abbrev span : ℕ → Whole → ℕ
  span n t = returns w length move t n

  abbrev fine_lines : ℕ → Whole → List (List ℕ)
  fine_lines n t = listed n (λ i. listed h (fine (orbit length move t i)))

  abbrev coarse_lines : ℕ → Whole → List (List ℕ)
  coarse_lines n t = listed n (λ k. listed h (coarse (orbit w.size w.move t k)))

  -- a coarse letter stands for the fine letters of its block
  abbrev pub IsBlock : Whole → ℕ → Type 0
  IsBlock t j = (IsInZone w w.single_below t × Fine t j × (slice_get im (coarse t j) ≡ Some (Single (fine t j))))
      ⊎ (IsInZone w (not w.single_below) t × Fine t j × Fine (plus t move) j × (slice_get im (coarse t j) ≡ Some (Double (fine t j) (fine (plus t move) j))))

  abbrev AllCoarse : ℕ → Whole → Type 0
  AllCoarse n t = (k j : ℕ) → k < n → j < h → Coarse (orbit w.size w.move t k) j

  abbrev AllFine : ℕ → Whole → Type 0
  AllFine n t = (i j : ℕ) → i < n → j < h → Fine (orbit length move t i) j

  at : (t : Whole) → IsInside w.size t → AtReturn length move some less w t
  at t i = first_return length move some less half t i

  defined_one : (n r : ℕ) (t s : Whole) → n ≡ suc r → step length move t ≡ s → ((j : ℕ) → j < h → Fine t j) → AllFine r s → AllFine n t
  defined_one n r t s e f here rest zero j li lj = here j lj
  defined_one n r t s e f here rest (suc i) j li lj = subst (λ (u : Whole). Fine (orbit length move u i) j) (sym f) (rest i j (omega arith) lj)

  defined_two : (n r : ℕ) (t s u : Whole) → n ≡ suc (suc r) → step length move t ≡ s → step length move s ≡ u
      → ((j : ℕ) → j < h → Fine t j) → ((j : ℕ) → j < h → Fine s j) → AllFine r u → AllFine n t
  defined_two n r t s u e f g here next rest = defined_one n (suc r) t s e f here (defined_one (suc r) r s u refl g next rest)

  module _ (blocks : (t : Whole) (j : ℕ) → IsInside w.size t → j < h → Coarse t j → IsBlock t j) where
    clash : {A : Type 0} (n : ℕ) → n ≡ 1 → n ≡ 2 → A
    clash n e f = absurd (omega arith)

    -- all letters of a line stand for one letter, or for two
    single_line : (t : Whole) → IsInside w.size t → ((j : ℕ) → j < h → Coarse t j) → turns w.size length move t ≡ 1
        → (j : ℕ) → j < h → Fine t j × (slice_get im (coarse t j) ≡ Some (Single (fine t j)))
    single_line t i all e j lt = elim (blocks t j i lt (all j lt)) [
      | inl b ↦ (b.1, b.2)
      | inr b ↦ clash (turns w.size length move t) e ((at t i).double b.0).0
    ]

    double_line : (t : Whole) → IsInside w.size t → ((j : ℕ) → j < h → Coarse t j) → turns w.size length move t ≡ 2
        → (j : ℕ) → j < h → Fine t j × Fine (plus t move) j × (slice_get im (coarse t j) ≡ Some (Double (fine t j) (fine (plus t move) j)))
    double_line t i all e j lt = elim (blocks t j i lt (all j lt)) [
      | inl b ↦ clash (turns w.size length move t) ((at t i).single b.0) e
      | inr b ↦ (b.1, b.2, b.3)
    ]

    -- how many lines a block fills, by the letter of its first row
    lines_of_block : (t : Whole) → IsInside w.size t → ((j : ℕ) → j < h → Coarse t j)
        → (turns w.size length move t ≡ 1) ⊎ ((turns w.size length move t ≡ 2) × (step length move t ≡ plus t move))
    lines_of_block t i all = elim (blocks t 0 i (omega arith) (all 0 (omega arith))) [
      | inl b ↦ inl ((at t i).single b.0)
      | inr b ↦ let d = (at t i).double b.0 in inr (d.0, d.1)
    ]

    one_line : (n r : ℕ) (t s : Whole) → n ≡ suc r → step length move t ≡ s → fine_lines n t ≡ listed h (fine t) ∷ fine_lines r s
    one_line n r t s e f = rw (e, ← f) refl

    two_lines : (n r : ℕ) (t s u : Whole) → n ≡ suc (suc r) → step length move t ≡ s → step length move s ≡ u → fine_lines n t ≡ listed h (fine t) ∷ listed h (fine s) ∷ fine_lines r u
    two_lines n r t s u e f g = rw (e, ← g, ← f) refl

    pub images : (n : ℕ) (t : Whole) → IsInside w.size t → AllCoarse n t → IsImage im (coarse_lines n t) (fine_lines (span n t) t)
    images zero t i all = tt
    images (suc n) t i all =
        let a = at t i in
        let rest = images n (on t) a.inside (λ k j lk lj. all (suc k) j (omega arith) lj) in
        let here : (j : ℕ) → j < h → Coarse t j = λ j lt. all 0 j (omega arith) lt in
        elim (lines_of_block t i here) [
          | inl e ↦
              let s = single_line t i here e in
              let back : step length move t ≡ on t = rw e at a.back in
              subst (λ (ls : List (List ℕ)). IsImage im (coarse_lines (suc n) t) ls) (sym (one_line (span (suc n) t) (span n (on t)) t (on t) (omega arith) back))
              (one_before im (listed h (coarse t)) (coarse_lines n (on t)) (listed h (fine t)) (fine_lines (span n (on t)) (on t))
              (singles_listed im h (coarse t) (fine t) (λ j lt. (s j lt).1)) rest)
          | inr e ↦
              let d = double_line t i here e.0 in
              let back : step length move (step length move t) ≡ on t = rw e.0 at a.back in
              subst (λ (ls : List (List ℕ)). IsImage im (coarse_lines (suc n) t) ls)
              (sym (two_lines (span (suc n) t) (span n (on t)) t (plus t move) (on t) (omega arith) e.1 (ap (step length move) (sym e.1) ∙ back)))
              (inr (pairs_listed im h (coarse t) (fine t) (fine (plus t move)) (λ j lt. (d j lt).2), rest))
        ]

    -- all of their letters are defined
    pub defined : (n : ℕ) (t : Whole) → IsInside w.size t → AllCoarse n t → AllFine (span n t) t
    defined zero t i all k j lk lj = absurd (omega arith)
    defined (suc n) t i all k j lk lj =
        let a = at t i in
        let rest = defined n (on t) a.inside (λ k' j' lk' lj'. all (suc k') j' (omega arith) lj') in
        let here : (j : ℕ) → j < h → Coarse t j = λ j' lt. all 0 j' (omega arith) lt in
        elim (lines_of_block t i here) [
          | inl e ↦ defined_one (span (suc n) t) (span n (on t)) t (on t) (omega arith) (rw e at a.back) (λ j' lt. (single_line t i here e j' lt).0) rest k j lk lj
          | inr e ↦
              let back : step length move (step length move t) ≡ on t = rw e.0 at a.back in
              defined_two (span (suc n) t) (span n (on t)) t (plus t move) (on t) (omega arith) e.1 (ap (step length move) (sym e.1) ∙ back)
              (λ j' lt. (double_line t i here e.0 j' lt).0) (λ j' lt. (double_line t i here e.0 j' lt).1) rest k j lk lj
        ]

  -- Where the letters of the lines are defined, so are those of the blocks that end before the last line.
  module _ (positive : (t : Whole) (j : ℕ) → Fine t j → is_positive t ≡ true)
      (singles : (t : Whole) (j : ℕ) → IsInside w.size t → IsInZone w w.single_below t → Fine t j → Coarse t j)
      (doubles : (t : Whole) (j : ℕ) → IsInside w.size t → IsInZone w (not w.single_below) t → Fine t j → Fine (plus t move) j → Coarse t j) where
    first_block : (n : ℕ) (t : Whole) → IsInside w.size t → AllFine n t → turns w.size length move t < n → (j : ℕ) → j < h → Coarse t j
    first_block n t i all lt j lj =
        let a = at t i in
        let here : Fine t j = all 0 j (omega arith) lj in
        elim (a.zones (positive t j here)) [
          | inl z ↦ singles t j i z here
          | inr (inl z) ↦ let d = a.double z in doubles t j i z here (subst (λ (s : Whole). Fine s j) d.1 (all 1 j (let e = d.0 in omega arith) lj))
          | inr (inr z) ↦
              let next : Fine (orbit length move t (turns w.size length move t)) j = all (turns w.size length move t) j lt lj in
              let p = positive (whole (pos 0)) j (subst (λ (s : Whole). Fine s j) (a.back ∙ z) next) in
              both (is_positive (whole (pos 0))) p (zero_false)
        ]

    pub converse : (n l : ℕ) (t : Whole) → IsInside w.size t → AllFine l t → span n t < l → AllCoarse n t
    converse zero l t i all lt k j lk lj = absurd (omega arith)
    converse (suc n) l t i all lt zero j lk lj = first_block l t i all (omega arith) j lj
    converse (suc n) l t i all lt (suc k) j lk lj =
        let a = at t i in
        let m = turns w.size length move t in
        converse n (l - m) (on t) a.inside
        (λ k' j' lk' lj'.
        let f : Fine (orbit length move t (m + k')) j' = all (m + k') j' (omega arith) lj' in
        subst (λ (s : Whole). Fine s j') (orbit_on length move some less m k' t ∙ ap (λ (s : Whole). orbit length move s k') a.back) f)
        (omega arith) k j (omega arith) lj
