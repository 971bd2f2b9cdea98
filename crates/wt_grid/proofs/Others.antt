-- Any other coarse lines, whose image is a run of lines, have the same blocks, but for the last.
use Rattle.std.proofs.Common.{◌≡◌, ℕ, List, [], ◌∷◌, ◌++◌, false, refl, ap, inl, inr}
use Rattle.wt_grid.specs.Lines.{Table, IsGood, IsImage, AllFilled}
use Rattle.wt_grid.proofs.Desub.{block_begins, pair_ends, not_both, before_one, before_two, one_singles, one_pairs}

module _ (t : Table) (good : IsGood t) where
  -- coarse lines are cut where a line is no marker line
  pub split : (front : List (List ℕ)) (b : ℕ) (bs : List ℕ) (back qs : List (List ℕ)) → t.marker b ≡ false → IsImage t.images qs (front ++ (b ∷ bs) ∷ back)
      → (qa : List (List ℕ)) × (qb : List (List ℕ)) × (qs ≡ qa ++ qb) × IsImage t.images qa front × IsImage t.images qb ((b ∷ bs) ∷ back)
  split [] b bs back qs m i = ([], qs, refl, tt, i)
  split (u ∷ front) b bs back [] m i = absurd i
  split (u ∷ []) b bs back (q ∷ qs) m i = elim i [
    | inl s ↦ (q ∷ [], qs, refl, (s.0, tt), s.1)
    | inr p ↦ absurd (not_both t good b (pair_ends t good q u b bs p.0) m)
  ]
  split (u ∷ v ∷ front) b bs back (q ∷ qs) m i = elim i [
    | inl s ↦
        let r = split (v ∷ front) b bs back qs m s.1 in
        (q ∷ r.0, r.1, ap (λ (xs : List (List ℕ)). q ∷ xs) r.2, before_one t good q u (v ∷ front) r.0 s.0 r.3, r.4)
    | inr p ↦
        let r = split front b bs back qs m p.1 in
        (q ∷ r.0, r.1, ap (λ (xs : List (List ℕ)). q ∷ xs) r.2, before_two t good q u v front r.0 p.0 r.3, r.4)
  ]

  one_line : (p r : List ℕ) (ps rs qb : List (List ℕ)) → p ≡ r → rs ≡ ps ++ qb → r ∷ rs ≡ p ∷ (ps ++ qb)
  one_line p r ps rs qb e f = cc

  -- all blocks of a run but its last are those of every longer run
  pub same_front : (run back ps : List (List ℕ)) (z : List ℕ) (rs : List (List ℕ)) → AllFilled run → IsImage t.images (ps ++ z ∷ []) run → IsImage t.images rs (run ++ back)
      → (qb : List (List ℕ)) × (rs ≡ ps ++ qb)
  same_front run back [] z rs f i j = (rs, refl)
  same_front [] back (p ∷ ps) z rs f i j = absurd i
  same_front (u ∷ []) back (p ∷ []) z rs f i j = absurd i.1
  same_front (u ∷ []) back (p ∷ p' ∷ ps) z rs f i j = absurd i.1
  same_front ([] ∷ v ∷ run) back (p ∷ ps) z rs f i j = absurd f
  same_front ((a ∷ as') ∷ [] ∷ run) back (p ∷ ps) z rs f i j = absurd f
  same_front ((a ∷ as') ∷ (b ∷ bs) ∷ run) back (p ∷ ps) z [] f i j = absurd j
  same_front ((a ∷ as') ∷ (b ∷ bs) ∷ run) back (p ∷ ps) z (r ∷ rs) f i j = elim i [
    | inl x ↦ elim j [
      | inl y ↦
          let e = one_singles t good p r (a ∷ as') x.0 y.0 in
          let g = same_front ((b ∷ bs) ∷ run) back ps z rs f x.1 y.1 in
          (g.0, one_line p r ps rs g.0 e g.1)
      | inr y ↦ absurd (not_both t good b (pair_ends t good r (a ∷ as') b bs y.0) (block_begins t good (ps ++ z ∷ []) b bs run x.1))
    ]
    | inr x ↦ elim j [
      | inl y ↦ absurd (not_both t good b (pair_ends t good p (a ∷ as') b bs x.0) (block_begins t good rs b bs (run ++ back) y.1))
      | inr y ↦
          let e = one_pairs t good p r (a ∷ as') (b ∷ bs) x.0 y.0 in
          let g = same_front run back ps z rs f x.1 y.1 in
          (g.0, one_line p r ps rs g.0 e g.1)
    ]
  ]
