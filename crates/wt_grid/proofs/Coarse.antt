-- What a field is cut into is a field.
use Rattle.std.proofs.Common.{◌≡◌, ℕ, List, [], ◌∷◌, Bool, true, Some, slice_get, refl, inl, inr}
use Rattle.wt_grid.specs.declared.image.Image.TheVariants.{One as Single, Two as Double}
use Rattle.wt_grid.specs.declared.image.Image.{Image}
use Rattle.wt_grid.specs.Lines.{IsAcross, IsBeside, IsField, Singles, Pairs, IsImage}

abbrev pub first : Image → ℕ
first (Single a) = a
first (Double a b) = a

abbrev pub last : Image → ℕ
last (Single a) = a
last (Double a b) = b

-- pieces of one length match piece by piece
abbrev pub MatchAcross : (ℕ → ℕ → Bool) → Image → Image → Type 0
MatchAcross f (Single a) (Single b) = f a b ≡ true
MatchAcross f (Single a) (Double c d) = ⊥
MatchAcross f (Double a b) (Single c) = ⊥
MatchAcross f (Double a b) (Double c d) = (f a c ≡ true) × (f b d ≡ true)

-- each tile's piece begins (or ends) with this tile
abbrev pub Edge : (Image → ℕ) → List Image → List ℕ → List ℕ → Type 0
Edge f images [] [] = Unit {0}
Edge f images [] (a ∷ as') = ⊥
Edge f images (i ∷ is) [] = ⊥
Edge f images (i ∷ is) (a ∷ as') = ((p : Image) × (slice_get images i ≡ Some p) × (f p ≡ a)) × Edge f images is as'

module _ (images : List Image) (m1 m2 c1 c2 : ℕ → ℕ → Bool)
    (joins : (i j : ℕ) (p r : Image) → slice_get images i ≡ Some p → slice_get images j ≡ Some r → m1 (last p) (first r) ≡ true → c1 i j ≡ true)
    (stacks : (i j : ℕ) (p r : Image) → slice_get images i ≡ Some p → slice_get images j ≡ Some r → MatchAcross m2 p r → c2 i j ≡ true) where
  singles_edge : (f : Image → ℕ) → ((a : ℕ) → f (Single a) ≡ a) → (q u : List ℕ) → Singles images q u → Edge f images q u
  singles_edge f e [] [] s = tt
  singles_edge f e [] (a ∷ as') s = absurd s
  singles_edge f e (i ∷ is) [] s = absurd s
  singles_edge f e (i ∷ is) (a ∷ as') s = ((Single a, s.0, e a), singles_edge f e is as' s.1)

  pairs_first : (q u v : List ℕ) → Pairs images q u v → Edge first images q u
  pairs_first [] [] [] s = tt
  pairs_first [] [] (b ∷ bs) s = absurd s
  pairs_first [] (a ∷ as') v s = absurd s
  pairs_first (i ∷ is) [] v s = absurd s
  pairs_first (i ∷ is) (a ∷ as') [] s = absurd s
  pairs_first (i ∷ is) (a ∷ as') (b ∷ bs) s = ((Double a b, s.0, refl), pairs_first is as' bs s.1)

  pairs_last : (q u v : List ℕ) → Pairs images q u v → Edge last images q v
  pairs_last [] [] [] s = tt
  pairs_last [] [] (b ∷ bs) s = absurd s
  pairs_last [] (a ∷ as') v s = absurd s
  pairs_last (i ∷ is) [] v s = absurd s
  pairs_last (i ∷ is) (a ∷ as') [] s = absurd s
  pairs_last (i ∷ is) (a ∷ as') (b ∷ bs) s = ((Double a b, s.0, refl), pairs_last is as' bs s.1)

  beside : (q r u v : List ℕ) → Edge last images q u → Edge first images r v → IsBeside m1 u v → IsBeside c1 q r
  beside [] [] u v p s b = tt
  beside [] (j ∷ js) [] [] p s b = absurd s
  beside [] (j ∷ js) [] (x ∷ xs) p s b = absurd b
  beside [] (j ∷ js) (a ∷ as') v p s b = absurd p
  beside (i ∷ is) [] [] v p s b = absurd p
  beside (i ∷ is) [] (a ∷ as') [] p s b = absurd b
  beside (i ∷ is) [] (a ∷ as') (x ∷ xs) p s b = absurd s
  beside (i ∷ is) (j ∷ js) [] v p s b = absurd p
  beside (i ∷ is) (j ∷ js) (a ∷ as') [] p s b = absurd b
  beside (i ∷ is) (j ∷ js) (a ∷ as') (x ∷ xs) p s b =
      let e : m1 (last p.0.0) (first s.0.0) ≡ true = rw (p.0.2, s.0.2) b.0 in
      (joins i j p.0.0 s.0.0 p.0.1 s.0.1 e, beside is js as' xs p.1 s.1 b.1)

  single_across : (q u : List ℕ) → Singles images q u → IsAcross m2 u → IsAcross c2 q
  single_across [] u s h = tt
  single_across (i ∷ []) u s h = tt
  single_across (i ∷ j ∷ is) [] s h = absurd s
  single_across (i ∷ j ∷ is) (a ∷ []) s h = absurd s.1
  single_across (i ∷ j ∷ is) (a ∷ b ∷ as') s h = (stacks i j (Single a) (Single b) s.0 s.1.0 h.0, single_across (j ∷ is) (b ∷ as') s.1 h.1)

  pair_across : (q u v : List ℕ) → Pairs images q u v → IsAcross m2 u → IsAcross m2 v → IsAcross c2 q
  pair_across [] u v s h k = tt
  pair_across (i ∷ []) u v s h k = tt
  pair_across (i ∷ j ∷ is) [] v s h k = absurd s
  pair_across (i ∷ j ∷ is) (a ∷ as') [] s h k = absurd s
  pair_across (i ∷ j ∷ is) (a ∷ []) (b ∷ bs) s h k = absurd s.1
  pair_across (i ∷ j ∷ is) (a ∷ c ∷ as') (b ∷ []) s h k = absurd s.1
  pair_across (i ∷ j ∷ is) (a ∷ c ∷ as') (b ∷ d ∷ bs) s h k =
      (stacks i j (Double a b) (Double c d) s.0 s.1.0 (h.0, k.0), pair_across (j ∷ is) (c ∷ as') (d ∷ bs) s.1 h.1 k.1)

  begins_with : (q : List ℕ) (qs : List (List ℕ)) (u : List ℕ) (ls : List (List ℕ)) → IsImage images (q ∷ qs) (u ∷ ls) → Edge first images q u
  begins_with q qs u [] i = singles_edge first (λ a. refl) q u i.0
  begins_with q qs u (v ∷ ls) i = elim i [ inl s ↦ singles_edge first (λ a. refl) q u s.0 | inr p ↦ pairs_first q u v p.0 ]

  line : (u : List ℕ) (ls : List (List ℕ)) → IsField m1 m2 (u ∷ ls) → IsAcross m2 u
  line u [] f = f
  line u (v ∷ ls) f = f.0

  -- one block before the others
  grow : (q : List ℕ) (qs : List (List ℕ)) (v : List ℕ) (ls : List (List ℕ)) → Edge last images q v → IsField m1 m2 (v ∷ ls) → IsImage images qs ls → IsAcross c2 q → IsField c1 c2 qs → IsField c1 c2 (q ∷ qs)
  grow q [] v ls e f i a r = a
  grow q (q' ∷ qs) v [] e f i a r = absurd i
  grow q (q' ∷ qs) v (w ∷ ls) e f i a r = (a, beside q q' v w e (begins_with q' qs w ls i) f.1, r)

  rest : (u : List ℕ) (ls : List (List ℕ)) → IsField m1 m2 (u ∷ ls) → IsField m1 m2 ls
  rest u [] f = tt
  rest u (v ∷ ls) f = f.2

  pub coarse_field : (ls qs : List (List ℕ)) → IsImage images qs ls → IsField m1 m2 ls → IsField c1 c2 qs
  coarse_field [] [] i f = tt
  coarse_field [] (q ∷ qs) i f = absurd i
  coarse_field (u ∷ ls) [] i f = absurd i
  coarse_field (u ∷ []) (q ∷ qs) i f = grow q qs u [] (singles_edge last (λ a. refl) q u i.0) f i.1 (single_across q u i.0 f) (coarse_field [] qs i.1 tt)
  coarse_field (u ∷ v ∷ ls) (q ∷ qs) i f = elim i [
    | inl s ↦ grow q qs u (v ∷ ls) (singles_edge last (λ a. refl) q u s.0) f s.1 (single_across q u s.0 f.0) (coarse_field (v ∷ ls) qs s.1 f.2)
    | inr p ↦ grow q qs v ls (pairs_last q u v p.0) f.2 p.1 (pair_across q u v p.0 f.0 (line v ls f.2)) (coarse_field ls qs p.1 (rest v ls f.2))
  ]
