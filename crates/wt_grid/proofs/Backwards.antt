-- Lines in the opposite order.
use Rattle.std.proofs.Common.{arith, ◌≡◌, ℕ, List, [], ◌∷◌, ◌++◌, append_assoc, length-append, length, Bool, Some, slice_get, refl, sym, inl, inr, subst}
use Rattle.wt_grid.specs.declared.image.Image.TheVariants.{One as Single, Two as Double}
use Rattle.wt_grid.specs.declared.image.Image.{Image}
use Rattle.std.proofs.lemmas.List.{append-nil}
use Rattle.wt_grid.specs.Cuts.{backwards, opposite}
use Rattle.wt_grid.specs.Lines.{IsAcross, IsBeside, IsField, Singles, Pairs, IsImage, AllFilled}

pub backwards_append : {A : Type 0} (xs ys : List A) → backwards (xs ++ ys) ≡ backwards ys ++ backwards xs
backwards_append [] ys = sym (append-nil (backwards ys))
backwards_append (x ∷ xs) ys = rw (backwards_append xs ys) (append_assoc (backwards ys) (backwards xs) (x ∷ []))

pub backwards_twice : {A : Type 0} (xs : List A) → backwards (backwards xs) ≡ xs
backwards_twice [] = refl
backwards_twice (x ∷ xs) = rw (backwards_append (backwards xs) (x ∷ []), backwards_twice xs) refl

pub length-backwards : {A : Type 0} (xs : List A) → length (backwards xs) ≡ length xs
length-backwards [] = refl
length-backwards (x ∷ xs) = let r = length-backwards xs in omega (arith, length-append (backwards xs) (x ∷ []))

beside_opposite : (f : ℕ → ℕ → Bool) (u v : List ℕ) → IsBeside f u v → IsBeside (opposite f) v u
beside_opposite f [] [] b = tt
beside_opposite f [] (y ∷ v) b = absurd b
beside_opposite f (x ∷ u) [] b = absurd b
beside_opposite f (x ∷ u) (y ∷ v) b = (b.0, beside_opposite f u v b.1)

field_more : (f g : ℕ → ℕ → Bool) (ls : List (List ℕ)) (u v : List ℕ) → IsField f g (ls ++ u ∷ []) → IsBeside f u v → IsAcross g v → IsField f g (ls ++ u ∷ v ∷ [])
field_more f g [] u v h b a = (h, b, a)
field_more f g (w ∷ []) u v h b a = (h.0, h.1, (h.2, b, a))
field_more f g (w ∷ x ∷ ls) u v h b a = (h.0, h.1, field_more f g (x ∷ ls) u v h.2 b a)

backwards_two : (u v : List ℕ) (ls : List (List ℕ)) → backwards ls ++ v ∷ u ∷ [] ≡ backwards (u ∷ v ∷ ls)
backwards_two u v ls = sym (append_assoc (backwards ls) (v ∷ []) (u ∷ []))

pub field_backwards : (f g : ℕ → ℕ → Bool) (ls : List (List ℕ)) → IsField f g ls → IsField (opposite f) g (backwards ls)
field_backwards f g [] h = tt
field_backwards f g (u ∷ []) h = h
field_backwards f g (u ∷ v ∷ ls) h =
    let r = field_more (opposite f) g (backwards ls) v u (field_backwards f g (v ∷ ls) h.2) (beside_opposite f u v h.1) h.0 in
    let P : List (List ℕ) → Type 0 = λ xs. IsField (opposite f) g xs in
    subst P (backwards_two u v ls) r

filled_more : (ls : List (List ℕ)) (u : List ℕ) → AllFilled ls → AllFilled (u ∷ []) → AllFilled (ls ++ u ∷ [])
filled_more [] u h k = k
filled_more ([] ∷ ls) u h k = absurd h
filled_more ((a ∷ as') ∷ ls) u h k = filled_more ls u h k

filled_first : (u : List ℕ) (ls : List (List ℕ)) → AllFilled (u ∷ ls) → AllFilled (u ∷ []) × AllFilled ls
filled_first [] ls h = absurd h
filled_first (a ∷ as') ls h = (tt, h)

pub filled_backwards : (ls : List (List ℕ)) → AllFilled ls → AllFilled (backwards ls)
filled_backwards [] h = tt
filled_backwards (u ∷ ls) h = let k = filled_first u ls h in filled_more (backwards ls) u (filled_backwards ls k.1) k.0

-- the images of two runs of coarse lines, one behind the other
pub image_append : (im : List Image) (qs qs' ls ls' : List (List ℕ)) → IsImage im qs ls → IsImage im qs' ls' → IsImage im (qs ++ qs') (ls ++ ls')
image_append im [] qs' [] ls' i j = j
image_append im (q ∷ qs) qs' [] ls' i j = absurd i
image_append im [] qs' (u ∷ ls) ls' i j = absurd i
image_append im (q ∷ qs) qs' (u ∷ []) [] i j = (i.0, image_append im qs qs' [] [] i.1 j)
image_append im (q ∷ qs) qs' (u ∷ []) (v ∷ ls') i j = inl (i.0, image_append im qs qs' [] (v ∷ ls') i.1 j)
image_append im (q ∷ qs) qs' (u ∷ v ∷ ls) ls' i j = elim i [
  | inl s ↦ inl (s.0, image_append im qs qs' (v ∷ ls) ls' s.1 j)
  | inr p ↦ inr (p.0, image_append im qs qs' ls ls' p.1 j)
]

-- the pieces of the second list are those of the first, backwards
pub record AreOpposite (im om : List Image) : Type 0 where
  pub ones : (i a : ℕ) → slice_get im i ≡ Some (Single a) → slice_get om i ≡ Some (Single a)
  pub twos : (i a b : ℕ) → slice_get im i ≡ Some (Double a b) → slice_get om i ≡ Some (Double b a)

module _ (im om : List Image) (o : AreOpposite im om) where
  singles_opposite : (q u : List ℕ) → Singles im q u → Singles om q u
  singles_opposite [] [] s = tt
  singles_opposite [] (a ∷ as') s = absurd s
  singles_opposite (i ∷ is) [] s = absurd s
  singles_opposite (i ∷ is) (a ∷ as') s = (o.ones i a s.0, singles_opposite is as' s.1)

  pairs_opposite : (q u v : List ℕ) → Pairs im q u v → Pairs om q v u
  pairs_opposite [] [] [] s = tt
  pairs_opposite [] [] (b ∷ bs) s = absurd s
  pairs_opposite [] (a ∷ as') v s = absurd s
  pairs_opposite (i ∷ is) [] v s = absurd s
  pairs_opposite (i ∷ is) (a ∷ as') [] s = absurd s
  pairs_opposite (i ∷ is) (a ∷ as') (b ∷ bs) s = (o.twos i a b s.0, pairs_opposite is as' bs s.1)

  pub image_backwards : (qs ls : List (List ℕ)) → IsImage im qs ls → IsImage om (backwards qs) (backwards ls)
  image_backwards [] [] i = tt
  image_backwards (q ∷ qs) [] i = absurd i
  image_backwards [] (u ∷ ls) i = absurd i
  image_backwards (q ∷ qs) (u ∷ []) i = image_append om (backwards qs) (q ∷ []) [] (u ∷ []) (image_backwards qs [] i.1) (singles_opposite q u i.0, tt)
  image_backwards (q ∷ qs) (u ∷ v ∷ ls) i = elim i [
    | inl s ↦ image_append om (backwards qs) (q ∷ []) (backwards (v ∷ ls)) (u ∷ []) (image_backwards qs (v ∷ ls) s.1) (singles_opposite q u s.0, tt)
    | inr p ↦
        let r = image_append om (backwards qs) (q ∷ []) (backwards ls) (v ∷ u ∷ []) (image_backwards qs ls p.1) (inr (pairs_opposite q u v p.0, tt)) in
        let P : List (List ℕ) → Type 0 = λ xs. IsImage om (backwards (q ∷ qs)) xs in
        subst P (backwards_two u v ls) r
  ]
