-- The blocks of a cut core are read as the coarse lines whose image it is.
use Rattle.std.proofs.Common.{arith, ◌≡◌, ◌<◌, ◌+◌, ℕ, zero, suc, List, [], ◌∷◌, length, get_or, slice_get, Some, Bool, true, false, refl, sym, ◌∙◌, ap, subst, inl, inr}
use Rattle.wt_grid.specs.declared.image.Image.TheVariants.{One as Single, Two as Double}
use Rattle.wt_grid.specs.declared.image.Image.{Image}
use Rattle.wt_grid.specs.declared.axis.Side.TheVariants.{After, Before}
use Rattle.wt_grid.specs.declared.axis.Side.{Side}
use Rattle.std.proofs.lemmas.Option.{slice_get-map}
use Rattle.wt_grid.specs.Lines.{Singles, Pairs, IsImage}
use Rattle.wt_grid.specs.Grid.{Grid, listed}
use Rattle.wt_grid.proofs.Bridge.{get_or-listed, length-listed}
use Rattle.wt_step.specs.declared.raw.RawStep.{RawStep}
use Rattle.wt_step.specs.declared.blocks.Block.{Block}
use Rattle.wt_step.specs.Words.{is_marker, joined}
use Rattle.wt_step.specs.Good.{IsGoodStep}
use Rattle.wt_morphism.specs.Images.{piece}
use Rattle.wt_step.specs.Meaning.{pieces}
use Rattle.wt_step.specs.Blocks.{core_at, blocks_in, block_tile, block_at, IsIndexed}
use Rattle.wt_step.proofs.Tables.{singles, doubles, from_piece, from_pieces, some_of}

-- a line that begins no block by itself begins none with a non-marker line before it
not_joined : (side : Side) (x y : Bool) → joined side x y ≡ true → joined side false x ≡ false
not_joined After true y e = absurd (cc e)
not_joined After false y e = refl
not_joined Before x y e = refl

none_joined : (side : Side) (x : Bool) → x ≡ false → joined side false x ≡ false
none_joined After x e = rw e refl
none_joined Before x e = refl

clash : (x : Bool) → x ≡ true → x ≡ false → ⊥
clash x e f = cc

singles_at : (im : List Image) (q u : List ℕ) → Singles im q u → (j : ℕ) → j < length u → slice_get im (get_or q j 0) ≡ Some (Single (get_or u j 0))
singles_at im [] [] h j lt = absurd (omega arith)
singles_at im [] (a ∷ as') h j lt = absurd h
singles_at im (k ∷ ks) [] h j lt = absurd h
singles_at im (k ∷ ks) (a ∷ as') h zero lt = h.0
singles_at im (k ∷ ks) (a ∷ as') h (suc j) lt = singles_at im ks as' h.1 j (omega arith)

pairs_in : (im : List Image) (q u v : List ℕ) → Pairs im q u v → (j : ℕ) → j < length u → slice_get im (get_or q j 0) ≡ Some (Double (get_or u j 0) (get_or v j 0))
pairs_in im [] [] [] h j lt = absurd (omega arith)
pairs_in im [] [] (b ∷ bs) h j lt = absurd h
pairs_in im [] (a ∷ as') v h j lt = absurd h
pairs_in im (k ∷ ks) [] v h j lt = absurd h
pairs_in im (k ∷ ks) (a ∷ as') [] h j lt = absurd h
pairs_in im (k ∷ ks) (a ∷ as') (b ∷ bs) h zero lt = h.0
pairs_in im (k ∷ ks) (a ∷ as') (b ∷ bs) h (suc j) lt = pairs_in im ks as' bs h.1 j (omega arith)

-- a block's lines are the image of a coarse line
abbrev OneRead : List Image → (ℕ → List ℕ) → Bool → ℕ → List ℕ → Type 0
OneRead im line true i q = Pairs im q (line i) (line (i + 1))
OneRead im line false i q = Singles im q (line i)

abbrev pub Reads : List Image → (ℕ → List ℕ) → List Block → List (List ℕ) → Type 0
Reads im line [] [] = Unit {0}
Reads im line [] (q ∷ qs) = ⊥
Reads im line (b ∷ bs) [] = ⊥
Reads im line (b ∷ bs) (q ∷ qs) = OneRead im line b.double b.line q × Reads im line bs qs

pub length-reads : (im : List Image) (line : ℕ → List ℕ) (bs : List Block) (qs : List (List ℕ)) → Reads im line bs qs → length bs ≡ length qs
length-reads im line [] [] r = refl
length-reads im line [] (q ∷ qs) r = absurd r
length-reads im line (b ∷ bs) [] r = absurd r
length-reads im line (b ∷ bs) (q ∷ qs) r = ap suc (length-reads im line bs qs r.1)

module _ (s : RawStep) (g : IsGoodStep s) where
  single_first : (q : List ℕ) (a : ℕ) (u : List ℕ) → Singles (pieces s) q (a ∷ u) → is_marker s a ≡ false
  single_first [] a u h = absurd h
  single_first (k ∷ ks) a u h = singles s g k a h.0

  pair_first : (q : List ℕ) (a b : ℕ) (u v : List ℕ) → Pairs (pieces s) q (a ∷ u) (b ∷ v) → joined s.side (is_marker s a) (is_marker s b) ≡ true
  pair_first [] a b u v h = absurd h
  pair_first (k ∷ ks) a b u v h = doubles s g k a b h.0

  pair_head : (q : List ℕ) (a : ℕ) (u v : List ℕ) → Pairs (pieces s) q (a ∷ u) v → joined s.side false (is_marker s a) ≡ false
  pair_head [] a u v h = absurd h
  pair_head (k ∷ ks) a u [] h = absurd h
  pair_head (k ∷ ks) a u (b ∷ v) h = not_joined s.side (is_marker s a) (is_marker s b) (doubles s g k a b h.0)

  image_first : (qs : List (List ℕ)) (b : ℕ) (v : List ℕ) (ls : List (List ℕ)) → IsImage (pieces s) qs ((b ∷ v) ∷ ls) → joined s.side false (is_marker s b) ≡ false
  image_first [] b v ls h = absurd h
  image_first (q ∷ qs) b v [] h = none_joined s.side (is_marker s b) (single_first q b v h.0)
  image_first (q ∷ qs) b v (w ∷ ls) h = elim h [
    | inl x ↦ none_joined s.side (is_marker s b) (single_first q b v x.0)
    | inr x ↦ pair_head q b v w x.0
  ]

  module _ (c : ℕ → ℕ) (rest : ℕ → List ℕ) where
    no_more : (qs : List (List ℕ)) → IsImage (pieces s) qs [] → Reads (pieces s) (λ i. c i ∷ rest i) [] qs
    no_more [] h = tt
    no_more (q ∷ qs) h = absurd h

    pub reads : (n i : ℕ) (f : ℕ → List ℕ) → ((k : ℕ) → k < n → f k ≡ c (i + k) ∷ rest (i + k)) → (qs : List (List ℕ)) → IsImage (pieces s) qs (listed n f)
        → Reads (pieces s) (λ i. c i ∷ rest i) (blocks_in (λ i. joined s.side (is_marker s (c i)) (is_marker s (c (i + 1)))) false i n) qs
    reads zero i f e qs h = no_more qs h
    reads (suc zero) i f e [] h = absurd h
    reads (suc zero) i f e (q ∷ qs) h =
        let z : i + 0 ≡ i = omega arith in
        let e0 : f 0 ≡ c i ∷ rest i = e 0 (omega arith) ∙ ap (λ (x : ℕ). c x ∷ rest x) z in
        (subst (λ (u : List ℕ). Singles (pieces s) q u) e0 h.0, no_more qs h.1)
    reads (suc (suc n)) i f e [] h = absurd h
    reads (suc (suc n)) i f e (q ∷ qs) h =
        go (joined s.side (is_marker s (c i)) (is_marker s (c (i + 1)))) refl h
        (λ x. reads n ((i + 1) + 1) (λ k. f (suc (suc k))) two_on qs x) (λ x. reads (suc n) (i + 1) (λ k. f (suc k)) one_on qs x)
      where
        e0 : f 0 ≡ c i ∷ rest i
        e0 = let z : i + 0 ≡ i = omega arith in e 0 (omega arith) ∙ ap (λ (x : ℕ). c x ∷ rest x) z

        e1 : f 1 ≡ c (i + 1) ∷ rest (i + 1)
        e1 = e 1 (omega arith)

        one_on : (k : ℕ) → k < suc n → f (suc k) ≡ c ((i + 1) + k) ∷ rest ((i + 1) + k)
        one_on k lt = let z : i + suc k ≡ (i + 1) + k = omega arith in e (suc k) (omega arith) ∙ ap (λ (x : ℕ). c x ∷ rest x) z

        two_on : (k : ℕ) → k < n → f (suc (suc k)) ≡ c (((i + 1) + 1) + k) ∷ rest (((i + 1) + 1) + k)
        two_on k lt = let z : i + suc (suc k) ≡ ((i + 1) + 1) + k = omega arith in e (suc (suc k)) (omega arith) ∙ ap (λ (x : ℕ). c x ∷ rest x) z

        go : (b : Bool) → joined s.side (is_marker s (c i)) (is_marker s (c (i + 1))) ≡ b → IsImage (pieces s) (q ∷ qs) (listed (suc (suc n)) f)
            → (IsImage (pieces s) qs (listed n (λ k. f (suc (suc k)))) → Reads (pieces s) (λ i. c i ∷ rest i) (blocks_in (λ i. joined s.side (is_marker s (c i)) (is_marker s (c (i + 1)))) false ((i + 1) + 1) n) qs)
            → (IsImage (pieces s) qs (listed (suc n) (λ k. f (suc k))) → Reads (pieces s) (λ i. c i ∷ rest i) (blocks_in (λ i. joined s.side (is_marker s (c i)) (is_marker s (c (i + 1)))) false (i + 1) (suc n)) qs)
            → Reads (pieces s) (λ i. c i ∷ rest i) (blocks_in (λ i. joined s.side (is_marker s (c i)) (is_marker s (c (i + 1)))) false i (suc (suc n))) (q ∷ qs)
        go true t h two_more one_more = elim h [
          | inl x ↦ absurd (
              let m = single_first q (c i) (rest i) (subst (λ (u : List ℕ). Singles (pieces s) q u) e0 x.0) in
              let k = image_first qs (c (i + 1)) (rest (i + 1)) (listed n (λ k. f (suc (suc k)))) (subst (λ (u : List ℕ). IsImage (pieces s) qs (u ∷ listed n (λ k. f (suc (suc k))))) e1 x.1) in
              clash (joined s.side false (is_marker s (c (i + 1)))) (ap (λ (b : Bool). joined s.side b (is_marker s (c (i + 1)))) (sym m) ∙ t) k)
          | inr x ↦ rw t (
            subst (λ (v : List ℕ). Pairs (pieces s) q (c i ∷ rest i) v) e1 (subst (λ (u : List ℕ). Pairs (pieces s) q u (f 1)) e0 x.0),
            two_more x.1,
          )
        ]
        go false t h two_more one_more = elim h [
          | inl x ↦ rw t (subst (λ (u : List ℕ). Singles (pieces s) q u) e0 x.0, one_more x.1)
          | inr x ↦ absurd (clash (joined s.side (is_marker s (c i)) (is_marker s (c (i + 1))))
              (pair_first q (c i) (c (i + 1)) (rest i) (rest (i + 1)) (subst (λ (v : List ℕ). Pairs (pieces s) q (c i ∷ rest i) v) e1 (subst (λ (u : List ℕ). Pairs (pieces s) q u (f 1)) e0 x.0))) t)
        ]

  -- and the tiles of these coarse lines are those that the index gives
  module _ (p : Grid) (m : ℕ) (ones twos : List ℕ) (index : IsIndexed s.images (length s.fine.tiles) (length s.images) ones twos) where
    one_tile : (b : Bool) (i : ℕ) (q : List ℕ) → OneRead (pieces s) (λ i. listed m (core_at s p i)) b i q → (j : ℕ) → j < m
        → get_or q j 0 ≡ block_tile s p ones twos (record { line = i; double = b }) j
    one_tile true i q r j lt =
        let size : length (listed m (core_at s p i)) ≡ m = length-listed m (core_at s p i) in
        let h = pairs_in (pieces s) q (listed m (core_at s p i)) (listed m (core_at s p (i + 1))) r j (omega arith) in
        let a = get_or-listed m j (core_at s p i) 0 lt in
        let b = get_or-listed m j (core_at s p (i + 1)) 0 lt in
        let h' : slice_get (pieces s) (get_or q j 0) ≡ Some (Double (core_at s p i j) (core_at s p (i + 1) j)) = rw (a, b) at h in
        let k = from_pieces (slice_get s.images (get_or q j 0)) (core_at s p i j) (core_at s p (i + 1) j) (sym (slice_get-map piece s.images (get_or q j 0)) ∙ h') in
        sym (index.twos (get_or q j 0) (core_at s p i j) (core_at s p (i + 1) j) (some_of s.images (get_or q j 0) (Double (core_at s p i j) (core_at s p (i + 1) j)) (Single 0) k).0 k)
    one_tile false i q r j lt =
        let size : length (listed m (core_at s p i)) ≡ m = length-listed m (core_at s p i) in
        let h = singles_at (pieces s) q (listed m (core_at s p i)) r j (omega arith) in
        let a = get_or-listed m j (core_at s p i) 0 lt in
        let h' : slice_get (pieces s) (get_or q j 0) ≡ Some (Single (core_at s p i j)) = rw a at h in
        let k = from_piece (slice_get s.images (get_or q j 0)) (core_at s p i j) (sym (slice_get-map piece s.images (get_or q j 0)) ∙ h') in
        sym (index.ones (get_or q j 0) (core_at s p i j) (some_of s.images (get_or q j 0) (Single (core_at s p i j)) (Single 0) k).0 k)

    pub tiles : (bs : List Block) (qs : List (List ℕ)) → Reads (pieces s) (λ i. listed m (core_at s p i)) bs qs → (i j : ℕ) → i < length bs → j < m
        → get_or (get_or qs i []) j 0 ≡ block_tile s p ones twos (block_at bs i) j
    tiles [] qs r i j li lj = absurd (omega arith)
    tiles (b ∷ bs) [] r i j li lj = absurd r
    tiles (b ∷ bs) (q ∷ qs) r zero j li lj = one_tile b.double b.line q r.0 j lj
    tiles (b ∷ bs) (q ∷ qs) r (suc i) j li lj = tiles bs qs r.1 i j (omega arith) lj
