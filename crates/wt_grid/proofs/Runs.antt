-- Coarse lines of any run of lines have the blocks of the whole, but for the one at the open end.
use Rattle.std.proofs.Common.{arith, ◌≡◌, ◌≤◌, ℕ, List, [], ◌∷◌, ◌++◌, append_assoc, length, map, Bool, true, false, refl, sym, ◌∙◌, ap, inl, inr, subst}
use Rattle.wt_grid.specs.declared.image.Image.{Image}
use Rattle.wt_grid.specs.declared.axis.Side.TheVariants.{After, Before}
use Rattle.wt_grid.specs.declared.axis.Side.{Side}
use Rattle.std.proofs.lemmas.List.{append-nil}
use Rattle.wt_grid.specs.Lines.{Table, IsGood, IsImage, AllFilled, is_marker_line, cut_end}
use Rattle.wt_grid.proofs.Desub.{block_begins, pair_ends, not_both, one_singles, one_pairs}
use Rattle.wt_grid.proofs.Others.{split}
use Rattle.wt_grid.proofs.Periods.{front}
use Rattle.wt_grid.specs.Cuts.{backwards, cut_front, cut_lines, cut, flip, step_table, all_but_last, closed, Fills}
use Rattle.wt_grid.proofs.Backwards.{backwards_twice, backwards_append, filled_backwards, image_backwards}
use Rattle.wt_grid.proofs.Law.{flipped, unflipped}

pub end_append : (marker : ℕ → Bool) (fs : List (List ℕ)) (u : List ℕ) (ls : List (List ℕ)) → cut_end marker (fs ++ u ∷ ls) ≡ fs ++ cut_end marker (u ∷ ls)
end_append marker [] u ls = refl
end_append marker (x ∷ []) u ls = refl
end_append marker (x ∷ y ∷ fs) u ls = ap (λ (xs : List (List ℕ)). x ∷ xs) (end_append marker (y ∷ fs) u ls)

front_append : (marker : ℕ → Bool) (fs : List (List ℕ)) (b : ℕ) (bs : List ℕ) (ls : List (List ℕ)) → marker b ≡ false → cut_front marker (fs ++ (b ∷ bs) ∷ ls) ≡ cut_front marker fs ++ (b ∷ bs) ∷ ls
front_append marker [] b bs ls m = rw m refl
front_append marker (u ∷ fs) b bs ls m = at_first (is_marker_line marker u) refl
  where
    at_first : (t : Bool) → is_marker_line marker u ≡ t → cut_front marker (u ∷ fs ++ (b ∷ bs) ∷ ls) ≡ cut_front marker (u ∷ fs) ++ (b ∷ bs) ∷ ls
    at_first true e = rw e refl
    at_first false e = rw e refl

module _ (t : Table) (good : IsGood t) where
  one_line : (p r : List ℕ) (ps rs qb : List (List ℕ)) → p ≡ r → rs ≡ ps ++ qb → r ∷ rs ≡ p ∷ (ps ++ qb)
  one_line p r ps rs qb e f = cc

  same_front : (run back ps : List (List ℕ)) (z : List ℕ) (rs : List (List ℕ)) → AllFilled run → IsImage t.images (ps ++ z ∷ []) run → IsImage t.images rs (cut_end t.marker (run ++ back))
      → (qb : List (List ℕ)) × (rs ≡ ps ++ qb)
  same_front run back [] z rs f i j = (rs, refl)
  same_front [] back (p ∷ ps) z rs f i j = absurd i
  same_front (u ∷ []) back (p ∷ []) z rs f i j = absurd i.1
  same_front (u ∷ []) back (p ∷ p' ∷ ps) z rs f i j = absurd i.1
  same_front ([] ∷ v ∷ run) back (p ∷ ps) z rs f i j = absurd f
  same_front ((a ∷ as') ∷ [] ∷ run) back (p ∷ ps) z rs f i j = absurd f
  same_front ((a ∷ as') ∷ (b ∷ bs) ∷ run) back (p ∷ ps) z [] f i j = absurd j
  same_front ((a ∷ as') ∷ (b ∷ bs) ∷ run) back (p ∷ ps) z (r ∷ rs) f i j = elim i [
    | inl x ↦ elim (front t good r (a ∷ as') rs b bs (run ++ back) j) [
      | inl y ↦
          let e = one_singles t good p r (a ∷ as') x.0 y.0 in
          let g = same_front ((b ∷ bs) ∷ run) back ps z rs f x.1 y.1 in
          (g.0, one_line p r ps rs g.0 e g.1)
      | inr y ↦ absurd (not_both t good b y.2 (block_begins t good (ps ++ z ∷ []) b bs run x.1))
    ]
    | inr x ↦ elim (front t good r (a ∷ as') rs b bs (run ++ back) j) [
      | inl y ↦ absurd (not_both t good b (pair_ends t good p (a ∷ as') b bs x.0) y.2)
      | inr y ↦
          let e = one_pairs t good p r (a ∷ as') (b ∷ bs) x.0 y.0 in
          let g = same_front run back ps z rs f x.1 y.1 in
          (g.0, one_line p r ps rs g.0 e g.1)
    ]
  ]

  -- what coarse lines of the whole have before a run and on it
  Found : (front back ps qs : List (List ℕ)) → Type 0
  Found fs back ps qs = (qa : List (List ℕ)) × (qb : List (List ℕ)) × (qs ≡ qa ++ (ps ++ qb)) × IsImage t.images qa (cut_front t.marker fs)

  alone : (fs ps : List (List ℕ)) (z : List ℕ) (b : ℕ) (bs : List ℕ) (qs : List (List ℕ)) → t.marker b ≡ false → IsImage t.images (ps ++ z ∷ []) ((b ∷ bs) ∷ []) → IsImage t.images qs (cut_front t.marker fs ++ cut_end t.marker ((b ∷ bs) ∷ [])) → Found fs [] ps qs
  unfolding Found
  alone fs [] z b bs qs m i j =
      let P : List (List ℕ) → Type 0 = λ xs. IsImage t.images qs xs in
      (qs, [], sym (append-nil qs), subst P (append-nil (cut_front t.marker fs)) (rw m at j))
  alone fs (p ∷ []) z b bs qs m i j = absurd i.1
  alone fs (p ∷ p' ∷ ps) z b bs qs m i j = absurd i.1

  on_run : (fs run back ps : List (List ℕ)) (z : List ℕ) (b : ℕ) (bs : List ℕ) (qs : List (List ℕ)) → t.marker b ≡ false → AllFilled ((b ∷ bs) ∷ run)
      → IsImage t.images (ps ++ z ∷ []) ((b ∷ bs) ∷ run) → IsImage t.images qs (cut_front t.marker fs ++ cut_end t.marker ((b ∷ bs) ∷ (run ++ back))) → Found fs back ps qs
  unfolding Found
  on_run fs [] [] ps z b bs qs m f i j = alone fs ps z b bs qs m i j
  on_run fs [] (v ∷ back) ps z b bs qs m f i j =
      let r = split t good (cut_front t.marker fs) b bs (cut_end t.marker (v ∷ back)) qs m j in
      let g = same_front ((b ∷ bs) ∷ []) (v ∷ back) ps z r.1 f i r.4 in
      (r.0, g.0, r.2 ∙ ap (λ (xs : List (List ℕ)). r.0 ++ xs) g.1, r.3)
  on_run fs (v ∷ run) back ps z b bs qs m f i j =
      let r = split t good (cut_front t.marker fs) b bs (cut_end t.marker (v ∷ (run ++ back))) qs m j in
      let g = same_front ((b ∷ bs) ∷ v ∷ run) back ps z r.1 f i r.4 in
      (r.0, g.0, r.2 ∙ ap (λ (xs : List (List ℕ)). r.0 ++ xs) g.1, r.3)

  pub in_whole : (fs run back ps : List (List ℕ)) (z : List ℕ) (qs : List (List ℕ)) → AllFilled run → IsImage t.images (ps ++ z ∷ []) run → IsImage t.images qs (cut_lines t.marker (fs ++ (run ++ back)))
      → (qa : List (List ℕ)) × (qb : List (List ℕ)) × (qs ≡ qa ++ (ps ++ qb)) × IsImage t.images qa (cut_front t.marker fs)
  unfolding Found
  in_whole fs [] back [] z qs f i j = absurd i
  in_whole fs [] back (p ∷ ps) z qs f i j = absurd i
  in_whole fs ([] ∷ run) back ps z qs f i j = absurd f
  in_whole fs ((b ∷ bs) ∷ run) back ps z qs f i j =
      let m = block_begins t good (ps ++ z ∷ []) b bs run i in
      let P : List (List ℕ) → Type 0 = λ xs. IsImage t.images qs xs in
      let k = subst P (ap (cut_end t.marker) (front_append t.marker fs b bs (run ++ back) m) ∙ end_append t.marker (cut_front t.marker fs) (b ∷ bs) (run ++ back)) j in
      on_run fs run back ps z b bs qs m f i k

last_of : (q : List ℕ) (qs : List (List ℕ)) → (z : List ℕ) × (q ∷ qs ≡ all_but_last (q ∷ qs) ++ z ∷ [])
last_of q [] = (q, refl)
last_of q (r ∷ qs) = let l = last_of r qs in (l.0, ap (λ (xs : List (List ℕ)). q ∷ xs) l.1)

three_backwards : (xs ys zs : List (List ℕ)) → backwards (xs ++ (ys ++ zs)) ≡ backwards zs ++ (backwards ys ++ backwards xs)
three_backwards xs ys zs = backwards_append xs (ys ++ zs) ∙ (ap (λ (ws : List (List ℕ)). ws ++ backwards xs) (backwards_append ys zs) ∙ append_assoc (backwards zs) (backwards ys) (backwards xs))

-- All coarse lines of a run but the one at the open end are coarse lines of the whole, at the same lines.
pub same_blocks : (side : Side) (al ac : ℕ → ℕ → Bool) (marker : ℕ → Bool) (im : List Image) → IsGood (step_table side al ac marker im)
    → (fs run back qs : List (List ℕ)) (q : List ℕ) (rs : List (List ℕ)) → AllFilled run → IsImage im (q ∷ rs) run → IsImage im qs (cut side marker (fs ++ (run ++ back)))
    → (qa : List (List ℕ)) × (qb : List (List ℕ)) × (qs ≡ qa ++ (closed side (q ∷ rs) ++ qb)) × Fills side marker im qa qb fs back
same_blocks After al ac marker im good fs run back qs q rs f i j =
    let l = last_of q rs in
    let P : List (List ℕ) → Type 0 = λ xs. IsImage im xs run in
    in_whole (step_table After al ac marker im) good fs run back (all_but_last (q ∷ rs)) l.0 qs f (subst P l.1 i) j
same_blocks Before al ac marker im good fs run back qs q rs f i j =
    let om = map flip im in
    let L = cut_lines marker (backwards (fs ++ (run ++ back))) in
    let P : List (List ℕ) → Type 0 = λ xs. IsImage om (backwards qs) xs in
    let j1 = subst P (backwards_twice L) (image_backwards im om (flipped im) qs (backwards L) j) in
    let j2 = subst P (ap (cut_lines marker) (three_backwards fs run back)) j1 in
    let i1 = image_backwards im om (flipped im) (q ∷ rs) run i in
    let r = in_whole (step_table Before al ac marker im) good (backwards back) (backwards run) (backwards fs) (backwards rs) q (backwards qs) (filled_backwards run f) i1 j2 in
    let e : qs ≡ backwards r.1 ++ (rs ++ backwards r.0) =
    sym (backwards_twice qs) ∙ (ap backwards r.2 ∙ (three_backwards r.0 (backwards rs) r.1 ∙ ap (λ (ws : List (List ℕ)). backwards r.1 ++ (ws ++ backwards r.0)) (backwards_twice rs))) in
    (backwards r.1, backwards r.0, e, image_backwards om im (unflipped im) r.0 (cut_front marker (backwards back)) r.3)

filled_behind : (fs ls : List (List ℕ)) → AllFilled (fs ++ ls) → AllFilled ls
filled_behind [] ls h = h
filled_behind ([] ∷ fs) ls h = absurd h
filled_behind ((a ∷ as') ∷ fs) ls h = filled_behind fs ls h

filled_before : (ls back : List (List ℕ)) → AllFilled (ls ++ back) → AllFilled ls
filled_before [] back h = tt
filled_before ([] ∷ ls) back h = absurd h
filled_before ((a ∷ as') ∷ ls) back h = filled_before ls back h

-- the same, for coarse lines of which there is one
pub same_blocks_of : (side : Side) (al ac : ℕ → ℕ → Bool) (marker : ℕ → Bool) (im : List Image) → IsGood (step_table side al ac marker im)
    → (ls fs run back qs rs : List (List ℕ)) → AllFilled ls → ls ≡ fs ++ (run ++ back) → 1 ≤ length rs → IsImage im rs run → IsImage im qs (cut side marker ls)
    → (qa : List (List ℕ)) × (qb : List (List ℕ)) × (qs ≡ qa ++ (closed side rs ++ qb)) × Fills side marker im qa qb fs back
same_blocks_of side al ac marker im good ls fs run back qs [] f e some i j = absurd (omega arith)
same_blocks_of side al ac marker im good ls fs run back qs (q ∷ rs) f e some i j =
    let P : List (List ℕ) → Type 0 = λ xs. IsImage im qs (cut side marker xs) in
    same_blocks side al ac marker im good fs run back qs q rs (filled_before run back (filled_behind fs (run ++ back) (subst AllFilled e f))) i (subst P e j)
