-- Each field that begins with no marker line is the image of one coarse field, up to a cut last line.
use Rattle.std.proofs.Common.{◌≡◌, ◌⊎◌, ℕ, List, [], ◌∷◌, Bool, true, false, refl, sym, inl, inr, subst}
use Rattle.wt_grid.specs.declared.image.Image.TheVariants.{One as Single, Two as Double}
use Rattle.wt_grid.specs.Lines.{Table, IsGood, IsAcross, IsBeside, IsField, Singles, Pairs, IsImage, is_marker_line, cut_end, AllFilled, Begins}

-- each cell of a line is a marker, or none is
abbrev pub AllFlagged : (ℕ → Bool) → Bool → List ℕ → Type 0
AllFlagged m f [] = Unit {0}
AllFlagged m f (a ∷ as') = (m a ≡ f) × AllFlagged m f as'

pub flag : (b : Bool) → (b ≡ true) ⊎ (b ≡ false)
flag true = inl refl
flag false = inr refl

module _ (t : Table) (good : IsGood t) where
  flagged : (a : ℕ) (bs : List ℕ) → IsAcross t.across (a ∷ bs) → AllFlagged t.marker (t.marker a) (a ∷ bs)
  flagged a [] h = (refl, tt)
  flagged a (b ∷ bs) h =
      let e : t.marker a ≡ t.marker b = good.uniform a b h.0 in
      let rest = flagged b bs h.1 in
      (refl, let P : Bool → Type 0 = λ f. AllFlagged t.marker f (b ∷ bs) in subst P (sym e) rest)

  singles : (us vs : List ℕ) → IsBeside t.along us vs → AllFlagged t.marker false us → AllFlagged t.marker false vs → (q : List ℕ) × Singles t.images q us
  singles [] [] b m n = ([], tt)
  singles [] (v ∷ vs) b m n = absurd b
  singles (u ∷ us) [] b m n = absurd b
  singles (u ∷ us) (v ∷ vs) b m n =
      let i = good.has_ones u v b.0 m.0 n.0 in
      let rest = singles us vs b.1 m.1 n.1 in
      (i.0 ∷ rest.0, (i.1, rest.1))

  pairs : (us vs : List ℕ) → IsBeside t.along us vs → AllFlagged t.marker false us → AllFlagged t.marker true vs → (q : List ℕ) × Pairs t.images q us vs
  pairs [] [] b m n = ([], tt)
  pairs [] (v ∷ vs) b m n = absurd b
  pairs (u ∷ us) [] b m n = absurd b
  pairs (u ∷ us) (v ∷ vs) b m n =
      let i = good.has_twos u v b.0 m.0 n.0 in
      let rest = pairs us vs b.1 m.1 n.1 in
      (i.0 ∷ rest.0, (i.1, rest.1))

  -- what a field is cut into blocks gives
  abbrev Parsed : List (List ℕ) → Type 0
  Parsed ls = (qs : List (List ℕ)) × IsImage t.images qs (cut_end t.marker ls)

  -- a block of one line before what the rest is cut into
  pub before_one : (q u : List ℕ) (rest : List (List ℕ)) (qs : List (List ℕ)) → Singles t.images q u → IsImage t.images qs rest → IsImage t.images (q ∷ qs) (u ∷ rest)
  before_one q u [] qs s i = (s, i)
  before_one q u (v ∷ rest) qs s i = inl (s, i)

  pub before_two : (q u v : List ℕ) (rest : List (List ℕ)) (qs : List (List ℕ)) → Pairs t.images q u v → IsImage t.images qs rest → IsImage t.images (q ∷ qs) (u ∷ v ∷ rest)
  before_two q u v rest qs p i = inr (p, i)

  to_false : (a : ℕ) (f : Bool) (xs : List ℕ) → t.marker a ≡ f → AllFlagged t.marker (t.marker a) xs → AllFlagged t.marker f xs
  to_false a f xs e h = let P : Bool → Type 0 = λ g. AllFlagged t.marker g xs in subst P e h

  field_rest : (u : List ℕ) (ls : List (List ℕ)) → IsField t.along t.across (u ∷ ls) → IsField t.along t.across ls
  field_rest u [] f = tt
  field_rest u (v ∷ ls) f = f.2

  field_line : (u : List ℕ) (ls : List (List ℕ)) → IsField t.along t.across (u ∷ ls) → IsAcross t.across u
  field_line u [] f = f
  field_line u (v ∷ ls) f = f.0

  -- behind a marker line no marker line comes
  begins_behind : (a : ℕ) (as' : List ℕ) (ls : List (List ℕ)) → AllFilled ls → t.marker a ≡ true → IsField t.along t.across ((a ∷ as') ∷ ls) → Begins t.marker ls
  begins_behind a as' [] n m f = tt
  begins_behind a as' ([] ∷ ls) n m f = absurd n
  begins_behind a as' ((b ∷ bs) ∷ ls) n m f = no_other (t.marker b) refl
    where
      no_other : (f' : Bool) → t.marker b ≡ f' → t.marker b ≡ false
      no_other false e = e
      no_other true e = absurd (good.apart a b f.1.0 m e)

  cut_behind : (v : List ℕ) (ls : List (List ℕ)) → is_marker_line t.marker v ≡ true → cut_end t.marker (v ∷ ls) ≡ v ∷ cut_end t.marker ls
  cut_behind v [] m = rw m refl
  cut_behind v (w ∷ ls) m = refl

  -- Each field that begins with no marker line is the image of coarse lines, up to a cut last line.
  pub parse : (ls : List (List ℕ)) → AllFilled ls → IsField t.along t.across ls → Begins t.marker ls → Parsed ls
  parse [] n f b = ([], tt)
  parse (u ∷ []) n f b = ([], rw b tt)
  parse ([] ∷ v ∷ ls) n f b = absurd n
  parse ((a ∷ as') ∷ [] ∷ ls) n f b = absurd n
  parse ((a ∷ as') ∷ (c ∷ cs) ∷ ls) n f b =
      elim (flag (t.marker c)) [
        | inl m ↦
            let p = pairs (a ∷ as') (c ∷ cs) f.1 (to_false a false (a ∷ as') b (flagged a as' f.0)) (to_false c true (c ∷ cs) m (flagged c cs (field_line (c ∷ cs) ls f.2))) in
            let r = parse ls n (field_rest (c ∷ cs) ls f.2) (begins_behind c cs ls n m f.2) in
            (p.0 ∷ r.0, rw (cut_behind (c ∷ cs) ls m) (before_two p.0 (a ∷ as') (c ∷ cs) (cut_end t.marker ls) r.0 p.1 r.1))
        | inr m ↦
            let s = singles (a ∷ as') (c ∷ cs) f.1 (to_false a false (a ∷ as') b (flagged a as' f.0)) (to_false c false (c ∷ cs) m (flagged c cs (field_line (c ∷ cs) ls f.2))) in
            let r = parse ((c ∷ cs) ∷ ls) n f.2 m in
            (s.0 ∷ r.0, before_one s.0 (a ∷ as') (cut_end t.marker ((c ∷ cs) ∷ ls)) r.0 s.1 r.1)
      ]

  -- Singles and pairs have one coarse line.
  pub one_singles : (q q' u : List ℕ) → Singles t.images q u → Singles t.images q' u → q ≡ q'
  one_singles [] [] u s s' = refl
  one_singles [] (j ∷ js) [] s s' = absurd s'
  one_singles [] (j ∷ js) (a ∷ as') s s' = absurd s
  one_singles (i ∷ is) [] [] s s' = absurd s
  one_singles (i ∷ is) [] (a ∷ as') s s' = absurd s'
  one_singles (i ∷ is) (j ∷ js) [] s s' = absurd s
  one_singles (i ∷ is) (j ∷ js) (a ∷ as') s s' =
      let e = good.distinct i j (Single a) s.0 s'.0 in
      let r = one_singles is js as' s.1 s'.1 in
      cc

  pub one_pairs : (q q' u v : List ℕ) → Pairs t.images q u v → Pairs t.images q' u v → q ≡ q'
  one_pairs [] [] u v s s' = refl
  one_pairs [] (j ∷ js) [] [] s s' = absurd s'
  one_pairs [] (j ∷ js) [] (b ∷ bs) s s' = absurd s
  one_pairs [] (j ∷ js) (a ∷ as') v s s' = absurd s
  one_pairs (i ∷ is) [] [] [] s s' = absurd s
  one_pairs (i ∷ is) [] [] (b ∷ bs) s s' = absurd s
  one_pairs (i ∷ is) [] (a ∷ as') v s s' = absurd s'
  one_pairs (i ∷ is) (j ∷ js) [] v s s' = absurd s
  one_pairs (i ∷ is) (j ∷ js) (a ∷ as') [] s s' = absurd s
  one_pairs (i ∷ is) (j ∷ js) (a ∷ as') (b ∷ bs) s s' =
      let e = good.distinct i j (Double a b) s.0 s'.0 in
      let r = one_pairs is js as' bs s.1 s'.1 in
      cc

  -- a block begins with no marker line
  pub block_begins : (qs : List (List ℕ)) (b : ℕ) (bs : List ℕ) (ls : List (List ℕ)) → IsImage t.images qs ((b ∷ bs) ∷ ls) → t.marker b ≡ false
  block_begins [] b bs ls i = absurd i
  block_begins ([] ∷ qs) b bs [] i = absurd i.0
  block_begins ((q ∷ q') ∷ qs) b bs [] i = good.ones q b i.0.0
  block_begins (q ∷ qs) b bs (v ∷ ls) i = elim i [ inl s ↦ in_single q s.0 | inr p ↦ in_pair q v p.0 ]
    where
      in_single : (q : List ℕ) → Singles t.images q (b ∷ bs) → t.marker b ≡ false
      in_single [] s = absurd s
      in_single (j ∷ js) s = good.ones j b s.0

      in_pair : (q v : List ℕ) → Pairs t.images q (b ∷ bs) v → t.marker b ≡ false
      in_pair [] v p = absurd p
      in_pair (j ∷ js) [] p = absurd p
      in_pair (j ∷ js) (c ∷ cs) p = (good.twos j b c p.0).0

  -- the second line of a pair is a marker line
  pub pair_ends : (q u : List ℕ) (b : ℕ) (bs : List ℕ) → Pairs t.images q u (b ∷ bs) → t.marker b ≡ true
  pair_ends [] [] b bs p = absurd p
  pair_ends [] (a ∷ as') b bs p = absurd p
  pair_ends (j ∷ js) [] b bs p = absurd p
  pair_ends (j ∷ js) (a ∷ as') b bs p = (good.twos j a b p.0).1

  pub not_both : (b : ℕ) → t.marker b ≡ true → t.marker b ≡ false → ⊥
  not_both b m n = cc

  -- Two coarse fields of one image are one.
  pub one_parse : (ls qs qs' : List (List ℕ)) → AllFilled ls → IsImage t.images qs ls → IsImage t.images qs' ls → qs ≡ qs'
  one_parse [] [] [] n i i' = refl
  one_parse [] [] (q ∷ qs) n i i' = absurd i'
  one_parse [] (q ∷ qs) qs' n i i' = absurd i
  one_parse (u ∷ ls) [] qs' n i i' = absurd i
  one_parse (u ∷ ls) (q ∷ qs) [] n i i' = absurd i'
  one_parse (u ∷ []) (q ∷ qs) (q' ∷ qs') n i i' =
      let e = one_singles q q' u i.0 i'.0 in
      let r = one_parse [] qs qs' tt i.1 i'.1 in
      cc
  one_parse ([] ∷ v ∷ ls) (q ∷ qs) (q' ∷ qs') n i i' = absurd n
  one_parse ((a ∷ as') ∷ [] ∷ ls) (q ∷ qs) (q' ∷ qs') n i i' = absurd n
  one_parse ((a ∷ as') ∷ (b ∷ bs) ∷ ls) (q ∷ qs) (q' ∷ qs') n i i' =
      elim i [
        | inl s ↦ elim i' [
          | inl s' ↦
              let e = one_singles q q' (a ∷ as') s.0 s'.0 in
              let r = one_parse ((b ∷ bs) ∷ ls) qs qs' n s.1 s'.1 in
              cc
          | inr p' ↦ absurd (not_both b (pair_ends q' (a ∷ as') b bs p'.0) (block_begins qs b bs ls s.1))
        ]
        | inr p ↦ elim i' [
          | inl s' ↦ absurd (not_both b (pair_ends q (a ∷ as') b bs p.0) (block_begins qs' b bs ls s'.1))
          | inr p' ↦
              let e = one_pairs q q' (a ∷ as') (b ∷ bs) p.0 p'.0 in
              let r = one_parse ls qs qs' n p.1 p'.1 in
              cc
        ]
      ]
