-- Lines that repeat themselves at a distance are cut into blocks that do.
use Rattle.std.proofs.Common.{arith, ◌≡◌, ◌⊎◌, ◌≤◌, ◌<◌, ◌+◌, ℕ, zero, suc, List, [], ◌∷◌, ◌++◌, length, take, drop, Bool, true, false, cond, Some, refl, sym, ap, ◌∙◌, subst, inl, inr}
use Rattle.wt_grid.specs.declared.image.Image.TheVariants.{One as Single, Two as Double}
use Rattle.std.proofs.lemmas.List.{take-append-drop}
use Rattle.wt_grid.specs.Lines.{Table, IsGood, IsAcross, IsField, Singles, Pairs, IsImage, is_marker_line, cut_end, AllFilled, Begins, Shift, KeepsBlocks}
use Rattle.wt_grid.specs.Cuts.{cut_front, cut_lines}
use Rattle.wt_grid.specs.Shifts.{Same, Meets, Repeats}
use Rattle.wt_grid.proofs.Cut.{begins, filled_front}
use Rattle.wt_grid.proofs.Others.{split}
use Rattle.wt_grid.proofs.Periods.{shift_blocks}

-- Shifts.

shift_nothing : (R : List ℕ → List ℕ → Type 0) (xs : List (List ℕ)) → Shift R xs []
shift_nothing R [] = tt
shift_nothing R (x ∷ xs) = tt

-- without the first line of each
shift_less : (R : List ℕ → List ℕ → Type 0) (x y : List ℕ) (xs ys : List (List ℕ)) → Shift R (x ∷ xs) (y ∷ ys) → Shift R xs ys
shift_less R x y xs ys s = s.1

drop_more : {A : Type 0} (d : ℕ) (xs : List A) → (drop d xs ≡ []) ⊎ ((x : A) × (drop d xs ≡ x ∷ drop (suc d) xs))
drop_more zero [] = inl refl
drop_more (suc d) [] = inl refl
drop_more zero (x ∷ xs) = inr (x, refl)
drop_more (suc d) (x ∷ xs) = drop_more d xs

drop_none : {A : Type 0} (d : ℕ) (xs : List A) → drop d xs ≡ [] → drop (suc d) xs ≡ []
drop_none zero [] e = refl
drop_none zero (x ∷ xs) e = absurd cc
drop_none (suc d) [] e = refl
drop_none (suc d) (x ∷ xs) e = drop_none d xs e

pub shift_tail : (R : List ℕ → List ℕ → Type 0) (u : List ℕ) (ls : List (List ℕ)) (d : ℕ) → Shift R (u ∷ ls) (drop d (u ∷ ls)) → Shift R ls (drop d ls)
shift_tail R u ls zero s = s.1
shift_tail R u ls (suc d) s = elim (drop_more d ls) [
  | inl e ↦ subst (λ (ys : List (List ℕ)). Shift R ls ys) (sym (drop_none d ls e)) (shift_nothing R ls)
  | inr x ↦ shift_less R u x.0 ls (drop (suc d) ls) (subst (λ (ys : List (List ℕ)). Shift R (u ∷ ls) ys) x.1 s)
]

shift_front : (R : List ℕ → List ℕ → Type 0) (marker : ℕ → Bool) (ls : List (List ℕ)) (d : ℕ) → Shift R ls (drop d ls) → Shift R (cut_front marker ls) (drop d (cut_front marker ls))
shift_front R marker [] d s = s
shift_front R marker (u ∷ ls) d s = go (is_marker_line marker u) refl
  where
    go : (b : Bool) → is_marker_line marker u ≡ b → Shift R (cut_front marker (u ∷ ls)) (drop d (cut_front marker (u ∷ ls)))
    go true e = subst (λ (f : Bool). Shift R (cond f ls (u ∷ ls)) (drop d (cond f ls (u ∷ ls)))) (sym e) (shift_tail R u ls d s)
    go false e = subst (λ (f : Bool). Shift R (cond f ls (u ∷ ls)) (drop d (cond f ls (u ∷ ls)))) (sym e) s

-- what holds of each line
abbrev pub EachLine : (List ℕ → Type 0) → List (List ℕ) → Type 0
EachLine P [] = Unit {0}
EachLine P (u ∷ ls) = P u × EachLine P ls

pub each_drop : (P : List ℕ → Type 0) (d : ℕ) (ls : List (List ℕ)) → EachLine P ls → EachLine P (drop d ls)
each_drop P zero ls h = h
each_drop P (suc d) [] h = tt
each_drop P (suc d) (u ∷ ls) h = each_drop P d ls h.1

filled_drop : (d : ℕ) (ls : List (List ℕ)) → AllFilled ls → AllFilled (drop d ls)
filled_drop zero ls h = h
filled_drop (suc d) [] h = tt
filled_drop (suc d) ([] ∷ ls) h = absurd h
filled_drop (suc d) ((a ∷ as') ∷ ls) h = filled_drop d ls h

pub shift_with : (R : List ℕ → List ℕ → Type 0) (P : List ℕ → Type 0) (xs ys : List (List ℕ)) → Shift R xs ys → EachLine P xs → EachLine P ys → Shift (λ u v. R u v × P u × P v) xs ys
shift_with R P [] ys s p q = tt
shift_with R P (x ∷ xs) [] s p q = tt
shift_with R P (x ∷ xs) (y ∷ ys) s p q = ((s.0, p.0, q.0), shift_with R P xs ys s.1 p.1 q.1)

-- Lines behind their first cells.

drop_singles : (im : List _) (a : ℕ) (q u : List ℕ) → Singles im q u → Singles im (drop a q) (drop a u)
drop_singles im zero q u s = s
drop_singles im (suc a) [] [] s = tt
drop_singles im (suc a) [] (x ∷ xs) s = absurd s
drop_singles im (suc a) (i ∷ is) [] s = absurd s
drop_singles im (suc a) (i ∷ is) (x ∷ xs) s = drop_singles im a is xs s.1

drop_pairs : (im : List _) (a : ℕ) (q u v : List ℕ) → Pairs im q u v → Pairs im (drop a q) (drop a u) (drop a v)
drop_pairs im zero q u v s = s
drop_pairs im (suc a) [] [] [] s = tt
drop_pairs im (suc a) [] [] (y ∷ ys) s = absurd s
drop_pairs im (suc a) [] (x ∷ xs) v s = absurd s
drop_pairs im (suc a) (i ∷ is) [] v s = absurd s
drop_pairs im (suc a) (i ∷ is) (x ∷ xs) [] s = absurd s
drop_pairs im (suc a) (i ∷ is) (x ∷ xs) (y ∷ ys) s = drop_pairs im a is xs ys s.1

module _ (t : Table) (good : IsGood t) where
  same_singles : (q r u v : List ℕ) → Singles t.images q u → Singles t.images r v → Same u v → Same q r
  same_singles [] r u v s k h = tt
  same_singles (i ∷ is) [] u v s k h = tt
  same_singles (i ∷ is) (j ∷ js) [] v s k h = absurd s
  same_singles (i ∷ is) (j ∷ js) (x ∷ xs) [] s k h = absurd k
  same_singles (i ∷ is) (j ∷ js) (x ∷ xs) (y ∷ ys) s k h =
      (good.distinct i j (Single x) s.0 (k.0 ∙ ap (λ (z : ℕ). Some (Single z)) (sym h.0)), same_singles is js xs ys s.1 k.1 h.1)

  same_pairs : (q r u v u' v' : List ℕ) → Pairs t.images q u u' → Pairs t.images r v v' → Same u v → Same u' v' → Same q r
  same_pairs [] r u v u' v' s k h g = tt
  same_pairs (i ∷ is) [] u v u' v' s k h g = tt
  same_pairs (i ∷ is) (j ∷ js) [] v u' v' s k h g = absurd s
  same_pairs (i ∷ is) (j ∷ js) (x ∷ xs) v [] v' s k h g = absurd s
  same_pairs (i ∷ is) (j ∷ js) (x ∷ xs) [] (x' ∷ xs') v' s k h g = absurd k
  same_pairs (i ∷ is) (j ∷ js) (x ∷ xs) (y ∷ ys) (x' ∷ xs') [] s k h g = absurd k
  same_pairs (i ∷ is) (j ∷ js) (x ∷ xs) (y ∷ ys) (x' ∷ xs') (y' ∷ ys') s k h g =
      (good.distinct i j (Double x x') s.0 (k.0 ∙ (ap (λ (z : ℕ). Some (Double z y')) (sym h.0) ∙ ap (λ (z : ℕ). Some (Double x z)) (sym g.0))), same_pairs is js xs ys xs' ys' s.1 k.1 h.1 g.1)

  -- a line that fits across has one flag
  one_flag : (a : ℕ) (c : ℕ) (cs : List ℕ) (x : ℕ) (xs : List ℕ) → IsAcross t.across (c ∷ cs) → drop a (c ∷ cs) ≡ x ∷ xs → t.marker c ≡ t.marker x
  one_flag zero c cs x xs h e = ap t.marker (let z : c ≡ x = cc in z)
  one_flag (suc a) c [] x xs h e = absurd (let z : drop a [] ≡ x ∷ xs = e in none a x xs z)
    where
      none : (a : ℕ) (x : ℕ) (xs : List ℕ) → drop a [] ≡ x ∷ xs → ⊥
      none zero x xs e = cc
      none (suc a) x xs e = cc
  one_flag (suc a) c (d ∷ ds) x xs h e = good.uniform c d h.0 ∙ one_flag a d ds x xs h.1 e

  pub drop_some : (a : ℕ) (u : List ℕ) → a < length u → (x : ℕ) × (xs : List ℕ) × (drop a u ≡ x ∷ xs)
  drop_some a [] lt = absurd (omega arith)
  drop_some zero (x ∷ xs) lt = (x, xs, refl)
  drop_some (suc a) (x ∷ xs) lt = drop_some a xs (omega arith)

  module _ (a b : ℕ) where
    -- lines that fit across and are long enough to be compared
    abbrev pub Long : List ℕ → Type 0
    Long u = (a < length u) × (b < length u) × IsAcross t.across u

    abbrev pub Meet : List ℕ → List ℕ → Type 0
    Meet u v = Meets a b u v × Long u × Long v

    same_flags : (u v : List ℕ) → Meet u v → is_marker_line t.marker u ≡ is_marker_line t.marker v
    same_flags [] v m = absurd (let lt : a < 0 = m.1.0 in omega arith)
    same_flags (c ∷ cs) [] m = absurd (let lt : a < 0 = m.2.0 in omega arith)
    same_flags (c ∷ cs) (d ∷ ds) m =
        let x = drop_some a (c ∷ cs) m.1.0 in
        let y = drop_some b (d ∷ ds) m.2.1 in
        let s : Same (x.0 ∷ x.1) (y.0 ∷ y.1) = subst (λ (w : List ℕ). Same (x.0 ∷ x.1) w) y.2 (subst (λ (w : List ℕ). Same w (drop b (d ∷ ds))) x.2 m.0) in
        one_flag a c cs x.0 x.1 m.1.2 x.2 ∙ (ap t.marker s.0 ∙ sym (one_flag b d ds y.0 y.1 m.2.2 y.2))

    keeps : KeepsBlocks t Meet (Meets a b)
    keeps = record {
      flags = same_flags;
      ones_keep = λ q r u v s k m. same_singles (drop a q) (drop b r) (drop a u) (drop b v) (drop_singles t.images a q u s) (drop_singles t.images b r v k) m.0;
      twos_keep = λ q r u v u' v' s k m n. same_pairs (drop a q) (drop b r) (drop a u) (drop b v) (drop a u') (drop b v') (drop_pairs t.images a q u u' s) (drop_pairs t.images b r v v' k) m.0 n.0;
    }

-- Cutting the end off changes nothing in front of the last line.

end_behind : (marker : ℕ → Bool) (front : List (List ℕ)) (v : List ℕ) (back : List (List ℕ)) → cut_end marker (front ++ v ∷ back) ≡ front ++ cut_end marker (v ∷ back)
end_behind marker [] v back = refl
end_behind marker (u ∷ []) v back = refl
end_behind marker (u ∷ w ∷ front) v back = ap (λ (ls : List (List ℕ)). u ∷ ls) (end_behind marker (w ∷ front) v back)

-- the lines from line d on
drop_at : {A : Type 0} (d : ℕ) (xs : List A) → d + 2 ≤ length xs → (x : A) × (y : A) × (rest : List A) × (drop d xs ≡ x ∷ y ∷ rest)
drop_at zero [] lt = absurd (omega arith)
drop_at zero (x ∷ []) lt = absurd (let h : 2 ≤ 1 = lt in omega arith)
drop_at zero (x ∷ y ∷ rest) lt = (x, y, rest, refl)
drop_at (suc d) [] lt = absurd (omega arith)
drop_at (suc d) (x ∷ xs) lt = drop_at d xs (omega arith)

pub length_front : (marker : ℕ → Bool) (ls : List (List ℕ)) → (length ls ≤ length (cut_front marker ls) + 1) × (length (cut_front marker ls) ≤ length ls)
length_front marker [] = (omega arith, omega arith)
length_front marker (u ∷ ls) = go (is_marker_line marker u) refl
  where
    go : (b : Bool) → is_marker_line marker u ≡ b → (length (u ∷ ls) ≤ length (cut_front marker (u ∷ ls)) + 1) × (length (cut_front marker (u ∷ ls)) ≤ length (u ∷ ls))
    go true e = rw e (omega arith, omega arith)
    go false e = rw e (omega arith, omega arith)

each_front : (P : List ℕ → Type 0) (marker : ℕ → Bool) (ls : List (List ℕ)) → EachLine P ls → EachLine P (cut_front marker ls)
each_front P marker [] h = tt
each_front P marker (u ∷ ls) h = go (is_marker_line marker u) refl
  where
    go : (b : Bool) → is_marker_line marker u ≡ b → EachLine P (cut_front marker (u ∷ ls))
    go true e = rw e h.1
    go false e = rw e h

shorter_drop : {A : Type 0} (d : ℕ) (xs : List A) → length (drop d xs) ≤ length xs
shorter_drop zero xs = omega arith
shorter_drop (suc d) [] = omega arith
shorter_drop (suc d) (x ∷ xs) = let r = shorter_drop d xs in omega arith

module _ (t : Table) (good : IsGood t) (a b : ℕ) where
  -- each line fits across and is long enough
  abbrev pub AllFit : List (List ℕ) → Type 0
  AllFit ls = EachLine (Long t good a b) ls

  first_flag : (ls : List (List ℕ)) (d : ℕ) (v w : List ℕ) (back : List (List ℕ)) → AllFit ls → Begins t.marker ls → Shift (Meets a b) ls (drop d ls) → drop d ls ≡ v ∷ w ∷ back → Long t good a b v → is_marker_line t.marker v ≡ false
  first_flag [] zero v w back f g s e l = absurd cc
  first_flag [] (suc d) v w back f g s e l = absurd cc
  first_flag (u ∷ ls) d v w back f g s e l =
      let m : Meets a b u v = (subst (λ (ys : List (List ℕ)). Shift (Meets a b) (u ∷ ls) ys) e s).0 in
      sym (same_flags t good a b u v (m, f.0, l)) ∙ g

  fit_at : (d : ℕ) (ls : List (List ℕ)) (v w : List ℕ) (back : List (List ℕ)) → AllFit ls → drop d ls ≡ v ∷ w ∷ back → Long t good a b v
  fit_at d ls v w back f e = (subst (λ (ys : List (List ℕ)). EachLine (Long t good a b) ys) e (each_drop (Long t good a b) d ls f)).0

  -- the blocks from line d on, where that line begins one
  blocks_from : (ls : List (List ℕ)) (d c : ℕ) (cs w : List ℕ) (back : List (List ℕ)) (qs : List (List ℕ)) → d ≤ length ls → drop d ls ≡ (c ∷ cs) ∷ w ∷ back → t.marker c ≡ false → IsImage t.images qs (cut_end t.marker ls)
      → (qa : List (List ℕ)) × (qb : List (List ℕ)) × (qs ≡ qa ++ qb) × IsImage t.images qa (take d ls) × IsImage t.images qb (cut_end t.marker (drop d ls))
  blocks_from ls d c cs w back qs le e m i =
      let whole : ls ≡ take d ls ++ (c ∷ cs) ∷ w ∷ back = sym (take-append-drop d ls) ∙ ap (λ (ys : List (List ℕ)). take d ls ++ ys) e in
      let cut : cut_end t.marker ls ≡ take d ls ++ (c ∷ cs) ∷ cut_end t.marker (w ∷ back) = ap (cut_end t.marker) whole ∙ end_behind t.marker (take d ls) (c ∷ cs) (w ∷ back) in
      let r = split t good (take d ls) c cs (cut_end t.marker (w ∷ back)) qs m (subst (λ (ys : List (List ℕ)). IsImage t.images qs ys) cut i) in
      (r.0, r.1, r.2, r.3, subst (λ (ys : List (List ℕ)). IsImage t.images r.1 (cut_end t.marker ys)) (sym e) r.4)

  -- Lines that begin with a block, and repeat themselves d lines on, are cut into blocks that repeat themselves, as many blocks on as fill d lines.
  carry_begun : (ls qs : List (List ℕ)) (d : ℕ) → AllFilled ls → AllFit ls → Begins t.marker ls → d + 2 ≤ length ls → Repeats a b d ls → IsImage t.images qs (cut_end t.marker ls)
      → (qa : List (List ℕ)) × (qb : List (List ℕ)) × (qs ≡ qa ++ qb) × IsImage t.images qa (take d ls) × Shift (Meets a b) qs qb
  carry_begun ls qs d n f g le s i =
      let p = drop_at d ls le in
      at_line p.0 p.1 p.2 p.3 (fit_at d ls p.0 p.1 p.2 f p.3)
    where
      at_line : (v w : List ℕ) (back : List (List ℕ)) → drop d ls ≡ v ∷ w ∷ back → Long t good a b v
          → (qa : List (List ℕ)) × (qb : List (List ℕ)) × (qs ≡ qa ++ qb) × IsImage t.images qa (take d ls) × Shift (Meets a b) qs qb
      at_line [] w back e l = absurd (let lt : a < 0 = l.0 in omega arith)
      at_line (c ∷ cs) w back e l =
          let m = first_flag ls d (c ∷ cs) w back f g s e l in
          let r = blocks_from ls d c cs w back qs (omega arith) e m i in (
            r.0,
            r.1,
            r.2,
            r.3,
            shift_blocks t good (Meet t good a b) (Meets a b) (keeps t good a b) ls (drop d ls) qs r.1 (shorter_drop d ls) n (filled_drop d ls n)
                (shift_with (Meets a b) (Long t good a b) ls (drop d ls) s f (each_drop (Long t good a b) d ls f)) i r.4,
          )

  -- The same for the lines of a core, whose border lines are cut.
  pub carry_cut : (ls qs : List (List ℕ)) (d : ℕ) → AllFilled ls → AllFit ls → IsField t.along t.across ls → d + 3 ≤ length ls → Repeats a b d ls → IsImage t.images qs (cut_lines t.marker ls)
      → (qa : List (List ℕ)) × (qb : List (List ℕ)) × (qs ≡ qa ++ qb) × IsImage t.images qa (take d (cut_front t.marker ls)) × Shift (Meets a b) qs qb
  carry_cut ls qs d n f h le s i =
      let c = length_front t.marker ls in
      carry_begun (cut_front t.marker ls) qs d (filled_front t.marker ls n) (each_front (Long t good a b) t.marker ls f) (begins t good ls n h) (omega arith) (shift_front (Meets a b) t.marker ls d s) i
