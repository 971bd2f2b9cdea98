-- One row up or down, from the level that turns to the bottom.
use Rattle.std.proofs.Common.{arith, ◌≡◌, ◌≤◌, ◌<◌, ◌+◌, ◌*◌, ℕ, zero, suc, Bool, true, false, List, [], ◌∷◌, length, take, drop, slice_get, Some, None, refl, sym, ◌∙◌, ap, cond, subst}
use Rattle.wt_expand.specs.declared.advance.Direction.{Direction}
use Rattle.wt_expand.specs.declared.advance.Direction.TheVariants.{Up, Down}
use Rattle.wt_expand.specs.Levels.{Level}
use Rattle.wt_expand.specs.Rows.{Digit, AreDigits, row_number, rows_under, all_rows}
use Rattle.wt_expand.specs.LaidRows.{has_two, laid, AreLower, AreLast}
use Rattle.wt_expand.specs.Advances.{flips, flipped, flip_from, laid_over, laid_by, laid_under, IsAdvanced, IsLastRow}
use Rattle.wt_expand.proofs.Counting.{at_bottom, at_top, lower_fits, upper_of_two, lowered, raised, carried_down, carried_up}
use Rattle.wt_expand.specs.Blocks.{digit_of, digits}
use Rattle.std.proofs.lemmas.List.{take_all, drop-drop}
use Rattle.wt_expand.proofs.Places.{same_some, some_at, from_level}

-- the row of level d turns, and none below it
abbrev pub IsFlip : Direction → List ℕ → ℕ → List Level → List Digit → Type 0
IsFlip direction renaming d [] ss = ⊥
IsFlip direction renaming d (level ∷ levels) [] = ⊥
IsFlip direction renaming d (level ∷ levels) (s ∷ []) = ⊥
IsFlip direction renaming zero (level ∷ levels) (s ∷ t ∷ ss) = flips direction renaming level s t ≡ true
IsFlip direction renaming (suc d) (level ∷ levels) (s ∷ t ∷ ss) = (flips direction renaming level s t ≡ false) × IsFlip direction renaming d levels (t ∷ ss)

-- no row turns
abbrev pub NoFlip : Direction → List ℕ → List Level → List Digit → Type 0
NoFlip direction renaming [] ss = Unit {0}
NoFlip direction renaming (level ∷ levels) [] = Unit {0}
NoFlip direction renaming (level ∷ levels) (s ∷ []) = Unit {0}
NoFlip direction renaming (level ∷ levels) (s ∷ t ∷ ss) = (flips direction renaming level s t ≡ false) × NoFlip direction renaming levels (t ∷ ss)

record Found (direction : Direction) (renaming : List ℕ) (i j : ℕ) (levels : List Level) (ss : List Digit) : Type 0 where
  d : ℕ
  place : j ≡ i + d
  turn : IsFlip direction renaming d levels ss

module _ (direction : Direction) (renaming : List ℕ) where
  found : (i j : ℕ) (levels : List Level) (ss : List Digit) → flip_from direction renaming i levels ss ≡ Some j → Found direction renaming i j levels ss
  found i j [] ss e = absurd cc
  found i j (level ∷ levels) [] e = absurd cc
  found i j (level ∷ levels) (s ∷ []) e = absurd cc
  found i j (level ∷ levels) (s ∷ t ∷ ss) e = go (flips direction renaming level s t) refl e (found (i + 1) j levels (t ∷ ss))
    where
      go : (b : Bool) → flips direction renaming level s t ≡ b → cond b (Some i) (flip_from direction renaming (i + 1) levels (t ∷ ss)) ≡ Some j
          → (flip_from direction renaming (i + 1) levels (t ∷ ss) ≡ Some j → Found direction renaming (i + 1) j levels (t ∷ ss)) → Found direction renaming i j (level ∷ levels) (s ∷ t ∷ ss)
      go true b f more = let same = same_some i j (Some i) refl f in record { d = 0; place = omega (arith, same); turn = b }
      go false b f more = let r = more f in record { d = suc r.d; place = omega (arith, r.place); turn = (b, r.turn) }

  -- the level that is found turns
  pub flip_found : (j : ℕ) (levels : List Level) (ss : List Digit) → flip_from direction renaming 0 levels ss ≡ Some j → IsFlip direction renaming j levels ss
  flip_found j levels ss e = let f = found 0 j levels ss e in let p : f.d ≡ j = omega (arith, f.place) in subst (λ (d : ℕ). IsFlip direction renaming d levels ss) p f.turn

  pub none_found : (i : ℕ) (levels : List Level) (ss : List Digit) → flip_from direction renaming i levels ss ≡ None → NoFlip direction renaming levels ss
  none_found i [] ss e = tt
  none_found i (level ∷ levels) [] e = tt
  none_found i (level ∷ levels) (s ∷ []) e = tt
  none_found i (level ∷ levels) (s ∷ t ∷ ss) e = go (flips direction renaming level s t) refl e (none_found (i + 1) levels (t ∷ ss))
    where
      go : (b : Bool) → flips direction renaming level s t ≡ b → cond b (Some i) (flip_from direction renaming (i + 1) levels (t ∷ ss)) ≡ None
          → (flip_from direction renaming (i + 1) levels (t ∷ ss) ≡ None → NoFlip direction renaming levels (t ∷ ss)) → (flips direction renaming level s t ≡ false) × NoFlip direction renaming levels (t ∷ ss)
      go true b f more = absurd cc
      go false b f more = (b, more f)

  pub flip_inside : (j : ℕ) (levels : List Level) (ss : List Digit) → IsFlip direction renaming j levels ss → j < length levels
  flip_inside j [] ss turn = absurd turn
  flip_inside j (level ∷ levels) [] turn = absurd turn
  flip_inside j (level ∷ levels) (s ∷ []) turn = absurd turn
  flip_inside zero (level ∷ levels) (s ∷ t ∷ ss) turn = omega arith
  flip_inside (suc j) (level ∷ levels) (s ∷ t ∷ ss) turn = let r = flip_inside j levels (t ∷ ss) turn.1 in omega (arith, r)

-- a row that turns up is the lower one of two
up_flips : (s two : Bool) → cond s false two ≡ true → (s ≡ false) × (two ≡ true)
up_flips true two e = absurd cc
up_flips false two e = (refl, e)

pub stays_last : (s two : Bool) → (s ≡ true → two ≡ true) → cond s false two ≡ false → s ≡ two
stays_last true two inside e = sym (inside refl)
stays_last false two inside e = sym e

-- the same rows, one row on
pub record IsNext (direction : Direction) (w : ℕ) (renaming : List ℕ) (levels : List Level) (old new : List Digit) : Type 0 where
  pub fits : AreDigits w renaming levels new
  pub advanced : IsAdvanced direction (row_number renaming levels old) (row_number renaming levels new)

module _ (w : ℕ) (some : 1 ≤ w) (renaming : List ℕ) where
  flipped_first : (direction : Direction) (level : Level) (levels : List Level) (s t : Digit) (ss : List Digit) → AreDigits w renaming (level ∷ levels) (s ∷ t ∷ ss) → flips direction renaming level s t ≡ true
      → IsNext direction w renaming (level ∷ levels) (s ∷ t ∷ ss) (laid w renaming level t.row (flipped direction) ∷ t ∷ ss)
  flipped_first Up level levels s t ss f turn =
      let u = up_flips s.is_upper (has_two renaming level t.row) turn in
      let r = raised w renaming level levels t ss s f u.0 u.1 in
      record { fits = r.0; advanced = r.1 }
  flipped_first Down level levels s t ss f turn = let r = lowered w renaming level levels t ss s f turn in record { fits = r.0; advanced = r.1 }

  carried : (direction : Direction) (level : Level) (levels : List Level) (s t : Digit) (ss new : List Digit) → AreDigits w renaming (level ∷ levels) (s ∷ t ∷ ss) → flips direction renaming level s t ≡ false
      → IsNext direction w renaming levels (t ∷ ss) new → IsNext direction w renaming (level ∷ levels) (s ∷ t ∷ ss) (laid_by direction w renaming level new)
  carried direction level levels s t ss [] f stays next = absurd (no_rows levels next.fits)
    where
      no_rows : (levels : List Level) → AreDigits w renaming levels [] → ⊥
      no_rows [] f = f
      no_rows (level ∷ levels) f = f
  carried Up level levels s t ss (n ∷ ns) f stays next =
      let last = stays_last s.is_upper (has_two renaming level t.row) (upper_of_two w renaming level levels t ss s f) stays in
      let r = carried_up w renaming level levels n ns some s t ss f.1 next.fits next.advanced last in
      record { fits = r.0; advanced = r.1 }
  carried Down level levels s t ss (n ∷ ns) f stays next =
      let r = carried_down w renaming level levels n ns some s (t ∷ ss) next.fits next.advanced stays in
      record { fits = r.0; advanced = r.1 }

  pub next : (direction : Direction) (d : ℕ) (levels : List Level) (ss : List Digit) (level : Level) → AreDigits w renaming levels ss → IsFlip direction renaming d levels ss → slice_get levels d ≡ Some level
      → IsNext direction w renaming levels ss (laid_under direction w renaming (take d levels) (laid_over w renaming level (flipped direction) (drop (suc d) ss)))
  next direction d [] ss level f turn e = absurd turn
  next direction d (l ∷ ls) [] level f turn e = absurd turn
  next direction d (l ∷ ls) (s ∷ []) level f turn e = absurd turn
  next direction zero (l ∷ ls) (s ∷ t ∷ ss) level f turn e =
      subst (λ (k : Level). IsNext direction w renaming (l ∷ ls) (s ∷ t ∷ ss) (laid w renaming k t.row (flipped direction) ∷ t ∷ ss)) (same_some l level (Some l) refl e) (flipped_first direction l ls s t ss f turn)
  next direction (suc d) (l ∷ ls) (s ∷ t ∷ ss) level f turn e =
      carried direction l ls s t ss (laid_under direction w renaming (take d ls) (laid_over w renaming level (flipped direction) (drop (suc d) (t ∷ ss)))) f turn.0 (next direction d ls (t ∷ ss) level f.1 turn.1 e)

  all_lower : (levels : List Level) (ss : List Digit) → AreDigits w renaming levels ss → NoFlip Down renaming levels ss → AreLower levels ss
  all_lower [] ss f no_flip = tt
  all_lower (level ∷ levels) [] f no_flip = tt
  all_lower (level ∷ levels) (s ∷ []) f no_flip = absurd f
  all_lower (level ∷ levels) (s ∷ t ∷ ss) f no_flip = (no_flip.0, all_lower levels (t ∷ ss) f.1 no_flip.1)

  all_last : (levels : List Level) (ss : List Digit) → AreDigits w renaming levels ss → NoFlip Up renaming levels ss → AreLast renaming levels ss
  all_last [] ss f no_flip = tt
  all_last (level ∷ levels) [] f no_flip = tt
  all_last (level ∷ levels) (s ∷ []) f no_flip = tt
  all_last (level ∷ levels) (s ∷ t ∷ ss) f no_flip =
      (stays_last s.is_upper (has_two renaming level t.row) (upper_of_two w renaming level levels t ss s f) no_flip.0, all_last levels (t ∷ ss) f.1 no_flip.1)

  -- where no row turns, there is no row more on this way
  pub no_next : (direction : Direction) (levels : List Level) (ss : List Digit) → AreDigits w renaming levels ss → NoFlip direction renaming levels ss
      → IsLastRow direction (length (all_rows renaming levels)) (row_number renaming levels ss)
  no_next Down levels ss f no_flip = at_bottom renaming levels ss (all_lower levels ss f no_flip)
  no_next Up [] [] f no_flip = absurd f
  no_next Up (level ∷ levels) [] f no_flip = absurd f
  no_next Up levels (s ∷ ss) f no_flip = at_top w some renaming levels s ss f (all_last levels (s ∷ ss) f no_flip)

  -- the bottom row, and those above it
  pub bottom : (levels : List Level) → AreDigits w renaming levels (laid_under Up w renaming levels (record { row = 0 ∷ []; is_upper = false } ∷ []))
      × (row_number renaming levels (laid_under Up w renaming levels (record { row = 0 ∷ []; is_upper = false } ∷ [])) ≡ 0)
  bottom [] = (refl, refl)
  bottom (level ∷ levels) = go (laid_under Up w renaming levels (record { row = 0 ∷ []; is_upper = false } ∷ [])) (bottom levels)
    where
      go : (ns : List Digit) → AreDigits w renaming levels ns × (row_number renaming levels ns ≡ 0)
          → AreDigits w renaming (level ∷ levels) (laid_by Up w renaming level ns) × (row_number renaming (level ∷ levels) (laid_by Up w renaming level ns) ≡ 0)
      go [] p = absurd (no_rows levels p.0)
        where
          no_rows : (levels : List Level) → AreDigits w renaming levels [] → ⊥
          no_rows [] f = f
          no_rows (level ∷ levels) f = f
      go (n ∷ ns) p = (lower_fits w renaming level levels n ns p.0, ap (λ (y : ℕ). rows_under renaming level levels y + 0) p.1)

  -- the step that the code makes: one block is laid anew, and then all below it
  pub stepped : (direction : Direction) (b j : ℕ) (levels : List Level) (old mid : List ℕ) (flag : Bool) (ss ns : List Digit) → ss ≡ digits b levels old
      → AreDigits w renaming levels ss → flip_from direction renaming 0 levels ss ≡ Some j → flag ≡ flipped direction
      → ((level : Level) → slice_get levels j ≡ Some level → digits b (drop j levels) (drop (j * b) mid) ≡ laid_over w renaming level flag (digits b (drop (j + 1) levels) (drop ((j + 1) * b) old)))
      → ns ≡ laid_under direction w renaming (take j levels) (digits b (drop j levels) (drop (j * b) mid))
      → IsNext direction w renaming levels ss ns
  stepped direction b j levels old mid flag ss ns all f found flagged laid under =
      let turn = flip_found direction renaming j levels ss found in
      let lt = flip_inside direction renaming j levels ss turn in
      let l = some_at levels j lt in
      let n : j + 1 ≡ suc j = omega arith in
      let above = from_level b (j + 1) levels old (omega (arith, lt)) ∙ (ap (drop (j + 1)) (sym all) ∙ ap (λ (k : ℕ). drop k ss) n) in
      let whole = under
      ∙ ap (laid_under direction w renaming (take j levels)) (laid l.0 l.1 ∙ (ap (laid_over w renaming l.0 flag) above ∙ ap (λ (u : Bool). laid_over w renaming l.0 u (drop (suc j) ss)) flagged)) in
      subst (λ (ms : List Digit). IsNext direction w renaming levels ss ms) (sym whole) (next direction j levels ss l.0 f turn l.1)

  -- the bottom row, as the code lays it
  pub begun : (n : ℕ) (levels : List Level) (ns ts : List Digit) → n ≡ length levels → ts ≡ (record { row = 0 ∷ []; is_upper = false } ∷ []) → ns ≡ laid_under Up w renaming (take n levels) ts
      → AreDigits w renaming levels ns × (row_number renaming levels ns ≡ 0)
  begun n levels ns ts e top under =
      let whole : ns ≡ laid_under Up w renaming levels (record { row = 0 ∷ []; is_upper = false } ∷ []) =
      under ∙ (ap (λ (ls : List Level). laid_under Up w renaming ls ts) (take_all n levels (omega (arith, e))) ∙ ap (laid_under Up w renaming levels) top) in
      subst (λ (ms : List Digit). AreDigits w renaming levels ms × (row_number renaming levels ms ≡ 0)) (sym whole) (bottom levels)

-- a row that turns up stands below a row that stands for two
pub two_above : (direction : Direction) (renaming : List ℕ) (b j : ℕ) (levels : List Level) (space : List ℕ) (level : Level) → IsFlip direction renaming j levels (digits b levels space) → slice_get levels j ≡ Some level
    → flipped direction ≡ true → has_two renaming level (digit_of (drop ((j + 1) * b) space)).row ≡ true
two_above direction renaming b j [] space level turn e flag = absurd turn
two_above direction renaming b zero (l ∷ ls) space level turn e flag =
    let n : b ≡ (0 + 1) * b = omega arith in
    let same = same_some l level (Some l) refl e in
    ap (λ (k : Level). has_two renaming k (digit_of (drop ((0 + 1) * b) space)).row) (sym same)
    ∙ (ap (λ (k : ℕ). has_two renaming l (digit_of (drop k space)).row) (sym n) ∙ first direction ls turn flag)
  where
    first : (direction : Direction) (ls : List Level) → IsFlip direction renaming zero (l ∷ ls) (digit_of space ∷ digits b ls (drop b space)) → flipped direction ≡ true → has_two renaming l (digit_of (drop b space)).row ≡ true
    first Up [] turn flag = (up_flips (digit_of space).is_upper (has_two renaming l (digit_of (drop b space)).row) turn).1
    first Up (k ∷ ks) turn flag = (up_flips (digit_of space).is_upper (has_two renaming l (digit_of (drop b space)).row) turn).1
    first Down ls turn flag = absurd cc
two_above direction renaming b (suc j) (l ∷ ls) space level turn e flag =
    let n : b + (j + 1) * b ≡ (suc j + 1) * b = omega arith in
    ap (λ (xs : List ℕ). has_two renaming level (digit_of xs).row) (sym (drop-drop ((j + 1) * b) b space ∙ ap (λ (k : ℕ). drop k space) n))
    ∙ two_above direction renaming b j ls (drop b space) level (later ls turn) e flag
  where
    later : (ls : List Level) → IsFlip direction renaming (suc j) (l ∷ ls) (digit_of space ∷ digits b ls (drop b space)) → IsFlip direction renaming j ls (digits b ls (drop b space))
    later [] turn = turn.1
    later (k ∷ ks) turn = turn.1
