-- Rows that are appended in ascending order.
use Rattle.std.proofs.Common.{arith, ◌≡◌, ℕ, zero, suc, ◌+◌, ◌-◌, ◌*◌, ◌/◌, ◌<◌, ◌≤◌, List, [], ◌∷◌, ◌++◌, length, length-append, take, drop, set, slice_index, refl, sym, ap, ◌∙◌, subst, inl, inr}
use Rattle.std.proofs.Common.{Ordering, Less, Equal, nat_cmp, is_lt}
use Rattle.std.specs.Cmp.{nat_cmp_is}
use Rattle.std.specs.Ordering.{ordering_then}
use Rattle.std.specs.Cmp.Lexicographic.{slice_cmp}
use Rattle.std.proofs.lemmas.Bool.{cases_lt}
use Rattle.std.proofs.lemmas.List.{take-append-le, drop-append-le, length-drop, take_all, get_or-take, length-take-le}
use Rattle.std.proofs.Math.Seq.{drop-append_seam}
use Rattle.std.proofs.lemmas.Nat.{div-mul-add}
use Rattle.std.proofs.Math.Nat.{div-mul-le_self, le-mul_of_pos_right}
use Rattle.wt_tile.specs.declared.tile.Tile.{Tile}
use Rattle.wt_strip.specs.Listed.{rows_in, row_at, is_before, IsListOf, IsSorted}
use Rattle.wt_strip.specs.Walks.{IsWay, MayCome, AreAlike}
use Rattle.wt_strip.specs.Gathered.{AreGathered, HasAllGathered}
use Rattle.wt_strip.proofs.Cells.{row_end, row_long}
use Rattle.wt_strip.proofs.Walked.{kept, agree_on, comes, whole_row, way_cut}

-- ---- one row more

pub one_row : (w : ℕ) (cells q : List ℕ) → 1 ≤ w → length q ≡ w → length cells ≡ rows_in w cells * w
    → (length (cells ++ q) ≡ rows_in w (cells ++ q) * w) × (rows_in w (cells ++ q) ≡ rows_in w cells + 1)
one_row w cells q wide long whole =
    let l = length-append cells q in
    let e : length (cells ++ q) ≡ (rows_in w cells + 1) * w + 0 = l ∙ (ap (λ (k : ℕ). k + length q) whole ∙ (ap (λ (k : ℕ). rows_in w cells * w + k) long ∙ more (rows_in w cells) w)) in
    let d : rows_in w (cells ++ q) ≡ rows_in w cells + 1 = ap (λ (k : ℕ). k / w) e ∙ div-mul-add (rows_in w cells + 1) w 0 wide in
    (e ∙ (none ((rows_in w cells + 1) * w) ∙ ap (λ (k : ℕ). k * w) (sym d)), d)
  where
    more : (n w : ℕ) → n * w + w ≡ (n + 1) * w + 0
    more n w = grind (arith)

    none : (n : ℕ) → n + 0 ≡ n
    none n = omega arith

pub old_row : (w : ℕ) (cells q : List ℕ) (r : ℕ) → 1 ≤ w → r < rows_in w cells → row_at w (cells ++ q) r ≡ row_at w cells r
old_row w cells q r wide lt =
    let e = row_end w cells r wide lt in
    let s : r * w + w - r * w ≡ w = omega arith in
    let d = length-drop (r * w) cells in
    rw s (ap (take w) (drop-append-le (r * w) cells q (omega (arith, e))) ∙ take-append-le w (drop (r * w) cells) q (omega (arith, d, e)))

pub new_row : (w : ℕ) (cells q : List ℕ) → length q ≡ w → length cells ≡ rows_in w cells * w → row_at w (cells ++ q) (rows_in w cells) ≡ q
new_row w cells q long whole =
    let s : rows_in w cells * w + w - rows_in w cells * w ≡ w = omega arith in
    rw s (ap (λ (k : ℕ). take w (drop k (cells ++ q))) (sym whole) ∙ (ap (take w) (drop-append_seam cells q) ∙ take_all w q (omega (arith, long))))

-- ---- the order of rows that differ in a column

pub before_by : (x : ℕ) (p q : List ℕ) → x < length p → x < length q → AreAlike x p q → slice_index p x < slice_index q x → slice_cmp nat_cmp p q ≡ Less
before_by x [] q lp lq agree lt = absurd (omega arith)
before_by x (a ∷ p) [] lp lq agree lt = absurd (omega arith)
before_by zero (a ∷ p) (b ∷ q) lp lq agree lt =
    ap (λ (o : Ordering). ordering_then o (slice_cmp nat_cmp p q)) (sym (nat_cmp_is a b Less lt))
before_by (suc x) (a ∷ p) (b ∷ q) lp lq agree lt =
    ap (λ (o : Ordering). ordering_then o (slice_cmp nat_cmp p q)) (sym (nat_cmp_is a b Equal (agree 0 (omega arith))))
    ∙ before_by x p q (omega arith) (omega arith) (λ k lk. agree (suc k) (omega arith)) lt

module _ (ts : List Tile) (allowed : List (List ℕ)) (w : ℕ) (wide : 1 ≤ w) where
  -- nothing is gathered yet
  pub begin : (x : ℕ) (start old : List ℕ) → length old ≡ rows_in w old * w → AreGathered ts allowed w x 0 start old old
  begin x start old whole = record {
    whole = whole;
    longer = omega arith;
    kept = λ r lt. refl;
    ways = λ r le lt. absurd (omega arith);
    agree = λ r le lt. absurd (omega arith);
    below = λ r le lt. absurd (omega arith);
    ascending = λ r le lt. absurd (omega arith);
  }

  -- the whole row is gathered
  pub leaf : (row old new : List ℕ) → length old ≡ rows_in w old * w → IsWay ts allowed w row → new ≡ old ++ take w row → length (take w row) ≡ w → IsWay ts allowed w (take w row)
      → AreAlike w (take w row) row → slice_index (take w row) w < length ts → AreGathered ts allowed w w (length ts) row old new
  leaf row old new whole way e long cut agree low =
      let one = one_row w old (take w row) wide long whole in
      let last = new_row w old (take w row) long whole in
      subst (λ (cells : List ℕ). AreGathered ts allowed w w (length ts) row old cells) (sym e) (record {
        whole = one.0;
        longer = let n = one.1 in omega (arith, n);
        kept = λ r lt. old_row w old (take w row) r wide lt;
        ways = λ r le lt. let s : rows_in w old ≡ r = let n = one.1 in omega (arith, n) in subst (λ (k : ℕ). IsWay ts allowed w (row_at w (old ++ take w row) k)) s (subst (λ (q : List ℕ). IsWay ts allowed w q) (sym last) cut);
        agree = λ r le lt. let s : rows_in w old ≡ r = let n = one.1 in omega (arith, n) in subst (λ (k : ℕ). AreAlike w (row_at w (old ++ take w row) k) row) s (subst (λ (q : List ℕ). AreAlike w q row) (sym last) agree);
        below = λ r le lt. let s : rows_in w old ≡ r = let n = one.1 in omega (arith, n) in subst (λ (k : ℕ). slice_index (row_at w (old ++ take w row) k) w < length ts) s (subst (λ (q : List ℕ). slice_index q w < length ts) (sym last) low);
        ascending = λ r le lt. absurd (let n = one.1 in omega (arith, n));
      })

  -- the rows of one tile more
  pub step : (x t n : ℕ) (start row old mid new : List ℕ) → x < w → x < length row → AreAlike x row start
      → AreGathered ts allowed w x t start old mid → AreGathered ts allowed w (x + 1) n (set row x t) mid new → AreGathered ts allowed w x (t + 1) start old new
  step x t n start row old mid new lx lr same a b = record {
    whole = b.whole;
    longer = let p = a.longer in let q = b.longer in omega (arith, p, q);
    kept = λ r lt. b.kept r (let p = a.longer in omega (arith, p)) ∙ a.kept r lt;
    ways = λ r le lt. elim (cases_lt r (rows_in w mid)) [
      | inl l ↦ subst (λ (q : List ℕ). IsWay ts allowed w q) (sym (b.kept r l)) (a.ways r le l)
      | inr ge ↦ b.ways r ge lt
    ];
    agree = λ r le lt. elim (cases_lt r (rows_in w mid)) [
      | inl l ↦ subst (λ (q : List ℕ). AreAlike x q start) (sym (b.kept r l)) (a.agree r le l)
      | inr ge ↦ kept x t (row_at w new r) row start (b.agree r ge lt) same
    ];
    below = λ r le lt. elim (cases_lt r (rows_in w mid)) [
      | inl l ↦ let s = ap (λ (q : List ℕ). slice_index q x) (b.kept r l) in let p = a.below r le l in omega (arith, s, p)
      | inr ge ↦ let s = here r ge lt in omega (arith, s)
    ];
    ascending = λ r le lt. elim (cases_lt (suc r) (rows_in w mid)) [
      | inl l ↦ let p = b.kept r (omega arith) in let q = b.kept (suc r) l in ap (λ (u : List ℕ). is_before u (row_at w new (suc r))) p ∙ (ap (is_before (row_at w mid r)) q ∙ a.ascending r le l)
      | inr ge ↦ elim (cases_lt r (rows_in w mid)) [
        | inl l ↦
            let e = b.kept r l in
            let u = here (suc r) ge lt in
            let v = a.below r le l in
            let s = ap (λ (q : List ℕ). slice_index q x) e in
            let lp = row_long w new r wide (omega arith) in
            let lq = row_long w new (suc r) wide lt in
            ap is_lt (before_by x (row_at w new r) (row_at w new (suc r)) (omega (arith, lp, lx)) (omega (arith, lq, lx))
            (λ k lk. ap (λ (q : List ℕ). slice_index q k) e ∙ (a.agree r le l k lk ∙ sym (kept x t (row_at w new (suc r)) row start (b.agree (suc r) ge lt) same k lk)))
            (omega (arith, u, v, s)))
        | inr g ↦ b.ascending r g lt
      ]
    ];
  }
    where
      here : (r : ℕ) → rows_in w mid ≤ r → r < rows_in w new → slice_index (row_at w new r) x ≡ t
      here r ge lt = b.agree r ge lt x (omega arith) ∙ placed x t row lr
        where
          placed : (x t : ℕ) (row : List ℕ) → x < length row → slice_index (set row x t) x ≡ t
          placed x t [] lt = absurd (omega arith)
          placed zero t (a ∷ row) lt = refl
          placed (suc x) t (a ∷ row) lt = placed x t row (omega arith)

  pub all_step : (x t n : ℕ) (start row old mid new : List ℕ) → x < length row → AreAlike x row start → rows_in w old ≤ rows_in w mid
      → AreGathered ts allowed w (x + 1) n (set row x t) mid new → ((q : List ℕ) → length q ≡ w → IsWay ts allowed w q → slice_index q (x + 1) < n)
      → HasAllGathered ts allowed w x t start old mid → HasAllGathered ts allowed w (x + 1) n (set row x t) mid new → HasAllGathered ts allowed w x (t + 1) start old new
  all_step x t n start row old mid new lr same longer b low first rest = λ q long way agree lt. elim (cases_lt (slice_index q x) t) [
    | inl l ↦
        let f = first q long way agree l in
        let p = b.longer in
        let v = f.2 in
        (f.0, f.1, omega (arith, p, v), b.kept f.0 f.2 ∙ f.3)
    | inr ge ↦
        let e : slice_index q x ≡ t = omega arith in
        let f = rest q long way (agree_on x t q row start lr same agree e) (low q long way) in
        let v = f.1 in
        (f.0, omega (arith, v, longer), f.2, f.3)
  ]

  pub all_to : (x from t : ℕ) (start old mid : List ℕ) → x < w → ((u : ℕ) → from ≤ u → u < t → MayCome ts allowed start x u → ⊥)
      → HasAllGathered ts allowed w x from start old mid → HasAllGathered ts allowed w x t start old mid
  all_to x from t start old mid lx bar all = λ q long way agree lt. elim (cases_lt (slice_index q x) from) [
    | inl l ↦ all q long way agree l
    | inr ge ↦ absurd (bar (slice_index q x) ge lt (comes ts allowed w x q start lx agree way))
  ]

  pub lift : (x t n : ℕ) (start old mid : List ℕ) → t ≤ n → AreGathered ts allowed w x t start old mid → AreGathered ts allowed w x n start old mid
  lift x t n start old mid le g = record {
    whole = g.whole;
    longer = g.longer;
    kept = g.kept;
    ways = g.ways;
    agree = g.agree;
    below = λ r ge lt. let b = g.below r ge lt in omega (arith, b);
    ascending = g.ascending;
  }

  past : (xs : List ℕ) (k : ℕ) → length xs ≤ k → slice_index xs k ≡ 0
  past [] k le = refl
  past (a ∷ xs) zero le = absurd (omega arith)
  past (a ∷ xs) (suc k) le = past xs k (omega arith)

  -- behind the last column a row counts as having tile 0
  pub low_at : (x : ℕ) (q : List ℕ) → x ≤ w → length q ≡ w → IsWay ts allowed w q → slice_index q x < length ts
  low_at x q le long way = elim (cases_lt x w) [
    | inl l ↦ way.tiles x l
    | inr ge ↦ let p = past q x (omega (arith, long)) in let t = way.tiles 0 (omega arith) in omega (arith, p, t)
  ]

  pub leaf_row : (x : ℕ) (row old new : List ℕ) → x ≡ w → length old ≡ rows_in w old * w → IsWay ts allowed x row → new ≡ old ++ take w row → AreGathered ts allowed w x (length ts) row old new
  leaf_row x row old new same whole way e =
      let at_w : IsWay ts allowed w row = subst (λ (k : ℕ). IsWay ts allowed k row) same way in
      let long = length-take-le w row at_w.long in
      let p = past (take w row) w (omega (arith, long)) in
      let t = at_w.tiles 0 (omega arith) in
      subst (λ (k : ℕ). AreGathered ts allowed w k (length ts) row old new) (sym same)
      (leaf row old new whole at_w e long (way_cut ts allowed w row at_w) (λ k lk. get_or-take w row k 0 lk) (omega (arith, p, t)))

  pub leaf_all : (x : ℕ) (row old new : List ℕ) → x ≡ w → length old ≡ rows_in w old * w → IsWay ts allowed x row → new ≡ old ++ take w row → HasAllGathered ts allowed w x (length ts) row old new
  leaf_all x row old new same whole way e = λ q long way_q agree lt.
      let at_w : IsWay ts allowed w row = subst (λ (k : ℕ). IsWay ts allowed k row) same way in
      let cut = length-take-le w row at_w.long in
      let one = one_row w old (take w row) wide cut whole in
      let n : rows_in w new ≡ rows_in w old + 1 = ap (rows_in w) e ∙ one.1 in (
        rows_in w old,
        omega arith,
        omega (arith, n),
        ap (λ (cells : List ℕ). row_at w cells (rows_in w old)) e ∙ (new_row w old (take w row) cut whole
            ∙ whole_row w q row long at_w.long (subst (λ (k : ℕ). AreAlike k q row) same agree)),
      )

  pub none_yet : rows_in w [] ≤ 0
  none_yet =
      let d = div-mul-le_self (length {A = ℕ} []) w in
      let m = le-mul_of_pos_right {m = w} (rows_in w []) wide in
      omega (arith, d, m)

  pub lists_of : (more : List (List ℕ)) (start new : List ℕ) → ((q : List ℕ) → IsWay ts allowed w q → IsWay ts more w q) → ((q : List ℕ) → IsWay ts more w q → IsWay ts allowed w q)
      → AreGathered ts allowed w 0 (length ts) start [] new → HasAllGathered ts allowed w 0 (length ts) start [] new
      → IsListOf (λ q. (length q ≡ w) × IsWay ts more w q) w new
  lists_of more start new there back g all = record {
    ascending = λ r lt. g.ascending r (low r) lt;
    right = λ r lt. (row_long w new r wide lt, there (row_at w new r) (g.ways r (low r) lt));
    whole = λ q p.
        let way = back q p.1 in
        let f = all q p.0 way (λ k lk. absurd (omega (arith, lk))) (way.tiles 0 (omega arith)) in
        (f.0, f.2, f.3);
  }
    where
      low : (r : ℕ) → rows_in w [] ≤ r
      low r = let n = none_yet in omega (arith, n)

  pub lists_from : (more : List (List ℕ)) (start old new : List ℕ) → old ≡ [] → ((q : List ℕ) → IsWay ts allowed w q → IsWay ts more w q) → ((q : List ℕ) → IsWay ts more w q → IsWay ts allowed w q)
      → AreGathered ts allowed w 0 (length ts) start old new → HasAllGathered ts allowed w 0 (length ts) start old new
      → IsListOf (λ q. (length q ≡ w) × IsWay ts more w q) w new
  lists_from more start old new e there back g all =
      lists_of more start new there back (subst (λ (cells : List ℕ). AreGathered ts allowed w 0 (length ts) start cells new) e g)
      (subst (λ (cells : List ℕ). HasAllGathered ts allowed w 0 (length ts) start cells new) e all)

  pub sorted_from : (start old new : List ℕ) → old ≡ [] → AreGathered ts allowed w 0 (length ts) start old new → IsSorted w new
  sorted_from start old new e g =
      let h = subst (λ (cells : List ℕ). AreGathered ts allowed w 0 (length ts) start cells new) e g in
      record { whole = h.whole; ascending = λ r lt. h.ascending r (let n = none_yet in omega (arith, n)) lt }

  pub right_from : (more : List (List ℕ)) (start old new : List ℕ) → old ≡ [] → ((q : List ℕ) → IsWay ts allowed w q → IsWay ts more w q) → AreGathered ts allowed w 0 (length ts) start old new
      → (r : ℕ) → r < rows_in w new → (length (row_at w new r) ≡ w) × IsWay ts more w (row_at w new r)
  right_from more start old new e there g = λ r lt.
      let h = subst (λ (cells : List ℕ). AreGathered ts allowed w 0 (length ts) start cells new) e g in
      (row_long w new r wide lt, there (row_at w new r) (h.ways r (let n = none_yet in omega (arith, n)) lt))
