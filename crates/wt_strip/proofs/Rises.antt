-- Rows upon which others can be laid.
use Rattle.std.proofs.Common.{arith, ◌≡◌, ◌⊎◌, ℕ, zero, suc, ◌+◌, ◌-◌, ◌*◌, ◌<◌, ◌≤◌, List, [], ◌++◌, length, slice_index_or, refl, sym, ap, ◌∙◌, subst, inl, inr}
use Rattle.std.proofs.Common.{is_lt}
use Rattle.std.proofs.lemmas.Cmp.{nat_list_cmp_total}
use Rattle.std.proofs.lemmas.Bool.{cases_lt}
use Rattle.wt_tile.specs.declared.tile.Tile.{Tile}
use Rattle.wt_grid.specs.Grid.{Grid}
use Rattle.wt_pattern.specs.Patterns.{IsPattern}
use Rattle.wt_strip.specs.Layers.{IsRow, IsUnder, IsInLayer}
use Rattle.wt_strip.specs.Listed.{rows_in, row_at, IsAscending, IsListed, IsSorted, IsLayer}
use Rattle.wt_strip.specs.Walks.{IsWay}
use Rattle.wt_strip.specs.Stripped.{AreFilled, CanRise, AreStuck, AreStuckUnder}
use Rattle.wt_strip.proofs.Cells.{Before, later}
use Rattle.wt_strip.proofs.Towers.{row_of, valid_row, valid_under}
use Rattle.wt_strip.proofs.Walked.{row_of_way, under_of_way, way_upon}
use Rattle.wt_strip.proofs.Uponed.{IsTableOf, table_of}
use Rattle.wt_strip.proofs.Faults.{any_default}
use Rattle.wt_strip.proofs.Gathers.{one_row, old_row, new_row, none_yet}

nothing_sorted : (w : ℕ) → 1 ≤ w → IsSorted w []
nothing_sorted w wide = record { whole = whole; ascending = λ r lt. absurd (let n = none in omega (arith, n, lt)) }
  where
    none : rows_in w [] ≤ 0
    none = none_yet [] [] w wide

    whole : length {A = ℕ} [] ≡ rows_in w [] * w
    whole = let n : rows_in w [] ≡ 0 = let le = none in omega (arith, le) in rw n (omega arith)

module _ (ts : List Tile) (w : ℕ) where
  -- from a row of layer n down to a valid row upon which n more rows can be laid
  down : (n m : ℕ) (q : List ℕ) → IsInLayer ts w n q → CanRise ts w m q → (p : List ℕ) × IsRow ts w p × CanRise ts w (n + m) p
  down zero m q h c = let e : 0 + m ≡ m = omega arith in (q, h, subst (λ (k : ℕ). CanRise ts w k q) (sym e) c)
  down (suc n) m q h c =
      let e : n + suc m ≡ suc n + m = omega arith in
      let d = down n (suc m) h.1.0 h.1.1 (q, h.0, h.1.2, c) in
      (d.0, d.1, subst (λ (k : ℕ). CanRise ts w k d.0) e d.2)

  pub lowest : (n : ℕ) (q : List ℕ) → IsInLayer ts w n q → (p : List ℕ) × IsRow ts w p × CanRise ts w n p
  lowest n q h =
      let e : n + 0 ≡ n = omega arith in
      let d = down n 0 q h tt in
      (d.0, d.1, subst (λ (k : ℕ). CanRise ts w k d.0) e d.2)

  -- a row upon which one lies that isn't stuck
  pub rises : (n m : ℕ) (p q above : List ℕ) → AreStuck ts w m (IsInLayer ts w (suc n)) above → IsInLayer ts w n p → IsRow ts w q → IsUnder ts w p q → (IsListed w above q → ⊥) → CanRise ts w (suc m) p
  rises n m p q above s h row under missing = elim (s.others q (row, (p, h, under))) [
    | inl l ↦ absurd (missing l)
    | inr c ↦ (q, row, under, c)
  ]

  -- a row upon which none lies but stuck ones
  pub stays : (m : ℕ) (p above : List ℕ) (In : List ℕ → Type 0) → AreStuck ts w m In above → ((q : List ℕ) → IsRow ts w q → IsUnder ts w p q → IsListed w above q) → CanRise ts w (suc m) p → ⊥
  stays m p above In s all c = let l = all c.0 c.1 c.2 in s.stuck l.0 l.1 (subst (λ (q : List ℕ). CanRise ts w m q) (sym l.2) c.3)

  -- no row of the highest layer is stuck
  pub free : (In : List ℕ → Type 0) (cells : List ℕ) → 1 ≤ w → cells ≡ [] → AreStuck ts w 0 In cells
  free In cells wide e = subst (λ (cs : List ℕ). AreStuck ts w 0 In cs) (sym e) (record {
    sorted = nothing_sorted w wide;
    stuck = λ r lt. absurd (let n = none_yet [] [] w wide in omega (arith, n, lt));
    others = λ q h. inr tt;
  })

  -- the stuck rows of the first n rows of a layer
  pub record AreStuckTo (m n : ℕ) (layer cells : List ℕ) : Type 0 where
    pub sorted : IsSorted w cells
    pub low : n < rows_in w layer → (k : ℕ) → k < rows_in w cells → Before (row_at w cells k) (row_at w layer n)
    pub stuck : (k : ℕ) → k < rows_in w cells → CanRise ts w m (row_at w cells k) → ⊥
    pub others : (k : ℕ) → k < n → IsListed w cells (row_at w layer k) ⊎ CanRise ts w m (row_at w layer k)

  pub begin : (m : ℕ) (layer cells : List ℕ) → 1 ≤ w → cells ≡ [] → AreStuckTo m 0 layer cells
  begin m layer cells wide e = subst (λ (cs : List ℕ). AreStuckTo m 0 layer cs) (sym e) (record {
    sorted = nothing_sorted w wide;
    low = λ l k lt. absurd (let n = none_yet [] [] w wide in omega (arith, n, lt));
    stuck = λ r lt. absurd (let n = none_yet [] [] w wide in omega (arith, n, lt));
    others = λ k lt. absurd (omega arith);
  })

  module _ (m n : ℕ) (layer cells : List ℕ) (ascending : IsAscending w layer (rows_in w layer)) (s : AreStuckTo m n layer cells) where
    -- a row that rises is left out
    pub skip : CanRise ts w m (row_at w layer n) → AreStuckTo m (n + 1) layer cells
    skip c = record {
      sorted = s.sorted;
      low = λ l k lk. nat_list_cmp_total.trans _ (row_at w layer n) _ (s.low (omega arith) k lk) (later w layer (rows_in w layer) ascending n (n + 1) (omega arith) l);
      stuck = s.stuck;
      others = λ k lk. elim (cases_lt k n) [
        | inl l ↦ s.others k l
        | inr ge ↦ let e : n ≡ k = omega arith in inr (subst (λ (i : ℕ). CanRise ts w m (row_at w layer i)) e c)
      ];
    }

    -- a stuck one is kept
    pub keep : (q new : List ℕ) → 1 ≤ w → n < rows_in w layer → q ≡ row_at w layer n → length q ≡ w → new ≡ cells ++ q → (CanRise ts w m (row_at w layer n) → ⊥) → AreStuckTo m (n + 1) layer new
    keep q new wide ln eq long en c =
        let one = one_row w cells q wide long s.sorted.whole in
        let more = one.1 in
        let last = new_row w cells q long s.sorted.whole in
        subst (λ (cs : List ℕ). AreStuckTo m (n + 1) layer cs) (sym en) (record {
          sorted = record {
            whole = one.0;
            ascending = λ r lt. elim (cases_lt (suc r) (rows_in w cells)) [
              | inl l ↦ rw (old_row w cells q r wide (omega arith), old_row w cells q (suc r) wide l) (s.sorted.ascending r l)
              | inr ge ↦
                  let e : suc r ≡ rows_in w cells = omega (arith, more, lt) in
                  rw (old_row w cells q r wide (omega arith), e, last, eq) (ap is_lt (s.low ln r (omega arith)))
            ];
          };
          low = λ l k lk. elim (cases_lt k (rows_in w cells)) [
            | inl lt ↦ rw (old_row w cells q k wide lt) (nat_list_cmp_total.trans _ (row_at w layer n) _ (s.low ln k lt) (later w layer (rows_in w layer) ascending n (n + 1) (omega arith) l))
            | inr ge ↦
                let e : k ≡ rows_in w cells = omega (arith, more, lk) in
                rw (e, last, eq) (later w layer (rows_in w layer) ascending n (n + 1) (omega arith) l)
          ];
          stuck = λ k lk. elim (cases_lt k (rows_in w cells)) [
            | inl lt ↦ rw (old_row w cells q k wide lt) (s.stuck k lt)
            | inr ge ↦
                let e : k ≡ rows_in w cells = omega (arith, more, lk) in
                rw (e, last, eq) c
          ];
          others = λ k lk. elim (cases_lt k n) [
            | inl l ↦ elim (s.others k l) [
              | inl f ↦ let lf = f.1 in inl (f.0, omega (arith, more, lf), old_row w cells q f.0 wide f.1 ∙ f.2)
              | inr f ↦ inr f
            ]
            | inr ge ↦ let e : n ≡ k = omega arith in inl (rows_in w cells, omega (arith, more), last ∙ eq ∙ ap (row_at w layer) e)
          ];
        })

  pub done : (m n : ℕ) (layer cells : List ℕ) (In : List ℕ → Type 0) → rows_in w layer ≤ n → IsLayer In w layer → AreStuckTo m n layer cells → AreStuck ts w m In cells
  done m n layer cells In le h s = record {
    sorted = s.sorted;
    stuck = s.stuck;
    others = λ q p. let f = h.lists.whole q p in let lf = f.1 in elim (s.others f.0 (omega (arith, lf, le))) [
      | inl l ↦ inl (l.0, l.1, l.2 ∙ f.2)
      | inr c ↦ inr (subst (λ (r : List ℕ). CanRise ts w m r) f.2 c)
    ];
  }

  -- row y of a valid pattern has the others upon it
  pub pattern_rise : (g : Grid) → IsPattern ts g → g.width ≡ w → (m y : ℕ) → y + m < g.height → CanRise ts w m (row_of g y)
  pattern_rise g p e zero y lt = tt
  pattern_rise g p e (suc m) y lt = (
    row_of g (suc y),
    subst (λ (v : ℕ). IsRow ts v (row_of g (suc y))) e (valid_row ts g p (suc y) (omega arith)),
    subst (λ (v : ℕ). IsUnder ts v (row_of g y) (row_of g (suc y))) e (valid_under ts g p y (omega arith)),
    pattern_rise g p e m (suc y) (omega arith),
  )

-- ---- the layer below m + 1 others, of those that are made

pub layer_under : (ts : List Tile) (w m k : ℕ) (made : List (List ℕ)) (layer item : List ℕ) → AreFilled ts w made → suc m < length made → k ≡ length made - 2 - m → layer ≡ item → item ≡ slice_index_or made k item
    → IsLayer (IsInLayer ts w (length made - suc (suc m))) w layer
layer_under ts w m k made layer item f lt e same at =
    let n : k ≡ length made - suc (suc m) = omega (arith, e, lt) in
    let kl : k < length made = omega (arith, e, lt) in
    let here : layer ≡ slice_index_or made k [] = same ∙ at ∙ any_default made k item kl in
    subst (λ (i : ℕ). IsLayer (IsInLayer ts w i) w layer) n (subst (λ (cs : List ℕ). IsLayer (IsInLayer ts w k) w cs) (sym here) (f.layers k kl))

module _ (ts : List Tile) (w h m : ℕ) (lt : suc m < h) (above p : List ℕ) (allowed : List (List ℕ)) (s : AreStuckUnder ts w h m above) (long : length p ≡ w) (table : IsTableOf ts p allowed) where
  pub rises_under : IsInLayer ts w (h - suc (suc m)) p → ((q : List ℕ) × (length q ≡ w) × IsWay ts allowed w q × (IsListed w above q → ⊥)) → CanRise ts w (suc m) p
  rises_under inside f =
      let e : h - suc m ≡ suc (h - suc (suc m)) = omega (arith, lt) in
      rises ts w (h - suc (suc m)) m p f.0 above (subst (λ (i : ℕ). AreStuck ts w m (IsInLayer ts w i) above) e s) inside
      (row_of_way ts allowed w f.0 f.1 f.2) (under_of_way ts allowed w p f.0 (table_of ts w p p allowed refl long table) f.2) f.3

  pub stays_under : ((q : List ℕ) → length q ≡ w → IsWay ts allowed w q → IsListed w above q) → CanRise ts w (suc m) p → ⊥
  stays_under all = stays ts w m p above (IsInLayer ts w (h - suc m)) s
      (λ q row under. all q row.long (way_upon ts allowed w p q (table_of ts w p p allowed refl long table) row under))
