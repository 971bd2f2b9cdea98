-- The least row upon another, and the least pattern.
use Rattle.std.proofs.Common.{arith, ◌≡◌, ◌⊎◌, ℕ, zero, suc, ◌+◌, ◌-◌, ◌*◌, ◌<◌, ◌≤◌, List, [], ◌++◌, length, take, slice_index, true, refl, sym, ap, ◌∙◌, subst, inl, inr}
use Rattle.std.proofs.lemmas.Bool.{cases_lt}
use Rattle.std.proofs.lemmas.Grind.{same_number_lists}
use Rattle.std.proofs.lemmas.Nat.{mul-add-lt}
use Rattle.std.proofs.lemmas.List.{get_or-take, length-take-le, get_or_append_left, get_or-append_right}
use Rattle.wt_tile.specs.declared.tile.Tile.{Tile}
use Rattle.wt_grid.specs.Grid.{Grid}
use Rattle.wt_grid.specs.Order.{IsBefore}
use Rattle.wt_grid.specs.declared.axis.Axis.TheVariants.{One, Two}
use Rattle.wt_grid.specs.Parts.{IsValid}
use Rattle.wt_tile.specs.Matching.{matches}
use Rattle.wt_pattern.specs.Patterns.{IsPattern}
use Rattle.wt_strip.specs.Layers.{IsRow, IsUnder, IsInLayer}
use Rattle.wt_strip.specs.Listed.{rows_in, row_at, IsListed}
use Rattle.wt_strip.specs.Walks.{is_allowed, IsWay, AreAlike, IsNotBehind}
use Rattle.wt_strip.specs.Stripped.{CanRise, AreStuck, AreStuckUnder, IsNextRow, IsLeastPattern}
use Rattle.wt_strip.proofs.Faults.{AreSame}
use Rattle.wt_strip.proofs.Walked.{row_of_way, under_of_way, way_upon}
use Rattle.wt_strip.proofs.Uponed.{IsTableOf, table_of}
use Rattle.wt_strip.proofs.Nexts.{all_rows}
use Rattle.wt_strip.proofs.Towers.{row_of, cell_at, valid_row, valid_under}
use Rattle.wt_strip.proofs.Rises.{lowest, pattern_rise}
use Rattle.wt_strip.proofs.Gathers.{one_row, old_row, new_row, none_yet}
use Rattle.wt_strip.proofs.Strips.{cell_in}

-- the rows of w columns that their columns allow
abbrev pub IsWhole : List Tile → List (List ℕ) → ℕ → List ℕ → Type 0
IsWhole ts allowed w q = (length q ≡ w) × IsWay ts allowed w q

pub cut_first : (w : ℕ) (row q : List ℕ) → IsNotBehind w row q → IsNotBehind w (take w row) q
cut_first w row q (inl h) = inl (λ k lk. get_or-take w row k 0 lk ∙ h k lk)
cut_first w row q (inr h) =
    let e = get_or-take w row h.0 0 h.1 in
    let lt = h.3 in
    let lw = h.1 in
    inr (h.0, h.1, (λ k lk. get_or-take w row k 0 (omega (arith, lk, lw)) ∙ h.2 k lk), omega (arith, e, lt))

module _ (ts : List Tile) (w y : ℕ) where
  -- row 0 may be any valid row
  pub same_start : (p : List ℕ) (allowed : List (List ℕ)) → y ≡ 0 → w ≤ 64 → ((x t : ℕ) → x < 64 → t < length ts → is_allowed allowed x t ≡ true)
      → AreSame (IsWhole ts allowed w) (IsNextRow ts w y p)
  same_start p allowed e narrow table =
      subst (λ (k : ℕ). AreSame (IsWhole ts allowed w) (IsNextRow ts w k p)) (sym e) (all_rows ts w allowed narrow table)

  -- a later row lies upon the one before
  pub same_next : (p : List ℕ) (allowed : List (List ℕ)) → (y ≡ 0 → ⊥) → length p ≡ w → IsTableOf ts p allowed
      → AreSame (IsWhole ts allowed w) (IsNextRow ts w y p)
  same_next p allowed some long table = go y some
    where
      go : (k : ℕ) → (k ≡ 0 → ⊥) → AreSame (IsWhole ts allowed w) (IsNextRow ts w k p)
      go zero some = absurd (some refl)
      go (suc k) some = record {
        there = λ q h. (row_of_way ts allowed w q h.0 h.1, under_of_way ts allowed w p q (table_of ts w p p allowed refl long table) h.1);
        back = λ q h. (h.0.long, way_upon ts allowed w p q (table_of ts w p p allowed refl long table) h.0 h.1);
      }

-- ---- the rows of the least pattern so far

-- y rows, each upon the one before, of which the last has all others of h upon it; each valid pattern comes at earliest with them
pub record IsBegun (ts : List Tile) (w h y : ℕ) (top cells : List ℕ) : Type 0 where
  pub whole : length cells ≡ y * w
  pub count : rows_in w cells ≡ y
  pub rows : (r : ℕ) → r < y → IsRow ts w (row_at w cells r)
  pub unders : (r : ℕ) → suc r < y → IsUnder ts w (row_at w cells r) (row_at w cells (suc r))
  pub last : (r : ℕ) → y ≡ suc r → row_at w cells r ≡ top
  pub layer : (r : ℕ) → y ≡ suc r → IsInLayer ts w r top
  pub rise : (r : ℕ) → y ≡ suc r → CanRise ts w (h - y) top
  pub least : (k : Grid) → IsPattern ts k → k.width ≡ w → k.height ≡ h → IsNotBehind (y * w) cells k.cells

next_valid : (ts : List Tile) (w y : ℕ) (p q : List ℕ) → IsNextRow ts w y p q → IsRow ts w q
next_valid ts w zero p q h = h
next_valid ts w (suc y) p q h = h.0

next_under : (ts : List Tile) (w y r : ℕ) (p q : List ℕ) → y ≡ suc r → IsNextRow ts w y p q → IsUnder ts w p q
next_under ts w zero r p q e h = absurd (omega (arith, e))
next_under ts w (suc y) r p q e h = h.1

next_layer : (ts : List Tile) (w y : ℕ) (p q : List ℕ) → IsNextRow ts w y p q → ((r : ℕ) → y ≡ suc r → IsInLayer ts w r p) → IsInLayer ts w y q
next_layer ts w zero p q h below = h
next_layer ts w (suc y) p q h below = (h.0, (p, below y refl, h.1))

-- a row more keeps the order
joined : (n w : ℕ) (cells others q r : List ℕ) → length cells ≡ n → AreAlike n cells others → IsNotBehind w q r → ((x : ℕ) → x < w → slice_index r x ≡ slice_index others (n + x)) → IsNotBehind (n + w) (cells ++ q) others
joined n w cells others q r long alike ahead at = elim ahead [
  | inl h ↦ inl (λ j lj. upto w j h (omega arith) lj)
  | inr h ↦
      let lx = h.1 in
      let lt = h.3 in
      let back : slice_index (cells ++ q) (n + h.0) ≡ slice_index q h.0 = behind h.0 in
      let there = at h.0 h.1 in
      inr (n + h.0, omega (arith, lx), (λ j lj. upto h.0 j h.2 (omega (arith, lx)) lj), omega (arith, back, there, lt))
]
  where
    behind : (x : ℕ) → slice_index (cells ++ q) (n + x) ≡ slice_index q x
    behind x = let e : n + x - n ≡ x = omega arith in get_or-append_right cells q n (n + x) 0 long (omega arith) ∙ ap (slice_index q) e

    upto : (m j : ℕ) → AreAlike m q r → m ≤ w → j < n + m → slice_index (cells ++ q) j ≡ slice_index others j
    upto m j h le lj = elim (cases_lt j n) [
      | inl l ↦ get_or_append_left cells q 0 j (omega (arith, long, l)) ∙ alike j l
      | inr ge ↦
          let e : n + (j - n) ≡ j = omega arith in
          subst (λ (k : ℕ). slice_index (cells ++ q) k ≡ slice_index others k) e (behind (j - n) ∙ h (j - n) (omega arith) ∙ at (j - n) (omega arith))
    ]

module _ (ts : List Tile) (w h : ℕ) (wide : 1 ≤ w) where
  pub begun : (top cells : List ℕ) → cells ≡ [] → IsBegun ts w h 0 top cells
  begun top cells e = subst (λ (cs : List ℕ). IsBegun ts w h 0 top cs) (sym e) (record {
    whole = let z : 0 * w ≡ 0 = omega arith in sym z;
    count = let n = none_yet [] [] w wide in omega (arith, n);
    rows = λ r lt. absurd (omega arith);
    unders = λ r lt. absurd (omega arith);
    last = λ r e. absurd (omega (arith, e));
    layer = λ r e. absurd (omega (arith, e));
    rise = λ r e. absurd (omega (arith, e));
    least = λ k p e f. inl (λ j lj. absurd (omega (arith, lj)));
  })

  module _ (y : ℕ) (top cells : List ℕ) (low : y < h) (s : IsBegun ts w h y top cells) where
    -- row y of a pattern that agrees so far can come next
    agreeing : (k : Grid) → IsPattern ts k → k.width ≡ w → k.height ≡ h → AreAlike (y * w) cells k.cells → IsNextRow ts w y top (row_of k y)
    agreeing k p e f alike = go y refl
      where
        product : (a b : ℕ) → a * b ≡ b * a
        product a b = grind (arith)

        valid : (i : ℕ) → i < h → IsRow ts w (row_of k i)
        valid i lt = subst (λ (v : ℕ). IsRow ts v (row_of k i)) e (valid_row ts k p i (omega (arith, lt, f)))

        same : (r : ℕ) → y ≡ suc r → row_of k r ≡ top
        same r ey =
            let before = s.last r ey in
            let lr = (valid r (omega (arith, ey, low))).long in
            let lc = (s.rows r (omega (arith, ey))).long in
            same_number_lists (row_of k r) (row_at w cells r) (omega (arith, lr, lc)) (λ x lx.
            let lw : x < w = omega (arith, lx, lr) in
            let c = cell_at ts k x r (omega (arith, lw, e)) in
            let m = mul-add-lt r w x y (omega (arith, ey)) lw in
            let t = product y w in
            let within : r * w + x < y * w = omega (arith, m, t) in
            c ∙ ap (λ (v : ℕ). slice_index k.cells (r * v + x)) e ∙ sym (alike (r * w + x) within) ∙ sym (cell_in w cells r x lw)) ∙ before

        go : (i : ℕ) → y ≡ i → IsNextRow ts w i top (row_of k i)
        go zero ey = valid 0 (omega (arith, ey, low))
        go (suc r) ey = (
          valid (suc r) (omega (arith, ey, low)),
          subst (λ (p : List ℕ). IsUnder ts w p (row_of k (suc r))) (same r ey) (subst (λ (v : ℕ). IsUnder ts v (row_of k r) (row_of k (suc r))) e (valid_under ts k p r (omega (arith, ey, low, f)))),
        )

    pub step : (q new : List ℕ) → length q ≡ w → IsNextRow ts w y top q → CanRise ts w (h - suc y) q → new ≡ cells ++ q
        → ((r : List ℕ) → IsNextRow ts w y top r → CanRise ts w (h - suc y) r → IsNotBehind w q r) → IsBegun ts w h (y + 1) q new
    step q new long next rise en first =
        let whole : length cells ≡ rows_in w cells * w = s.whole ∙ ap (λ (k : ℕ). k * w) (sym s.count) in
        let one = one_row w cells q wide long whole in
        let n = one.1 in
        let c = s.count in
        let last : row_at w (cells ++ q) y ≡ q = ap (λ (k : ℕ). row_at w (cells ++ q) k) (sym s.count) ∙ new_row w cells q long whole in
        let more : rows_in w (cells ++ q) ≡ y + 1 = omega (arith, n, c) in
        let sy : y + 1 ≡ suc y = omega arith in
        subst (λ (cs : List ℕ). IsBegun ts w h (y + 1) q cs) (sym en) (record {
          whole = one.0 ∙ ap (λ (k : ℕ). k * w) more;
          count = more;
          rows = λ r lt. elim (cases_lt r y) [
            | inl l ↦ rw (old_row w cells q r wide (omega (arith, c, l))) (s.rows r l)
            | inr ge ↦ let e : r ≡ y = omega arith in rw (e, last) (next_valid ts w y top q next)
          ];
          unders = λ r lt. elim (cases_lt (suc r) y) [
            | inl l ↦ rw (old_row w cells q r wide (omega (arith, c, l)), old_row w cells q (suc r) wide (omega (arith, c, l))) (s.unders r l)
            | inr ge ↦
                let e : y ≡ suc r = omega arith in
                rw (old_row w cells q r wide (omega (arith, c, e)), sym e, last, s.last r e) (next_under ts w y r top q e next)
          ];
          last = λ r e. let same : y ≡ r = omega (arith, e) in subst (λ (k : ℕ). row_at w (cells ++ q) k ≡ q) same last;
          layer = λ r e. let same : y ≡ r = omega (arith, e) in subst (λ (k : ℕ). IsInLayer ts w k q) same (next_layer ts w y top q next s.layer);
          rise = λ r e. subst (λ (k : ℕ). CanRise ts w (h - k) q) (sym sy) rise;
          least = λ k p e f. subst (λ (m : ℕ). IsNotBehind m (cells ++ q) k.cells) (size y w) (elim (s.least k p e f) [
            | inl alike ↦ joined (y * w) w cells k.cells q (row_of k y) s.whole alike
                (first (row_of k y) (agreeing k p e f alike) (pattern_rise ts w k p e (h - suc y) y (omega (arith, low, f))))
                (λ x lx. cell_at ts k x y (omega (arith, lx, e)) ∙ ap (λ (v : ℕ). slice_index k.cells (y * v + x)) e)
            | inr b ↦
                let lb = b.1 in
                let sw = s.whole in
                let here = get_or_append_left cells q 0 b.0 (omega (arith, lb, sw)) in
                let less = b.3 in
                inr (b.0, omega (arith, lb), (λ j lj. get_or_append_left cells q 0 j (omega (arith, lj, lb, sw)) ∙ b.2 j lj), omega (arith, here, less))
          ]);
        })
      where
        size : (y w : ℕ) → y * w + w ≡ (y + 1) * w
        size y w = grind (arith)

    -- there is a next row that leads to the top
    pub exists : (highest : List ℕ) → IsInLayer ts w (h - 1) highest → (q : List ℕ) × IsNextRow ts w y top q × CanRise ts w (h - suc y) q
    exists highest inside = go y refl
      where
        go : (i : ℕ) → y ≡ i → (q : List ℕ) × IsNextRow ts w i top q × CanRise ts w (h - suc i) q
        go zero e = lowest ts w (h - 1) highest inside
        go (suc r) e =
            let n : h - y ≡ suc (h - suc (suc r)) = omega (arith, e, low) in
            let c = subst (λ (k : ℕ). CanRise ts w k top) n (s.rise r e) in
            (c.0, (c.1, c.2), c.3)

    module _ (m : ℕ) (em : m ≡ h - 1 - y) (stuck : List ℕ) (t : AreStuckUnder ts w h m stuck) where
      stuck_at : AreStuck ts w (h - suc y) (IsInLayer ts w y) stuck
      stuck_at =
          let a : m ≡ h - suc y = omega (arith, em) in
          let b : h - suc m ≡ y = omega (arith, em, low) in
          subst (λ (i : ℕ). AreStuck ts w i (IsInLayer ts w y) stuck) a (subst (λ (i : ℕ). AreStuck ts w m (IsInLayer ts w i) stuck) b t)

      -- a row that rises isn't stuck
      pub not_stuck : (q : List ℕ) → CanRise ts w (h - suc y) q → IsListed w stuck q → ⊥
      not_stuck q c l = stuck_at.stuck l.0 l.1 (subst (λ (r : List ℕ). CanRise ts w (h - suc y) r) (sym l.2) c)

      pub is_found : (highest : List ℕ) → IsInLayer ts w (h - 1) highest → ((q : List ℕ) → IsNextRow ts w y top q → IsListed w stuck q) → ⊥
      is_found highest inside all = let f = exists highest inside in not_stuck f.0 f.2 (all f.0 f.1)

      pub rises_so : (q : List ℕ) → IsNextRow ts w y top q → (IsListed w stuck q → ⊥) → CanRise ts w (h - suc y) q
      rises_so q next missing = elim (stuck_at.others q (next_layer ts w y top q next s.layer)) [
        | inl l ↦ absurd (missing l)
        | inr c ↦ c
      ]

      pub next_begun : (q new : List ℕ) → length q ≡ w → IsNextRow ts w y top q → (IsListed w stuck q → ⊥) → new ≡ cells ++ q
          → ((r : List ℕ) → IsNextRow ts w y top r → (IsListed w stuck r → ⊥) → IsNotBehind w q r) → IsBegun ts w h (y + 1) q new
      next_begun q new long next missing en first = step q new long next (rises_so q next missing) en (λ r nr c. first r nr (not_stuck r c))

  -- ---- the whole pattern

  pub whole_pattern : (top cells : List ℕ) → 1 ≤ h → IsBegun ts w h h top cells → IsLeastPattern ts w h (record { width = w; height = h; cells = cells })
  whole_pattern top cells high s = record {
    valid = (
      record { wide = wide; high = high; whole = s.whole ∙ turn h w },
      λ x y lx ly. let e = cell_in w cells y x lx in let b = (s.rows y ly).tiles x lx in omega (arith, e, b),
      valid,
    );
    wide = refl;
    high = refl;
    least = λ k p e f. order k (s.whole ∙ sym (p.0.whole ∙ ap (λ (v : ℕ). v * k.height) e ∙ ap (λ (v : ℕ). w * v) f ∙ turn w h)) (s.least k p e f);
  }
    where
      turn : (a b : ℕ) → a * b ≡ b * a
      turn a b = grind (arith)

      valid : IsValid (matches ts) (record { width = w; height = h; cells = cells })
      valid One i j li lj = rw (sym (cell_in w cells j i (omega arith)), sym (cell_in w cells j (suc i) li)) ((s.rows j lj).across i li)
      valid Two i j li lj = rw (sym (cell_in w cells i j lj), sym (cell_in w cells (suc i) j lj)) (s.unders i li j lj)

      order : (k : Grid) → length cells ≡ length k.cells → IsNotBehind (h * w) cells k.cells → (cells ≡ k.cells) ⊎ IsBefore cells k.cells
      order k same (inl alike) = inl (same_number_lists cells k.cells same (λ j lj. alike j (let e = s.whole in omega (arith, lj, e))))
      order k same (inr b) =
          let e = s.whole in
          let lb = b.1 in
          let lc = length-take-le b.0 cells (omega (arith, lb, e)) in
          let lk = length-take-le b.0 k.cells (omega (arith, lb, e, same)) in
          inr (
            b.0,
            same_number_lists (take b.0 cells) (take b.0 k.cells) (omega (arith, lc, lk))
                (λ j lj. let l : j < b.0 = omega (arith, lj, lc) in get_or-take b.0 cells j 0 l ∙ b.2 j l ∙ sym (get_or-take b.0 k.cells j 0 l)),
            b.3,
          )
