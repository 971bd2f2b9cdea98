-- Layers that are made one upon the other, and what they give.
use Rattle.std.proofs.Common.{arith, ◌≡◌, ℕ, zero, suc, ◌+◌, ◌-◌, ◌*◌, ◌/◌, ◌%◌, ◌<◌, ◌≤◌, List, [], ◌∷◌, ◌++◌, length, length-append, drop, slice_index, slice_index_or, Bool, true, false, nat_eq, if◌then◌else◌, Option, None, Some, MatchOption, Result, Ok, Err, IfOk, MatchResult, refl, sym, ap, ◌∙◌, subst, inl, inr}
use Rattle.std.specs.List.{list_all}
use Rattle.std.proofs.lemmas.Bool.{and_from, le-leb, lt-ltb, cases_lt}
use Rattle.std.proofs.lemmas.Bool.Decides.{Decides-eqb}
use Rattle.std.proofs.lemmas.List.{get_or-take, get_or-drop, get_or_append_left}
use Rattle.std.proofs.lemmas.List.Recursion.{and_from_places}
use Rattle.std.proofs.Math.Seq.{get_or-append_seam}
use Rattle.std.proofs.Math.Nat.{div-add-mod, mod-lt, mul-mod_left, lt_of_mul-lt-mul_left, div-mul-le_self, le-mul_of_pos_right}
use Rattle.wt_tile.specs.declared.tile.Tile.{Tile}
use Rattle.wt_grid.specs.Order.{is_below}
use Rattle.wt_grid.specs.Shifts.{fill}
use Rattle.wt_strip.specs.declared.making.StripEnd.{StripEnd}
use Rattle.wt_strip.specs.declared.making.StripEnd.TheVariants.{TooManyRows}
use Rattle.wt_strip.specs.declared.making.Stripped.{Stripped}
use Rattle.wt_strip.specs.declared.making.Stripped.TheVariants.{Empty, Filled}
use Rattle.wt_strip.specs.Layers.{IsRow, IsInLayer}
use Rattle.wt_strip.specs.Listed.{rows_in, row_at, IsListOf, IsUpon, IsLayer, HasMore}
use Rattle.wt_strip.specs.Exact.{are_rows, ends_empty, IsExact}
use Rattle.wt_strip.specs.Stripped.{AreFilled, AreStuckUnder, IsStripped, IsStripEnd, HasNoFault}
use Rattle.wt_strip.proofs.Faults.{AreSame, upon_layer, layer_upon, any_default, apart}
use Rattle.wt_strip.proofs.Nexts.{layer_same, more_same}

-- ---- places in a list with one element more

pub at_end : (P : ℕ → List ℕ → Type 0) (made : List (List ℕ)) (cells : List ℕ) → ((k : ℕ) → k < length made → P k (slice_index_or made k [])) → P (length made) cells
    → (k : ℕ) → k < length (made ++ cells ∷ []) → P k (slice_index_or (made ++ cells ∷ []) k [])
at_end P made cells f p k lt = elim (cases_lt k (length made)) [
  | inl l ↦ subst (P k) (sym (get_or_append_left made (cells ∷ []) [] k l)) (f k l)
  | inr ge ↦
      let n = length-append made (cells ∷ []) in
      let e : length made ≡ k = omega (arith, lt, n, ge) in
      subst (λ (i : ℕ). P i (slice_index_or (made ++ cells ∷ []) i [])) e (subst (P (length made)) (sym (get_or-append_seam made cells [] [])) p)
]

pub fill_end : (f : List ℕ → ℕ) (made : List (List ℕ)) (q : List ℕ) → fill f (made ++ q ∷ []) ≡ fill f made + f q
fill_end f [] q = plus (f q)
  where
    plus : (n : ℕ) → n + 0 ≡ 0 + n
    plus n = omega arith
fill_end f (l ∷ made) q = ap (λ (k : ℕ). f l + k) (fill_end f made q) ∙ regroup (f l) (fill f made) (f q)
  where
    regroup : (a b c : ℕ) → a + (b + c) ≡ a + b + c
    regroup a b c = omega arith

positive : (n : ℕ) → (n ≡ 0 → ⊥) → 0 < n
positive zero p = absurd (p refl)
positive (suc n) p = omega arith

-- cells that are some rows are some
pub some_cells : (w : ℕ) (cells : List ℕ) → 1 ≤ w → 0 < rows_in w cells → 0 < length cells
some_cells w cells wide lt =
    let d = div-mul-le_self (length cells) w in
    let m = le-mul_of_pos_right {m = w} (rows_in w cells) wide in
    omega (arith, d, m, lt)

pub ends : (w : ℕ) (made : List (List ℕ)) (cells : List ℕ) → 1 ≤ w → ((k : ℕ) → k < length made → 0 < rows_in w (slice_index_or made k [])) → length cells ≡ 0 → ends_empty (made ++ cells ∷ []) ≡ true
ends w [] cells wide f e = ap (λ (k : ℕ). if nat_eq k 0 then true else false) e
ends w (l ∷ made) cells wide f e = by (nat_eq (length l) 0) refl (some_cells w l wide (f 0 (omega arith))) (ends w made cells wide (λ k lt. f (suc k) (omega arith)) e)
  where
    by : (b : Bool) → nat_eq (length l) 0 ≡ b → 0 < length l → ends_empty (made ++ cells ∷ []) ≡ true → (if b then nat_eq (length (made ++ cells ∷ [])) 0 else ends_empty (made ++ cells ∷ [])) ≡ true
    by true p some r = let h = (Decides-eqb (length l) 0).0 p in absurd (omega (arith, h, some))
    by false p some r = r

-- ---- the cells of rows

pub cell_in : (w : ℕ) (cells : List ℕ) (r x : ℕ) → x < w → slice_index (row_at w cells r) x ≡ slice_index cells (r * w + x)
cell_in w cells r x lt =
    let s : r * w + w - r * w ≡ w = omega arith in
    rw s (get_or-take w (drop (r * w) cells) x 0 lt ∙ get_or-drop (r * w) cells x 0)

pub tiles_of : (n w : ℕ) (cells : List ℕ) → 1 ≤ w → length cells ≡ rows_in w cells * w → ((r : ℕ) → r < rows_in w cells → (x : ℕ) → x < w → slice_index (row_at w cells r) x < n) → list_all (is_below n) cells ≡ true
tiles_of n w cells wide whole h = and_from_places (list_all (is_below n)) (is_below n) refl (λ x xs. refl) cells 0 (λ i lt. lt-ltb (slice_index cells i) n (here i lt))
  where
    turn : (a b : ℕ) → a * b ≡ b * a
    turn a b = grind (arith)

    here : (i : ℕ) → i < length cells → slice_index cells i < n
    here i lt =
        let m = div-add-mod i w in
        let small : i % w < w = mod-lt i wide in
        let t = turn w (i / w) in
        let u = turn (rows_in w cells) w in
        let r : i / w < rows_in w cells = lt_of_mul-lt-mul_left w (omega (arith, m, lt, whole, u)) in
        let e : i / w * w + i % w ≡ i = omega (arith, m, t) in
        let c = cell_in w cells (i / w) (i % w) small in
        let b = h (i / w) r (i % w) small in
        subst (λ (k : ℕ). slice_index cells k < n) e (omega (arith, c, b))

row_of_layer : (ts : List Tile) (w k : ℕ) (q : List ℕ) → IsInLayer ts w k q → IsRow ts w q
row_of_layer ts w zero q h = h
row_of_layer ts w (suc k) q h = h.0

module _ (ts : List Tile) (w : ℕ) (wide : 1 ≤ w) where
  rows_are : (k : ℕ) (cells : List ℕ) → IsLayer (IsInLayer ts w k) w cells → are_rows (length ts) w cells ≡ true
  rows_are k cells h =
      let e : length cells % w ≡ 0 = ap (λ (n : ℕ). n % w) h.sorted.whole ∙ mul-mod_left (rows_in w cells) w in
      and_from (nat_eq (length cells % w) 0) (list_all (is_below (length ts)) cells) (ap (λ (n : ℕ). nat_eq n 0) e)
      (tiles_of (length ts) w cells wide h.sorted.whole (λ r lt x lx. (row_of_layer ts w k (row_at w cells r) (h.lists.right r lt)).tiles x lx))

  pub none_made : (made : List (List ℕ)) → made ≡ [] → AreFilled ts w made
  none_made made e = subst (λ (ls : List (List ℕ)). AreFilled ts w ls) (sym e) (record {
    layers = λ k lt. absurd (omega arith);
    filled = λ k lt. absurd (omega arith);
    few = omega arith;
  })

  pub one_made : (made new : List (List ℕ)) (cells : List ℕ) (n room : ℕ) → AreFilled ts w made → length made ≡ n → room + fill (rows_in w) made ≡ 65536 → IsLayer (IsInLayer ts w (length made)) w cells → rows_in w cells ≤ room → (rows_in w cells ≡ 0 → ⊥) → new ≡ made ++ cells ∷ []
      → AreFilled ts w new × (length new ≡ n + 1) × (room - rows_in w cells + fill (rows_in w) new ≡ 65536)
  one_made made new cells n room f count left h le some e =
      let s = fill_end (rows_in w) made cells in
      let l = length-append made (cells ∷ []) in
      subst (λ (ls : List (List ℕ)). AreFilled ts w ls × (length ls ≡ n + 1) × (room - rows_in w cells + fill (rows_in w) ls ≡ 65536)) (sym e) (
        record {
          layers = at_end (λ k cs. IsLayer (IsInLayer ts w k) w cs) made cells f.layers h;
          filled = at_end (λ k cs. 0 < rows_in w cs) made cells f.filled (positive (rows_in w cells) some);
          few = omega (arith, s, left, le);
        },
        omega (arith, l, count),
        omega (arith, s, left, le),
      )

  pub exact_of : (made : List (List ℕ)) (cells : List ℕ) → w ≤ 64 → length made < 64 → AreFilled ts w made → IsLayer (IsInLayer ts w (length made)) w cells → rows_in w cells ≡ 0
      → IsExact ts (record { width = w; layers = made ++ cells ∷ [] })
  exact_of made cells narrow low f h e =
      let l = length-append made (cells ∷ []) in
      let s = fill_end (rows_in w) made cells in
      let some = f.few in
      let none : length cells ≡ 0 = h.sorted.whole ∙ ap (λ (k : ℕ). k * w) e ∙ nothing w in
      record {
        shape = and_from _ _ (and_from _ _ (and_from _ _ (and_from _ _ (and_from _ _ (and_from _ _ (le-leb 1 w wide) (le-leb w 64 narrow)) (le-leb 1 (length (made ++ cells ∷ [])) (omega (arith, l)))) (le-leb (length (made ++ cells ∷ [])) 64 (omega (arith, l, low))))
            (and_from_places (list_all (are_rows (length ts) w)) (are_rows (length ts) w) refl (λ x xs. refl) (made ++ cells ∷ []) [] (at_end (λ k cs. are_rows (length ts) w cs ≡ true) made cells (λ k lt. rows_are k (slice_index_or made k []) (f.layers k lt)) (rows_are (length made) cells h))))
            (le-leb (fill (rows_in w) (made ++ cells ∷ [])) 65536 (omega (arith, s, some, e))))
            (ends w made cells wide f.filled none);
        layers = at_end (λ k cs. IsListOf (IsInLayer ts w k) w cs) made cells (λ k lt. (f.layers k lt).lists) h.lists;
      }
    where
      nothing : (w : ℕ) → 0 * w ≡ 0
      nothing w = omega arith

  pub empty_of : (made new : List (List ℕ)) (cells : List ℕ) (n limit : ℕ) → w ≤ 64 → limit ≤ 64 → n < limit → length made ≡ n → AreFilled ts w made → IsLayer (IsInLayer ts w (length made)) w cells → rows_in w cells ≡ 0 → new ≡ made ++ cells ∷ []
      → IsStripped ts w limit (Empty (record { width = w; layers = new }))
  empty_of made new cells n limit narrow low lt count f h e is =
      let l = length-append made (cells ∷ []) in
      subst (λ (ls : List (List ℕ)). IsStripped ts w limit (Empty (record { width = w; layers = ls }))) (sym is)
      (exact_of made cells narrow (omega (arith, lt, low, count)) f h e, refl, omega (arith, l, lt, count))

  pub too_many : (made : List (List ℕ)) (n room limit : ℕ) → n < limit → AreFilled ts w made → length made ≡ n → room + fill (rows_in w) made ≡ 65536 → HasMore (IsInLayer ts w (length made)) w room → IsStripEnd ts w limit (TooManyRows (n + 1))
  too_many made n room limit lt f count left more =
      let r : room ≡ 65536 - fill (rows_in w) made = omega (arith, left) in
      (omega arith, (made, omega (arith, count), f, subst (λ (k : ℕ). HasMore (IsInLayer ts w (length made)) w k) r more))

  pub more_rows : (In : List ℕ → Type 0) (cells : List ℕ) (room : ℕ) → IsLayer In w cells → room < rows_in w cells → HasMore In w room
  more_rows In cells room h lt = (cells, h.sorted, h.lists.right, lt)

  -- ---- the layer above those that are made

  pub same_first : (n : ℕ) → n ≡ 0 → AreSame (IsRow ts w) (IsInLayer ts w n)
  same_first n e = subst (λ (k : ℕ). AreSame (IsRow ts w) (IsInLayer ts w k)) (sym e) (record { there = λ q h. h; back = λ q h. h })

  pub same_made : (made : List (List ℕ)) (k : ℕ) (below item : List ℕ) → AreFilled ts w made → (length made ≡ 0 → ⊥) → k ≡ length made - 1 → below ≡ item → item ≡ slice_index_or made k item
      → AreSame (IsUpon ts w 1 below) (IsInLayer ts w (length made))
  same_made made k below item f some e same at =
      let n = positive (length made) some in
      let kl : k < length made = omega (arith, e, n) in
      let here : slice_index_or made k [] ≡ below = sym (same ∙ at ∙ any_default made k item kl) in
      let h = subst (λ (cs : List ℕ). IsLayer (IsInLayer ts w k) w cs) here (f.layers k kl) in
      let s : suc k ≡ length made = omega (arith, e, n) in
      subst (λ (i : ℕ). AreSame (IsUpon ts w 1 below) (IsInLayer ts w i)) s (record {
        there = λ q p. upon_layer ts w k below q h.lists p;
        back = λ q p. layer_upon ts w k below q h.lists p;
      })

-- an answer says the same of a set with the same rows
pub answer_same : {A E : Type 0} (r : Result (Option A) E) (items : A → List ℕ) (In On : List ℕ → Type 0) (w room : ℕ) → AreSame In On
    → IfOk r (λ found. MatchOption found (HasMore In w room) (λ cells. IsLayer In w (items cells)))
    → IfOk r (λ found. MatchOption found (HasMore On w room) (λ cells. IsLayer On w (items cells)))
answer_same (Ok None) items In On w room s h = more_same In On w room s h
answer_same (Ok (Some cells)) items In On w room s h = layer_same In On w (items cells) s h
answer_same (Err e) items In On w room s h = h

-- what is given as empty has no fault
pub no_fault_of : (ts : List Tile) (w limit : ℕ) (found : Stripped) → IsStripped ts w limit found → HasNoFault ts found
no_fault_of ts w limit (Empty l) h = λ f. apart ts l f h.0
no_fault_of ts w limit (Filled g) h = tt

-- the highest layer that is made has a row
pub highest_row : (ts : List Tile) (w : ℕ) (made : List (List ℕ)) → AreFilled ts w made → 1 ≤ length made → IsInLayer ts w (length made - 1) (row_at w (slice_index_or made (length made - 1) []) 0)
highest_row ts w made f some = (f.layers (length made - 1) (omega (arith, some))).lists.right 0 (f.filled (length made - 1) (omega (arith, some)))

-- the stuck rows of one layer more
pub stuck_more : (ts : List Tile) (w h m : ℕ) (stuck new : List (List ℕ)) (rows value : List ℕ) → length stuck ≡ m + 1 → ((k : ℕ) → k < m + 1 → AreStuckUnder ts w h k (slice_index_or stuck k []))
    → AreStuckUnder ts w h (suc m) rows → value ≡ rows → new ≡ stuck ++ value ∷ [] → (length new ≡ m + 1 + 1) × ((k : ℕ) → k < m + 1 + 1 → AreStuckUnder ts w h k (slice_index_or new k []))
stuck_more ts w h m stuck new rows value long told s same en =
    let l = length-append stuck (rows ∷ []) in
    let at : suc m ≡ length stuck = omega (arith, long) in
    let e : new ≡ stuck ++ rows ∷ [] = en ∙ ap (λ (v : List ℕ). stuck ++ v ∷ []) same in
    let size : length (stuck ++ rows ∷ []) ≡ m + 1 + 1 = omega (arith, l, long) in
    subst (λ (ls : List (List ℕ)). (length ls ≡ m + 1 + 1) × ((k : ℕ) → k < m + 1 + 1 → AreStuckUnder ts w h k (slice_index_or ls k []))) (sym e) (
      size,
      λ k lt. at_end (λ i cs. AreStuckUnder ts w h i cs) stuck rows (λ i li. told i (omega (arith, li, long))) (subst (λ (i : ℕ). AreStuckUnder ts w h i rows) at s) k (omega (arith, lt, size)),
    )

pub accepted_of : (ts : List Tile) (w limit : ℕ) (r : Result Stripped StripEnd) → MatchResult r (λ found. IsStripped ts w limit found) (λ end. IsStripEnd ts w limit end) → IfOk r (λ found. HasNoFault ts found)
accepted_of ts w limit (Ok found) h = no_fault_of ts w limit found h
accepted_of ts w limit (Err end) h = tt
