-- The rows of the next layer, upon some rows of the layer below.
use Rattle.std.proofs.Common.{true, arith, ◌≡◌, ◌⊎◌, ℕ, ◌+◌, ◌<◌, ◌≤◌, List, length, refl, subst, inl, inr}
use Rattle.std.proofs.lemmas.Bool.{cases_lt}
use Rattle.wt_tile.specs.declared.tile.Tile.{Tile}
use Rattle.wt_strip.specs.Layers.{IsRow, IsUnder}
use Rattle.wt_strip.specs.Listed.{rows_in, row_at, IsListOf, IsUpon, IsSorted, IsLayer, HasMore}
use Rattle.wt_strip.specs.Walks.{is_allowed, IsWay}
use Rattle.wt_strip.specs.Merged.{IsUnion, IsUponSome}
use Rattle.wt_strip.proofs.Walked.{row_of_way, under_of_way, way_of_row, way_upon}
use Rattle.wt_strip.proofs.Uponed.{IsTableOf, table_of}
use Rattle.wt_strip.proofs.Faults.{AreSame, lists_same}

module _ (ts : List Tile) (w : ℕ) (below : List ℕ) where
  one_there : (r : ℕ) (row : List ℕ) (allowed : List (List ℕ)) → row ≡ row_at w below r → length row ≡ w → IsTableOf ts row allowed
      → (q : List ℕ) → (length q ≡ w) × IsWay ts allowed w q → IsUponSome ts w below r (r + 1) q
  one_there r row allowed e long table q h =
      (row_of_way ts allowed w q h.0 h.1, (r, omega arith, omega arith, under_of_way ts allowed w (row_at w below r) q (table_of ts w (row_at w below r) row allowed e long table) h.1))

  one_back : (r : ℕ) (row : List ℕ) (allowed : List (List ℕ)) → row ≡ row_at w below r → length row ≡ w → IsTableOf ts row allowed
      → (q : List ℕ) → IsUponSome ts w below r (r + 1) q → (length q ≡ w) × IsWay ts allowed w q
  one_back r row allowed e long table q h =
      let le = h.1.1 in
      let lt = h.1.2 in
      let s : h.1.0 ≡ r = omega (arith, le, lt) in
      (h.0.long, way_upon ts allowed w (row_at w below r) q (table_of ts w (row_at w below r) row allowed e long table) h.0 (subst (λ (k : ℕ). IsUnder ts w (row_at w below k) q) s h.1.3))

  pub layer_one : (r : ℕ) (row cells : List ℕ) (allowed : List (List ℕ)) → row ≡ row_at w below r → length row ≡ w → IsTableOf ts row allowed
      → IsSorted w cells → IsListOf (λ q. (length q ≡ w) × IsWay ts allowed w q) w cells → IsLayer (IsUponSome ts w below r (r + 1)) w cells
  layer_one r row cells allowed e long table s h = record {
    sorted = s;
    lists = lists_same (λ q. (length q ≡ w) × IsWay ts allowed w q) (IsUponSome ts w below r (r + 1)) w cells
        (record { there = one_there r row allowed e long table; back = one_back r row allowed e long table }) h;
  }

  pub more_one : (r room : ℕ) (row cells : List ℕ) (allowed : List (List ℕ)) → row ≡ row_at w below r → length row ≡ w → IsTableOf ts row allowed
      → IsSorted w cells → ((k : ℕ) → k < rows_in w cells → (length (row_at w cells k) ≡ w) × IsWay ts allowed w (row_at w cells k)) → room < rows_in w cells
      → HasMore (IsUponSome ts w below r (r + 1)) w room
  more_one r room row cells allowed e long table s h more = (cells, s, (λ k lt. one_there r row allowed e long table (row_at w cells k) (h k lt)), more)

  -- rows upon fewer rows are rows upon more
  pub wider : (low high a b : ℕ) → a ≤ low → high ≤ b → (q : List ℕ) → IsUponSome ts w below low high q → IsUponSome ts w below a b q
  wider low high a b la hb q h = let le = h.1.1 in let lt = h.1.2 in (h.0, (h.1.0, omega (arith, la, le), omega (arith, lt, hb), h.1.3))

  pub more_wider : (low high a b room : ℕ) → a ≤ low → high ≤ b → HasMore (IsUponSome ts w below low high) w room → HasMore (IsUponSome ts w below a b) w room
  more_wider low high a b room la hb h = (h.0, h.1, (λ r lt. wider low high a b la hb (row_at w h.0 r) (h.2 r lt)), h.3)

  split : (low middle high : ℕ) (q : List ℕ) → IsUponSome ts w below low high q → IsUponSome ts w below low middle q ⊎ IsUponSome ts w below middle high q
  split low middle high q h = elim (cases_lt h.1.0 middle) [
    | inl l ↦ inl (h.0, (h.1.0, h.1.1, l, h.1.3))
    | inr ge ↦ inr (h.0, (h.1.0, ge, h.1.2, h.1.3))
  ]

  joined : (low middle high : ℕ) (a b cells : List ℕ) → low ≤ middle → middle ≤ high → IsLayer (IsUponSome ts w below low middle) w a → IsLayer (IsUponSome ts w below middle high) w b → IsUnion w a b cells
      → (r : ℕ) → r < rows_in w cells → IsUponSome ts w below low high (row_at w cells r)
  joined low middle high a b cells lm mh la lb u r lt = elim (u.from (row_at w cells r) (r, lt, refl)) [
    | inl f ↦ wider low middle low high (omega arith) mh (row_at w cells r) (subst (λ (q : List ℕ). IsUponSome ts w below low middle q) f.2 (la.lists.right f.0 f.1))
    | inr f ↦ wider middle high low high lm (omega arith) (row_at w cells r) (subst (λ (q : List ℕ). IsUponSome ts w below middle high q) f.2 (lb.lists.right f.0 f.1))
  ]

  pub layer_join : (low middle high : ℕ) (a b cells : List ℕ) → low ≤ middle → middle ≤ high → IsLayer (IsUponSome ts w below low middle) w a → IsLayer (IsUponSome ts w below middle high) w b → IsUnion w a b cells
      → IsLayer (IsUponSome ts w below low high) w cells
  layer_join low middle high a b cells lm mh la lb u = record {
    sorted = u.sorted;
    lists = record {
      ascending = u.sorted.ascending;
      right = joined low middle high a b cells lm mh la lb u;
      whole = λ q h. elim (split low middle high q h) [
        | inl f ↦ u.first q (la.lists.whole q f)
        | inr f ↦ u.second q (lb.lists.whole q f)
      ];
    };
  }

  pub more_join : (low middle high room : ℕ) (a b cells : List ℕ) → low ≤ middle → middle ≤ high → IsLayer (IsUponSome ts w below low middle) w a → IsLayer (IsUponSome ts w below middle high) w b → IsUnion w a b cells
      → room < rows_in w cells → HasMore (IsUponSome ts w below low high) w room
  more_join low middle high room a b cells lm mh la lb u more = (cells, u.sorted, joined low middle high a b cells lm mh la lb u, more)

-- ---- sets with the same rows

pub layer_same : (In On : List ℕ → Type 0) (w : ℕ) (cells : List ℕ) → AreSame In On → IsLayer In w cells → IsLayer On w cells
layer_same In On w cells s h = record { sorted = h.sorted; lists = lists_same In On w cells s h.lists }

pub more_same : (In On : List ℕ → Type 0) (w room : ℕ) → AreSame In On → HasMore In w room → HasMore On w room
more_same In On w room s h = (h.0, h.1, (λ r lt. s.there (row_at w h.0 r) (h.2 r lt)), h.3)

pub upon_all : (ts : List Tile) (w : ℕ) (below : List ℕ) → AreSame (IsUponSome ts w below 0 (rows_in w below)) (IsUpon ts w 1 below)
upon_all ts w below = record {
  there = λ q h. (h.0, (h.1.0, h.1.2, h.1.3));
  back = λ q h. (h.0, (h.1.0, omega arith, h.1.1, h.1.2));
}

pub all_rows : (ts : List Tile) (w : ℕ) (allowed : List (List ℕ)) → w ≤ 64 → ((x t : ℕ) → x < 64 → t < length ts → is_allowed allowed x t ≡ true)
    → AreSame (λ q. (length q ≡ w) × IsWay ts allowed w q) (IsRow ts w)
all_rows ts w allowed narrow table = record {
  there = λ q h. row_of_way ts allowed w q h.0 h.1;
  back = λ q h. (h.long, way_of_row ts allowed w q (λ x t lx lt. table x t (omega (arith, lx, narrow)) lt) h);
}
