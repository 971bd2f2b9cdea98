-- Rows that are walked column by column.
use Rattle.std.proofs.Common.{arith, ◌≡◌, ℕ, suc, ◌+◌, ◌<◌, ◌≤◌, List, [], length, take, set, slice_index, Bool, true, false, not, refl, sym, ap, ◌∙◌, subst, inl, inr}
use Rattle.std.proofs.lemmas.Bool.{cases_lt, cases_eq}
use Rattle.std.proofs.lemmas.Grind.{same_number_lists}
use Rattle.std.proofs.lemmas.List.{get_or-take, get_or-set_same, get_or-set_other, length-set, length-take-le}
use Rattle.wt_tile.specs.declared.tile.Tile.{Tile}
use Rattle.wt_grid.specs.declared.axis.Axis.TheVariants.{One, Two}
use Rattle.wt_tile.specs.Matching.{matches}
use Rattle.wt_strip.specs.Layers.{IsRow, IsUnder}
use Rattle.std.specs.Prelude.{◌&&◌, nat_eq, nat_lt}
use Rattle.std.proofs.lemmas.Bool.{lt-ltb}
use Rattle.std.proofs.lemmas.Bool.Decides.{nat_tests}
use Rattle.wt_lane.specs.Masks.{mask_bit}
use Rattle.wt_mask.specs.Masks.{bit}
use Rattle.wt_strip.specs.Walks.{column_allows, is_allowed, IsWay, MayCome, AreAlike, IsNotBehind}

pub was_true : (b : Bool) → not b ≡ false → b ≡ true
was_true true e = refl
was_true false e = absurd cc

-- a row that agrees with the whole row is that row
pub whole_row : (w : ℕ) (q row : List ℕ) → length q ≡ w → w ≤ length row → AreAlike w q row → take w row ≡ q
whole_row w q row long le agree =
    let l = length-take-le w row le in
    same_number_lists (take w row) q (omega (arith, l, long)) (λ k lt. get_or-take w row k 0 (omega (arith, l, lt)) ∙ sym (agree k (omega (arith, l, lt))))

-- one column more
pub agree_on : (x t : ℕ) (q row start : List ℕ) → x < length row → AreAlike x row start → AreAlike x q start → slice_index q x ≡ t → AreAlike (x + 1) q (set row x t)
agree_on x t q row start lt same agree here = λ k lk. elim (cases_lt k x) [
  | inl l ↦ agree k l ∙ sym (same k l) ∙ sym (get_or-set_other row x k t 0 (λ e. absurd (omega (arith, e))))
  | inr ge ↦ let e : k ≡ x = omega arith in rw e (here ∙ sym (get_or-set_same row x t 0 lt))
]

-- the first columns are kept when the next is set and what follows is walked
pub kept : (x t : ℕ) (new row start : List ℕ) → AreAlike (x + 1) new (set row x t) → AreAlike x row start → AreAlike x new start
kept x t new row start after same = λ k lk. after k (omega arith) ∙ get_or-set_other row x k t 0 (λ e. absurd (omega (arith, e))) ∙ same k lk

-- a row that begins alike goes the same way
pub way_same : (ts : List Tile) (allowed : List (List ℕ)) (x : ℕ) (start row : List ℕ) → x ≤ length row → AreAlike x row start → IsWay ts allowed x start → IsWay ts allowed x row
way_same ts allowed x start row le same way = record {
  long = le;
  tiles = λ k lk. rw (same k lk) (way.tiles k lk);
  across = λ k lk. rw (same k (omega arith), same (suc k) lk) (way.across k lk);
  stands = λ k lk. rw (same k lk) (way.stands k lk);
}

-- a tile that may come makes the way longer
pub one_column : (ts : List Tile) (allowed : List (List ℕ)) (x t : ℕ) (row : List ℕ) → x < length row → IsWay ts allowed x row → t < length ts → is_allowed allowed x t ≡ true
    → ((k : ℕ) → x ≡ suc k → matches ts One (slice_index row k) t ≡ true) → IsWay ts allowed (x + 1) (set row x t)
one_column ts allowed x t row lt way low stands across =
    let long = length-set row x t in
    record {
      long = omega (arith, long, lt);
      tiles = λ k lk. elim (cases_lt k x) [
        | inl l ↦ rw (get_or-set_other row x k t 0 (λ e. absurd (omega (arith, e, l)))) (way.tiles k l)
        | inr ge ↦ let e : k ≡ x = omega arith in rw (e, get_or-set_same row x t 0 lt) low
      ];
      across = λ k lk. elim (cases_lt (suc k) x) [
        | inl l ↦ rw (get_or-set_other row x k t 0 (λ e. absurd (omega (arith, e, l))), get_or-set_other row x (suc k) t 0 (λ e. absurd (omega (arith, e, l)))) (way.across k l)
        | inr ge ↦ let e : suc k ≡ x = omega arith in rw (get_or-set_other row x k t 0 (λ d. absurd (omega (arith, e, d))), e, get_or-set_same row x t 0 lt) (across k (sym e))
      ];
      stands = λ k lk. elim (cases_lt k x) [
        | inl l ↦ rw (get_or-set_other row x k t 0 (λ e. absurd (omega (arith, e, l)))) (way.stands k l)
        | inr ge ↦ let e : k ≡ x = omega arith in rw (e, get_or-set_same row x t 0 lt) stands
      ];
    }

-- a row with a lower tile in column x, where rows begin alike, comes first
pub ahead : (w x t : ℕ) (new row start q : List ℕ) → x < w → x < length row → AreAlike (x + 1) new (set row x t) → AreAlike x row start → AreAlike x q start → t < slice_index q x → IsNotBehind w new q
ahead w x t new row start q lw lx after same agree lt =
    let here : slice_index new x ≡ t = after x (omega arith) ∙ get_or-set_same row x t 0 lx in
    inr (x, lw, (λ k lk. kept x t new row start after same k lk ∙ sym (agree k lk)), omega (arith, here, lt))

-- the tile of a row that goes on may come
pub comes : (ts : List Tile) (allowed : List (List ℕ)) (w x : ℕ) (q start : List ℕ) → x < w → AreAlike x q start → IsWay ts allowed w q → MayCome ts allowed start x (slice_index q x)
comes ts allowed w x q start lt agree way = (
  way.tiles x lt,
  way.stands x lt,
  λ k e. ap (λ (a : ℕ). matches ts One a (slice_index q x)) (sym (agree k (omega (arith, e))))
      ∙ (ap (λ (b : ℕ). matches ts One (slice_index q k) (slice_index q b)) e ∙ way.across k (omega (arith, e))),
)

-- a tile that may come makes a row that begins alike go on
pub goes_on : (ts : List Tile) (allowed : List (List ℕ)) (x t : ℕ) (start row : List ℕ) → x < length row → AreAlike x row start → IsWay ts allowed x start → MayCome ts allowed start x t
    → IsWay ts allowed (x + 1) (set row x t)
goes_on ts allowed x t start row lt same way come =
    one_column ts allowed x t row lt (way_same ts allowed x start row (omega (arith, lt)) same way) come.0 come.1
    (λ k e. ap (λ (a : ℕ). matches ts One a t) (same k (omega (arith, e))) ∙ come.2 k e)

-- a row that its columns allow, cut to its width
pub way_cut : (ts : List Tile) (allowed : List (List ℕ)) (w : ℕ) (row : List ℕ) → IsWay ts allowed w row → IsWay ts allowed w (take w row)
way_cut ts allowed w row way = record {
  long = let l = length-take-le w row way.long in omega (arith, l);
  tiles = λ x lx. rw (get_or-take w row x 0 lx) (way.tiles x lx);
  across = λ x lx. rw (get_or-take w row x 0 (omega arith), get_or-take w row (suc x) 0 lx) (way.across x lx);
  stands = λ x lx. rw (get_or-take w row x 0 lx) (way.stands x lx);
}

module _ (ts : List Tile) (allowed : List (List ℕ)) (w : ℕ) where
  -- a row that its columns allow is valid, and lies upon the row that the columns are made of
  pub row_of_way : (q : List ℕ) → length q ≡ w → IsWay ts allowed w q → IsRow ts w q
  row_of_way q long way = record { long = long; tiles = way.tiles; across = way.across }

  pub under_of_way : (p q : List ℕ) → ((x t : ℕ) → x < w → t < length ts → is_allowed allowed x t ≡ matches ts Two (slice_index p x) t) → IsWay ts allowed w q → IsUnder ts w p q
  under_of_way p q table way = λ x lx. sym (table x (slice_index q x) lx (way.tiles x lx)) ∙ way.stands x lx

  pub way_of_row : (q : List ℕ) → ((x t : ℕ) → x < w → t < length ts → is_allowed allowed x t ≡ true) → IsRow ts w q → IsWay ts allowed w q
  way_of_row q table row = record {
    long = let l = row.long in omega (arith, l);
    tiles = row.tiles;
    across = row.across;
    stands = λ x lx. table x (slice_index q x) lx (row.tiles x lx);
  }

  pub way_upon : (p q : List ℕ) → ((x t : ℕ) → x < w → t < length ts → is_allowed allowed x t ≡ matches ts Two (slice_index p x) t) → IsRow ts w q → IsUnder ts w p q → IsWay ts allowed w q
  way_upon p q table row under = record {
    long = let l = row.long in omega (arith, l);
    tiles = row.tiles;
    across = row.across;
    stands = λ x lx. table x (slice_index q x) lx (row.tiles x lx) ∙ under x lx;
  }

-- columns that allow fewer tiles
pub way_of_fewer : (ts : List Tile) (less more : List (List ℕ)) (w : ℕ) (q : List ℕ) → ((x t : ℕ) → is_allowed less x t ≡ true → is_allowed more x t ≡ true) → IsWay ts less w q → IsWay ts more w q
way_of_fewer ts less more w q h way = record {
  long = way.long;
  tiles = way.tiles;
  across = way.across;
  stands = λ x lx. h x (slice_index q x) (way.stands x lx);
}

-- one column less that a row stands in
pub narrowed_way : (ts : List Tile) (allowed : List (List ℕ)) (column : List ℕ) (w x : ℕ) (q : List ℕ) → suc x < w → x < length allowed
    → ((t u : ℕ) → t < length ts → is_allowed allowed x t ≡ true → is_allowed allowed (suc x) u ≡ true → matches ts One t u ≡ true → column_allows column t ≡ true)
    → IsWay ts allowed w q → IsWay ts (set allowed x column) w q
narrowed_way ts allowed column w x q lt inside keeps way = record {
  long = way.long;
  tiles = way.tiles;
  across = way.across;
  stands = λ k lk. elim (cases_eq k x) [
    | inl e ↦ rw e (ap (λ (l : List ℕ). column_allows l (slice_index q x)) (get_or-set_same allowed x column [] inside)
        ∙ keeps (slice_index q x) (slice_index q (suc x)) (way.tiles x (omega arith)) (way.stands x (omega arith)) (way.stands (suc x) lt) (way.across x lt))
    | inr ne ↦ ap (λ (l : List ℕ). column_allows l (slice_index q k)) (get_or-set_other allowed x k column [] ne) ∙ way.stands k lk
  ];
}

pub narrowed_fewer : (allowed more : List (List ℕ)) (column : List ℕ) (x : ℕ) → x < length allowed → ((t : ℕ) → column_allows column t ≡ true → is_allowed allowed x t ≡ true)
    → ((k t : ℕ) → is_allowed allowed k t ≡ true → is_allowed more k t ≡ true) → (k t : ℕ) → is_allowed (set allowed x column) k t ≡ true → is_allowed more k t ≡ true
narrowed_fewer allowed more column x inside keeps h k t e = elim (cases_eq k x) [
  | inl same ↦
      let here : is_allowed (set allowed x column) x t ≡ true = subst (λ (j : ℕ). is_allowed (set allowed x column) j t ≡ true) same e in
      subst (λ (j : ℕ). is_allowed more j t ≡ true) (sym same) (h x t (keeps t (sym (ap (λ (l : List ℕ). column_allows l t) (get_or-set_same allowed x column [] inside)) ∙ here)))
  | inr ne ↦ h k t (sym (ap (λ (l : List ℕ). column_allows l t) (get_or-set_other allowed x k column [] ne)) ∙ e)
]

-- a mask of the tiles of which something holds allows these
pub allows_bit : (mask : List ℕ) (u n : ℕ) (b : Bool) → mask_bit mask u ≡ bit (nat_lt u n && b) → u < n → column_allows mask u ≡ b
allows_bit mask u n b e lt = ap (λ (k : ℕ). nat_eq k 1) e ∙ ap (λ (t : Bool). nat_eq (bit (t && b)) 1) (lt-ltb u n lt) ∙ by b
  where
    by : (b : Bool) → nat_eq (bit (true && b)) 1 ≡ b
    by true = refl
    by false = refl

-- an allowed tile has its bit
pub bit_of : (mask : List ℕ) (u : ℕ) → column_allows mask u ≡ true → mask_bit mask u ≡ 1
bit_of mask u e = grind (arith, nat_tests, e)

pub and_true : (u n : ℕ) → bit (nat_lt u n) ≡ bit (nat_lt u n && true)
and_true u n = by (nat_lt u n)
  where
    by : (b : Bool) → bit b ≡ bit (b && true)
    by true = refl
    by false = refl
