-- Tables of surroundable pairs, row by row.
use Rattle.std.proofs.Common.{arith, ◌≡◌, ◌↔◌, ℕ, ◌+◌, ◌<◌, ◌≤◌, Bool, true, false, nat_eq, List, [], ◌∷◌, ◌++◌, length, cond, inl, inr, refl, sym, ap, ◌∙◌, length-append}
use Rattle.wt_grid.specs.declared.axis.Axis.{Axis}
use Rattle.std.proofs.lemmas.Bool.{cases_eq, cases_lt}
use Rattle.std.proofs.lemmas.Bool.Decides.{nat_tests}
use Rattle.std.proofs.lemmas.List.{get_or_append_left, get_or_past}
use Rattle.std.proofs.Math.Seq.{get_or-append_seam}
use Rattle.wt_tile.specs.declared.tile.Tile.{Tile}
use Rattle.wt_tile.specs.Matching.{matches}
use Rattle.wt_lane.specs.Masks.{mask_bit}
use Rattle.wt_pattern.specs.Windows.{IsEmptyWindow}
use Rattle.wt_mask.specs.Masks.{mask_at}
use Rattle.wt_pattern.specs.Windows.{IsSurroundable}
use Rattle.wt_window.specs.Surrounded.{IsRow, IsSpentRow, IsUnmatched, allowed}
use Rattle.wt_window.specs.Outcomes.{IsSpentPair}
use Rattle.wt_window.proofs.Found.{surroundable_match, as_allowed}
use Rattle.wt_lane.proofs.Bits.{past_all}

set_here : (k i x : ℕ) → k ≡ i → cond (nat_eq k i) 1 x ≡ 1
set_here k i x e = let t : nat_eq k i ≡ true = grind (arith, nat_tests, e) in rw t refl

set_there : (k i x : ℕ) → (k ≡ i → ⊥) → cond (nat_eq k i) 1 x ≡ x
set_there k i x n = by (nat_eq k i) refl
  where
    by : (b : Bool) → nat_eq k i ≡ b → cond b 1 x ≡ x
    by true e = absurd (n (grind (arith, nat_tests, e)))
    by false e = refl

pub row_with : (ts : List Tile) (axis : Axis) (a r n : ℕ) (old new : List ℕ) → ((k : ℕ) → mask_bit new k ≡ cond (nat_eq k n) 1 (mask_bit old k)) → IsSurroundable ts axis a n r → IsRow ts axis a r n old → IsRow ts axis a r (n + 1) new
row_with ts axis a r n old new set s row = record {
  has = λ b e. elim (cases_eq b n) [
    | inl q ↦ (omega arith, rw q s)
    | inr m ↦ let h = row.has b (sym (set b ∙ set_there b n (mask_bit old b) m) ∙ e) in let lt = h.0 in (omega arith, h.1)
  ];
  all = λ b lt t. elim (cases_eq b n) [
    | inl q ↦ set b ∙ set_here b n (mask_bit old b) q
    | inr m ↦ set b ∙ set_there b n (mask_bit old b) m ∙ row.all b (less b n lt m) t
  ];
}
  where
    less : (b n : ℕ) → b < n + 1 → (b ≡ n → ⊥) → b < n
    less b n lt m = elim (cases_lt b n) [ inl l ↦ l | inr g ↦ absurd (m (omega arith)) ]

pub row_without : (ts : List Tile) (axis : Axis) (a r n : ℕ) (mask : List ℕ) → (IsSurroundable ts axis a n r → ⊥) → IsRow ts axis a r n mask → IsRow ts axis a r (n + 1) mask
row_without ts axis a r n mask none row = record {
  has = λ b e. let h = row.has b e in let lt = h.0 in (omega arith, h.1);
  all = λ b lt t. elim (cases_lt b n) [
    | inl l ↦ row.all b l t
    | inr g ↦ let q : b ≡ n = omega arith in absurd (none (rw (← q) t))
  ];
}

pub no_window : (ts : List Tile) (axis : Axis) (a b r : ℕ) → IsEmptyWindow ts axis a b r → IsSurroundable ts axis a b r → ⊥
no_window ts axis a b r empty s = empty s.0 s.1

pub no_match : (ts : List Tile) (axis : Axis) (a b r : ℕ) → matches ts axis a b ≡ false → IsSurroundable ts axis a b r → ⊥
no_match ts axis a b r e s = let m = surroundable_match ts axis a b r s in let f = m.fits in let both : true ≡ false = sym f ∙ e in cc

-- rows of the first n tiles
pub record AreRows (ts : List Tile) (axis : Axis) (r n : ℕ) (rows : List (List ℕ)) : Type 0 where
  pub long : length rows ≡ n
  pub each : (a : ℕ) → a < n → IsRow ts axis a r (length ts) (mask_at rows a)

pub rows_more : (ts : List Tile) (axis : Axis) (r n : ℕ) (rows : List (List ℕ)) (mask : List ℕ) → IsRow ts axis n r (length ts) mask → AreRows ts axis r n rows → AreRows ts axis r (n + 1) (rows ++ mask ∷ [])
rows_more ts axis r n rows mask row p = record {
  long = omega (arith, length-append rows (mask ∷ []), p.long);
  each = λ a lt. elim (cases_lt a (length rows)) [
    | inl l ↦ rw (get_or_append_left rows (mask ∷ []) [] a l) (p.each a (omega (arith, p.long)))
    | inr g ↦ let q : a ≡ length rows = omega (arith, p.long) in let m : length rows ≡ n = p.long in rw (q, get_or-append_seam rows mask [] [], m) row
  ];
}

no_bit : (a n b : ℕ) (rows : List (List ℕ)) → length rows ≡ n → n ≤ a → mask_bit (mask_at rows a) b ≡ 0
no_bit a n b rows long le = rw (get_or_past rows a [] (omega (arith, long, le))) (nothing b)
  where
    nothing : (b : ℕ) → mask_bit [] b ≡ 0
    nothing b = past_all [] b (omega arith)

pub table_exact : (ts : List Tile) (axis : Axis) (r : ℕ) (rows : List (List ℕ)) → AreRows ts axis r (length ts) rows → (a b : ℕ) → (allowed rows a b ≡ true) ↔ IsSurroundable ts axis a b r
table_exact ts axis r rows p a b = (
  λ e. let h : mask_bit (mask_at rows a) b ≡ 1 = (as_allowed rows a b).1 e in elim (cases_lt a (length ts)) [
    | inl l ↦ ((p.each a l).has b h).1
    | inr g ↦ absurd (omega (arith, h, no_bit a (length ts) b rows p.long g))
  ],
  λ s. let m = surroundable_match ts axis a b r s in (as_allowed rows a b).0 ((p.each a m.first).all b m.second s),
)

-- ---- what is spent

pub unmatched_skip : (ts : List Tile) (axis : Axis) (a n budget : ℕ) → matches ts axis a n ≡ false → IsUnmatched ts axis a n budget → IsUnmatched ts axis a (n + 1) budget
unmatched_skip ts axis a n budget e none z d lt m = elim (cases_lt d n) [
  | inl l ↦ none z d l m
  | inr g ↦ let q : d ≡ n = omega arith in let f : matches ts axis a d ≡ false = ap (matches ts axis a) q ∙ e in let both : true ≡ false = sym m ∙ f in cc
]

pub unmatched_paid : (ts : List Tile) (axis : Axis) (a n budget : ℕ) → (budget ≡ 0 → ⊥) → IsUnmatched ts axis a n budget
unmatched_paid ts axis a n budget some z d lt m = some z

pub unmatched_more : (ts : List Tile) (axis : Axis) (n budget : ℕ) → IsUnmatched ts axis n (length ts) budget → ((c : ℕ) → c < n → IsUnmatched ts axis c (length ts) budget)
    → (c : ℕ) → c < n + 1 → IsUnmatched ts axis c (length ts) budget
unmatched_more ts axis n budget here before c lt = elim (cases_lt c n) [
  | inl l ↦ before c l
  | inr g ↦ let q : c ≡ n = omega arith in rw q here
]

pub spent_pair : (ts : List Tile) (axis : Axis) (a b r budget : ℕ) → a < length ts → IsSpentRow ts axis a b r budget → ((k : ℕ) → k < a → IsUnmatched ts axis k (length ts) budget) → IsSpentPair ts axis a b r budget
spent_pair ts axis a b r budget lt s before = record {
  first = lt;
  second = s.low;
  fits = s.fits;
  over = s.over;
  at_zero = λ z. record { first = lt; second = s.low; fits = s.fits; none_before = λ c d lc ld m. before c lc z d ld m; none_beside = s.first z };
}
