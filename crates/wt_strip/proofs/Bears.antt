-- Valid rows upon the first tiles of a row, column by column.
use Rattle.std.proofs.Common.{arith, ◌≡◌, ◌⊎◌, ℕ, suc, ◌+◌, ◌/◌, ◌%◌, ◌<◌, ◌≤◌, List, [], ◌∷◌, ◌++◌, length, length-append, take, slice_index, get_or, Bool, true, false, ◌&&◌, nat_eq, nat_lt, max, min, refl, sym, ap, ◌∙◌, subst, inl, inr}
use Rattle.std.proofs.lemmas.Bool.{cases_lt, lt-ltb, ltb-true}
use Rattle.std.proofs.lemmas.Nat.Bits.{bit_at-lt}
use Rattle.wt_lane.specs.Masks.{mask_bit}
use Rattle.std.proofs.lemmas.List.{get_or-take, length-take-le, get_or_append_left}
use Rattle.std.proofs.Math.Seq.{get_or-append_seam}
use Rattle.wt_tile.specs.declared.tile.Tile.{Tile}
use Rattle.wt_grid.specs.declared.axis.Axis.TheVariants.{One, Two}
use Rattle.wt_tile.specs.Matching.{matches}
use Rattle.wt_mask.specs.Masks.{bit}
use Rattle.wt_strip.specs.Layers.{IsRow, IsUnder}
use Rattle.wt_strip.specs.Walks.{column_allows, CanBear, AreAlike}
use Rattle.wt_strip.proofs.Walked.{bit_of}

-- ---- bits

-- the bit of a tile of which something holds
pub shown : (u n : ℕ) (b : Bool) → bit (nat_lt u n && b) ≡ 1 → (u < n) × (b ≡ true)
shown u n b e = by (nat_lt u n) b refl e
  where
    by : (a b : Bool) → nat_lt u n ≡ a → bit (a && b) ≡ 1 → (u < n) × (b ≡ true)
    by true true h e = (ltb-true u n h, refl)
    by true false h e = absurd (omega (arith, e))
    by false b h e = absurd (omega (arith, e))

pub raised : (u n : ℕ) (b : Bool) → u < n → b ≡ true → bit (nat_lt u n && b) ≡ 1
raised u n b lt e = ap (λ (t : Bool). bit (t && b)) (lt-ltb u n lt) ∙ ap (λ (t : Bool). bit (true && t)) e

pub one_of : (a b : ℕ) → max a b ≡ 1 → (a ≡ 1) ⊎ (b ≡ 1)
one_of a b e = elim (cases_lt a b) [
  | inl l ↦ inr (omega (arith, e, l))
  | inr ge ↦ inl (omega (arith, e, ge))
]

pub both_ones : {a b : ℕ} → a ≡ 1 → b ≡ 1 → min a b ≡ 1
both_ones e f = omega (arith, e, f)

pub below_two : (mask : List ℕ) (t : ℕ) → mask_bit mask t ≤ 1
below_two mask t = let b = bit_at-lt (get_or mask (t / 64) 0) (t % 64) in omega (arith, b)

pub ones_of : (a b : ℕ) → a ≤ 1 → b ≤ 1 → min a b ≡ 1 → (a ≡ 1) × (b ≡ 1)
ones_of a b la lb e = (omega (arith, e, la, lb), omega (arith, e, la, lb))

-- a bit that two masks have: a tile that a column allows, and of which something holds
pub come_of : (t n : ℕ) (b : Bool) (column other both : List ℕ) → mask_bit other t ≡ bit (nat_lt t n && b) → mask_bit both t ≡ min (mask_bit column t) (mask_bit other t) → mask_bit both t ≡ 1
    → (t < n) × (column_allows column t ≡ true) × (b ≡ true)
come_of t n b column other both told joined e =
    let o = ones_of (mask_bit column t) (mask_bit other t) (below_two column t) (below_two other t) (sym joined ∙ e) in
    let s = shown t n b (sym told ∙ o.1) in
    (s.0, ap (λ (k : ℕ). nat_eq k 1) o.0, s.1)

pub bar_of : (t n : ℕ) (b : Bool) (column other both : List ℕ) → mask_bit other t ≡ bit (nat_lt t n && b) → mask_bit both t ≡ min (mask_bit column t) (mask_bit other t) → mask_bit both t ≡ 0
    → t < n → column_allows column t ≡ true → b ≡ true → ⊥
bar_of t n b column other both told joined none lt allows holds =
    let e = joined ∙ both_ones (bit_of column t allows) (told ∙ raised t n b lt holds) in
    absurd (omega (arith, e, none))

-- ---- rows that are made longer

module _ (ts : List Tile) (p : List ℕ) where
  -- tile u may come behind a valid row upon the first x tiles
  abbrev pub CanFollow : ℕ → ℕ → Type 0
  CanFollow x u = (q : List ℕ) × IsRow ts x q × IsUnder ts x p q × ((k : ℕ) → x ≡ suc k → matches ts One (slice_index q k) u ≡ true)

  -- tile u ends a valid row upon the first x tiles and one more
  abbrev pub CanEnd : ℕ → ℕ → Type 0
  CanEnd x u = (q : List ℕ) × IsRow ts (x + 1) q × IsUnder ts (x + 1) p q × (slice_index q x ≡ u)

  pub nothing : CanBear ts 0 p
  nothing = ([], record { long = refl; tiles = λ x lt. absurd (omega arith); across = λ x lt. absurd (omega arith) }, λ x lt. absurd (omega arith))

  pub first : (u : ℕ) → CanFollow 0 u
  first u = (nothing.0, nothing.1, nothing.2, λ k e. absurd (omega (arith, e)))

  pub extend : (x u : ℕ) → u < length ts → matches ts Two (slice_index p x) u ≡ true → CanFollow x u → CanEnd x u
  extend x u lt up f =
      let l = length-append f.0 (u ∷ []) in
      let long = f.1.long in
      let last : slice_index (f.0 ++ u ∷ []) x ≡ u = subst (λ (k : ℕ). slice_index (f.0 ++ u ∷ []) k ≡ u) long (get_or-append_seam f.0 u [] 0) in
      let old = λ (k : ℕ) (lk : k < x). get_or_append_left f.0 (u ∷ []) 0 k (omega (arith, lk, long)) in (
        f.0 ++ u ∷ [],
        record {
          long = omega (arith, l, long);
          tiles = λ k lk. elim (cases_lt k x) [
            | inl less ↦ rw (old k less) (f.1.tiles k less)
            | inr ge ↦ let e : k ≡ x = omega arith in rw (e, last) lt
          ];
          across = λ k lk. elim (cases_lt (suc k) x) [
            | inl less ↦ rw (old k (omega (arith, less)), old (suc k) less) (f.1.across k less)
            | inr ge ↦ let e : suc k ≡ x = omega arith in rw (old k (omega (arith, e)), e, last) (f.3 k (sym e))
          ];
        },
        (λ k lk. elim (cases_lt k x) [
          | inl less ↦ rw (old k less) (f.2 k less)
          | inr ge ↦ let e : k ≡ x = omega arith in rw (e, last) up
        ]),
        last,
      )

  pub cut : (x : ℕ) (q : List ℕ) → IsRow ts (x + 1) q → IsUnder ts (x + 1) p q → CanFollow x (slice_index q x)
  cut x q row under =
      let long = row.long in (
        take x q,
        record {
          long = length-take-le x q (omega (arith, long));
          tiles = λ k lk. rw (get_or-take x q k 0 lk) (row.tiles k (omega arith));
          across = λ k lk. rw (get_or-take x q k 0 (omega arith), get_or-take x q (suc k) 0 lk) (row.across k (omega arith));
        },
        (λ k lk. rw (get_or-take x q k 0 lk) (under k (omega arith))),
        λ k e. rw (e, get_or-take (suc k) q k 0 (omega arith)) (row.across k (omega (arith, e))),
      )

  pub follows : (x t u : ℕ) → CanEnd x t → matches ts One t u ≡ true → CanFollow (x + 1) u
  follows x t u f m = (f.0, f.1, f.2, λ k e. let s : k ≡ x = omega (arith, e) in rw (s, f.3) m)

module _ (ts : List Tile) (p : List ℕ) (x t : ℕ) where
  -- a tile that may stand above that of column x, and behind a row upon those before
  pub ended : (up next ends : List ℕ) → ((u : ℕ) → mask_bit up u ≡ bit (nat_lt u (length ts) && matches ts Two (slice_index p x) u))
      → ((u : ℕ) → mask_bit next u ≡ 1 → CanFollow ts p x u) → ((u : ℕ) → mask_bit ends u ≡ min (mask_bit up u) (mask_bit next u)) → mask_bit ends t ≡ 1 → CanEnd ts p x t
  ended up next ends above follow both e =
      let o = ones_of (mask_bit up t) (mask_bit next t) (below_two up t) (below_two next t) (sym (both t) ∙ e) in
      let s = shown t (length ts) (matches ts Two (slice_index p x) t) (sym (above t) ∙ o.0) in
      extend ts p x t s.0 s.1 (follow t o.1)

-- the tile that ends a row is one of these
pub kept_end : (ts : List Tile) (p : List ℕ) (x : ℕ) (q up next ends : List ℕ) → ((u : ℕ) → mask_bit up u ≡ bit (nat_lt u (length ts) && matches ts Two (slice_index p x) u))
    → ((u : ℕ) → u < length ts → CanFollow ts p x u → mask_bit next u ≡ 1) → ((u : ℕ) → mask_bit ends u ≡ min (mask_bit up u) (mask_bit next u))
    → IsRow ts (x + 1) q → IsUnder ts (x + 1) p q → mask_bit ends (slice_index q x) ≡ 1
kept_end ts p x q up next ends above all both row under =
    let t = slice_index q x in
    let lt : t < length ts = row.tiles x (omega arith) in
    both t ∙ both_ones (above t ∙ raised t (length ts) (matches ts Two (slice_index p x) t) lt (under x (omega arith))) (all t lt (cut ts p x q row under))

-- upon a row that begins as one does that bears none, none can be laid
pub none_upon : (ts : List Tile) (w n : ℕ) (p s : List ℕ) → n ≤ w → AreAlike n s p → (CanBear ts n p → ⊥) → CanBear ts w s → ⊥
none_upon ts w n p s le alike none f =
    let long = f.1.long in
    none (
      take n f.0,
      record {
        long = length-take-le n f.0 (omega (arith, long, le));
        tiles = λ k lk. rw (get_or-take n f.0 k 0 lk) (f.1.tiles k (omega (arith, lk, le)));
        across = λ k lk. rw (get_or-take n f.0 k 0 (omega arith), get_or-take n f.0 (suc k) 0 lk) (f.1.across k (omega (arith, lk, le)));
      },
      λ k lk. rw (sym (alike k lk), get_or-take n f.0 k 0 lk) (f.2 k (omega (arith, lk, le))),
    )
