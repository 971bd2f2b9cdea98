-- Labels stay kept by all renamings that begin so.
use Rattle.std.proofs.Common.{arith, ◌≡◌, ◌<◌, ◌≤◌, ◌+◌, ℕ, zero, suc, List, [], ◌∷◌, ◌++◌, length, take, get_or, slice_index, replicate, Bool, true, nat_eq, nat_lt, if◌then◌else◌, refl, sym, ◌∙◌, ap, inl, inr}
use Rattle.wt_grid.proofs.Order.{agreed}
use Rattle.wt_grid.specs.declared.axis.Axis.TheVariants.{One, Two}
use Rattle.wt_grid.specs.declared.axis.Axis.{Axis}
use Rattle.std.proofs.lemmas.Bool.{cases_lt, cases_eq}
use Rattle.std.proofs.lemmas.Bool.Decides.{nat_tests}
use Rattle.std.proofs.lemmas.List.{get_or-set_same, get_or-set_other, get_or-replicate, get_or_past}
use Rattle.std.proofs.lemmas.List.FromFn.{get_or-map-range_with_len, length-map-range_with_len}
use Rattle.wt_tile.specs.declared.tile.Tile.{Tile}
use Rattle.wt_tile.specs.Matching.{tile_at, ahead, behind}
use Rattle.wt_bijection.specs.Carried.{CarriesColours, IsRenaming}
use Rattle.wt_bijection.specs.Labels.{scrambled, wrapped, sum_below, share, colour_label, next_label, label_or_own, next_labels, rounds, marked, summand, label_sum, apart_label, apart_labels}
use Rattle.wt_bijection.specs.Kept.{AreKept, AreSmall}
use Rattle.wt_bijection.proofs.Carried.{carry_ff, carry_fg, flipped}
use Rattle.wt_bijection.proofs.Totals.{total_same, total_permuted, IsPermuted}
use Rattle.wt_bijection.proofs.Starts.{start_of}

permuted : (from to : List Tile) (list : List ℕ) → IsRenaming from to list → IsPermuted (length from) (slice_index list)
permuted from to list r = let a = r.alike in record {
  below = λ i lt. let p = r.inside i lt in omega arith;
  apart = r.apart;
  onto = λ t lt. r.onto t (omega arith);
}

carries : (from to : List Tile) (list : List ℕ) → IsRenaming from to list → (axis : Axis) → CarriesColours (ahead axis) (behind axis) from to list
carries from to list r One = r.colours1
carries from to list r Two = r.colours2

one_share : (a b a' b' : Bool) (x y : ℕ) → a ≡ a' → b ≡ b' → x ≡ y
    → (if a then x else 0) + (if b then scrambled x else 0) ≡ (if a' then y else 0) + (if b' then scrambled y else 0)
one_share a b a' b' x y p q e = rw (p, q, e) refl

module _ (from to : List Tile) (own other list : List ℕ) (r : IsRenaming from to list)
    (kept : (i : ℕ) → i < length from → slice_index own i ≡ slice_index other (slice_index list i)) where
  same_total : (axis : Axis) (c d : ℕ)
      → ((i : ℕ) → i < length from → nat_eq (ahead axis (tile_at from i)) c ≡ nat_eq (ahead axis (tile_at to (slice_index list i))) d)
      → ((i : ℕ) → i < length from → nat_eq (behind axis (tile_at from i)) c ≡ nat_eq (behind axis (tile_at to (slice_index list i))) d)
      → sum_below (share axis from own c) (length from) ≡ sum_below (share axis to other d) (length to)
  same_total axis c d first second =
      total_same (share axis from own c) (λ i. share axis to other d (slice_index list i)) (length from)
      (λ i lt. one_share _ _ _ _ _ _ (first i lt) (second i lt) (kept i lt))
      ∙ (total_permuted (share axis to other d) (length from) (slice_index list) (permuted from to list r)
      ∙ ap (sum_below (share axis to other d)) (sym r.alike))

  same_label : (axis : Axis) (c d : ℕ) → c < 512 → d < 512
      → ((i : ℕ) → i < length from → nat_eq (ahead axis (tile_at from i)) c ≡ nat_eq (ahead axis (tile_at to (slice_index list i))) d)
      → ((i : ℕ) → i < length from → nat_eq (behind axis (tile_at from i)) c ≡ nat_eq (behind axis (tile_at to (slice_index list i))) d)
      → colour_label axis from own c ≡ colour_label axis to other d
  same_label axis c d lc ld first second =
      let p : nat_lt c 512 ≡ true = grind (arith, nat_tests) in
      let q : nat_lt d 512 ≡ true = grind (arith, nat_tests) in
      rw (p, q) (ap wrapped (same_total axis c d first second))

  module _ (small : AreSmall from) (small' : AreSmall to) where
    same_ahead : (axis : Axis) (j : ℕ) → j < length from
        → colour_label axis from own (ahead axis (tile_at from j)) ≡ colour_label axis to other (ahead axis (tile_at to (slice_index list j)))
    same_ahead axis j lj =
        let c = carries from to list r axis in
        same_label axis _ _ (small axis j).0 (small' axis (slice_index list j)).0
        (λ i li. agreed _ _ (carry_ff (ahead axis) (behind axis) from to list c i j li lj))
        (λ i li. agreed _ _ (carry_fg (behind axis) (ahead axis) from to list (flipped (ahead axis) (behind axis) from to list c) i j li lj))

    same_behind : (axis : Axis) (j : ℕ) → j < length from
        → colour_label axis from own (behind axis (tile_at from j)) ≡ colour_label axis to other (behind axis (tile_at to (slice_index list j)))
    same_behind axis j lj =
        let c = carries from to list r axis in
        let d = flipped (ahead axis) (behind axis) from to list c in
        same_label axis _ _ (small axis j).1 (small' axis (slice_index list j)).1
        (λ i li. agreed _ _ (carry_fg (ahead axis) (behind axis) from to list c i j li lj))
        (λ i li. agreed _ _ (carry_ff (behind axis) (ahead axis) from to list d i j li lj))

    same_next : (j : ℕ) → j < length from → next_label from own j ≡ next_label to other (slice_index list j)
    unfolding next_label
    same_next j lj = rw (kept j lj, same_ahead One j lj, same_ahead Two j lj, same_behind One j lj, same_behind Two j lj) refl

next_at : (tiles : List Tile) (labels : List ℕ) (i : ℕ) → i < 256 → i < length tiles → slice_index (next_labels tiles labels) i ≡ next_label tiles labels i
unfolding next_labels
next_at tiles labels i lt inside =
    let is : nat_lt i (length tiles) ≡ true = grind (arith, nat_tests, inside) in
    get_or-map-range_with_len (label_or_own tiles labels) 0 256 i i 0 lt (omega arith) ∙ (rw is refl)

pub next_length : (tiles : List Tile) (labels : List ℕ) → length (next_labels tiles labels) ≡ 256
unfolding next_labels
next_length tiles labels = length-map-range_with_len (label_or_own tiles labels) 0 256

module _ (from to : List Tile) (list : List ℕ) (r : IsRenaming from to list) where
  -- the renaming carries each tile onto one with the same label
  abbrev pub Keeps : List ℕ → List ℕ → Type 0
  Keeps own other = (i : ℕ) → i < length from → slice_index own i ≡ slice_index other (slice_index list i)

  module _ (few : length from ≤ 256) where
    keeps_next : (own other : List ℕ) → AreSmall from → AreSmall to → Keeps own other → Keeps (next_labels from own) (next_labels to other)
    keeps_next own other small small' kept = λ i lt.
        let a = r.alike in
        let below = r.inside i lt in
        next_at from own i (omega arith) lt ∙ (same_next from to own other list r kept small small' i lt ∙ sym (next_at to other (slice_index list i) (omega arith) below))

    keeps_rounds : (n : ℕ) (own other : List ℕ) → AreSmall from → AreSmall to → Keeps own other → Keeps (rounds from n own) (rounds to n other)
    keeps_rounds zero own other small small' kept = kept
    keeps_rounds (suc n) own other small small' kept = keeps_rounds n (next_labels from own) (next_labels to other) small small' (keeps_next own other small small' kept)

  keeps_sum : (own other : List ℕ) → Keeps own other → label_sum own (length from) ≡ label_sum other (length to)
  keeps_sum own other kept =
      ap wrapped (total_same (summand own) (λ i. summand other (slice_index list i)) (length from) (λ i lt. ap scrambled (kept i lt))
      ∙ (total_permuted (summand other) (length from) (slice_index list) (permuted from to list r) ∙ ap (sum_below (summand other)) (sym r.alike)))

  keeps_marked : (own other : List ℕ) (k : ℕ) → k < length from → k < length own → slice_index list k < length other
      → Keeps own other → Keeps (marked own k) (marked other (slice_index list k))
  keeps_marked own other k lk room room' kept = λ j lj.
      elim (cases_eq j k) [
        | inl e ↦
            let left : slice_index (marked own k) k ≡ scrambled (scrambled (slice_index own k)) = get_or-set_same own k _ 0 room in
            let right : slice_index (marked other (slice_index list k)) (slice_index list k) ≡ scrambled (scrambled (slice_index other (slice_index list k))) = get_or-set_same other (slice_index list k) _ 0 room' in
            ap (slice_index (marked own k)) e ∙ (left ∙ (ap (λ x. scrambled (scrambled x)) (kept k lk) ∙ (sym right ∙ ap (λ i. slice_index (marked other (slice_index list k)) (slice_index list i)) (sym e))))
        | inr d ↦
            let off : slice_index list j ≡ slice_index list k → ⊥ = λ e. d (r.apart j k lj lk e) in
            get_or-set_other own k j _ 0 d ∙ (kept j lj ∙ sym (get_or-set_other other (slice_index list k) (slice_index list j) _ 0 off))
      ]

pub kept_rounds : (n : ℕ) (from to : List Tile) (start own other : List ℕ) → length from ≤ 256 → AreSmall from → AreSmall to
    → AreKept from to start own other → AreKept from to start (rounds from n own) (rounds to n other)
kept_rounds n from to start own other few small small' kept = λ list r begins. keeps_rounds from to list r few n own other small small' (kept list r begins)

pub kept_sum : (from to : List Tile) (start own other list : List ℕ) → AreKept from to start own other → IsRenaming from to list → take (length start) list ≡ start
    → label_sum own (length from) ≡ label_sum other (length to)
kept_sum from to start own other list kept r begins = keeps_sum from to list r own other (kept list r begins)

pub kept_marked : (from to : List Tile) (start own other : List ℕ) (t : ℕ) → length start < length from → length start < length own → t < length other
    → AreKept from to start own other → AreKept from to (start ++ t ∷ []) (marked own (length start)) (marked other t)
kept_marked from to start own other t inside room room' kept = λ list r begins.
    let s = start_of start list t begins in
    let here : slice_index list (length start) < length other = let u = s.1 in omega arith in
    let k = keeps_marked from to list r own other (length start) inside room here (kept list r s.0) in
    λ j lj. k j lj ∙ ap (λ u. slice_index (marked other u) (slice_index list j)) s.1

apart_at : (tiles : List Tile) (n : ℕ) (labels : List ℕ) (i : ℕ) → i < 256 → i < length tiles
    → slice_index (apart_labels tiles n labels) i ≡ label_sum (rounds tiles n (marked labels i)) (length tiles)
unfolding apart_labels
apart_at tiles n labels i lt inside =
    let is : nat_lt i (length tiles) ≡ true = grind (arith, nat_tests, inside) in
    get_or-map-range_with_len (apart_label tiles n labels) 0 256 i i 0 lt (omega arith) ∙ (rw is refl)

pub apart_length : (tiles : List Tile) (n : ℕ) (labels : List ℕ) → length (apart_labels tiles n labels) ≡ 256
unfolding apart_labels
apart_length tiles n labels = length-map-range_with_len (apart_label tiles n labels) 0 256

pub kept_apart : (n : ℕ) (from to : List Tile) (start own other : List ℕ) → length from ≤ 256 → AreSmall from → AreSmall to
    → length own ≡ 256 → length other ≡ 256
    → AreKept from to start own other → AreKept from to start (apart_labels from n own) (apart_labels to n other)
kept_apart n from to start own other few small small' wide wide' kept = λ list r begins i lt.
    let a = r.alike in
    let below = r.inside i lt in
    let m = keeps_marked from to list r own other i lt (omega arith) (omega arith) (kept list r begins) in
    let k = keeps_rounds from to list r few n (marked own i) (marked other (slice_index list i)) small small' m in
    apart_at from n own i (omega arith) lt
    ∙ (keeps_sum from to list r (rounds from n (marked own i)) (rounds to n (marked other (slice_index list i))) k
    ∙ sym (apart_at to n other (slice_index list i) (omega arith) below))

pub zero_at : (i : ℕ) → ◌≡◌ {A = ℕ} (get_or (replicate 256 0) i 0) 0
zero_at i = elim (cases_lt i 256) [ inl lt ↦ get_or-replicate 256 i 0 0 lt | inr ge ↦ get_or_past (replicate 256 0) i 0 ge ]

pub kept_plain : (from to : List Tile) → AreKept from to [] (replicate 256 0) (replicate 256 0)
kept_plain from to = λ list r begins i lt. zero_at i ∙ sym (zero_at (slice_index list i))
