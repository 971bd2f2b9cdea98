-- Partners tried in vain, and the first that isn't.
use Rattle.std.proofs.Common.{arith, ◌≡◌, ◌<◌, ◌≤◌, ◌+◌, ◌-◌, ℕ, suc, List, [], ◌∷◌, ◌++◌, length, take, set, slice_index, replicate, Option, None, Some, sym, ◌∙◌, ap, subst}
use Rattle.std.proofs.lemmas.List.{take-take, take-set}
use Rattle.wt_tile.specs.declared.tile.Tile.{Tile}
use Rattle.wt_grid.specs.First.{or_else, first_from}
use Rattle.wt_grid.proofs.First.{first_more}
use Rattle.wt_bijection.specs.Least.{with_next, least_behind}
use Rattle.wt_bijection.specs.Labels.{rounds, marked, label_sum, apart_labels}
use Rattle.wt_bijection.specs.Kept.{AreKept, AreSmall}
use Rattle.wt_bijection.proofs.Starts.{start_of}
use Rattle.wt_bijection.proofs.Kept.{kept_rounds, kept_marked, kept_sum, kept_plain, kept_apart}
use Rattle.wt_bijection.proofs.FirstFound.{none_by}

-- the list after a call behind number i, which was t
pub back : (i t : ℕ) (new list : List ℕ) → take (i + 1) new ≡ take (i + 1) (set list i t) → take i new ≡ take i list
back i t new list e =
    sym (take-take i (i + 1) new (omega arith)) ∙ (ap (take i) e ∙ (take-take i (i + 1) (set list i t) (omega arith) ∙ take-set list i t))

module _ (from to : List Tile) where
  -- the first partner is still to be tried
  pub opened : (i : ℕ) (start : List ℕ) → i < length from
      → first_from (with_next (least_behind from to (length from - (i + 1))) start) 0 (length to - 0) ≡ least_behind from to (length from - i) start
  opened i start lt =
      let one : length from - i ≡ suc (length from - (i + 1)) = omega arith in
      let all : length to - 0 ≡ length to = omega arith in
      ap (first_from (with_next (least_behind from to (length from - (i + 1))) start) 0) all ∙ sym (ap (λ k. least_behind from to k start) one)

  pub skip : (n t : ℕ) (start : List ℕ) (x : Option (List ℕ)) → t < length to → least_behind from to n (start ++ t ∷ []) ≡ None
      → first_from (with_next (least_behind from to n) start) t (length to - t) ≡ x
      → first_from (with_next (least_behind from to n) start) (t + 1) (length to - (t + 1)) ≡ x
  skip n t start x lt none e =
      let m = first_more (with_next (least_behind from to n) start) t (length to) lt in
      sym (m ∙ ap (λ z. or_else z (first_from (with_next (least_behind from to n) start) (t + 1) (length to - (t + 1)))) none) ∙ e

  pub hit : (n t : ℕ) (start list : List ℕ) (x : Option (List ℕ)) → t < length to → least_behind from to n (start ++ t ∷ []) ≡ Some list
      → first_from (with_next (least_behind from to n) start) t (length to - t) ≡ x → x ≡ Some list
  hit n t start list x lt some e =
      let m = first_more (with_next (least_behind from to n) start) t (length to) lt in
      sym e ∙ (m ∙ ap (λ z. or_else z (first_from (with_next (least_behind from to n) start) (t + 1) (length to - (t + 1)))) some)

  -- t has another label than tile i
  pub differs : (n i t : ℕ) (start own other : List ℕ) → length start ≡ i → i < length from → AreKept from to start own other
      → (slice_index own i ≡ slice_index other t → ⊥) → least_behind from to n (start ++ t ∷ []) ≡ None
  differs n i t start own other long lt kept d = none_by from to n (start ++ t ∷ [])
      (λ list r begins. let s = start_of start list t begins in d (kept list r s.0 i lt ∙ ap (slice_index other) (ap (slice_index list) (sym long) ∙ s.1)))

  -- with t as the partner of tile i the labels don't add up alike
  pub adds_up : (n t : ℕ) (start own other : List ℕ) → AreKept from to (start ++ t ∷ []) own other
      → (label_sum own (length from) ≡ label_sum other (length to) → ⊥) → least_behind from to n (start ++ t ∷ []) ≡ None
  adds_up n t start own other kept d = none_by from to n (start ++ t ∷ [])
      (λ list r begins. d (kept_sum from to (start ++ t ∷ []) own other list kept r begins))

  pub kept_with : (n i t : ℕ) (start own other : List ℕ) → length start ≡ i → i < length from → length from ≤ 256 → length from ≡ length to → t < length to
      → length own ≡ 256 → length other ≡ 256 → AreSmall from × AreSmall to → AreKept from to start own other
      → AreKept from to (start ++ t ∷ []) (rounds from n (marked own i)) (rounds to n (marked other t))
  kept_with n i t start own other long lt few alike inside wide wide' small kept =
      kept_rounds n from to (start ++ t ∷ []) (marked own i) (marked other t) few small.0 small.1
      (subst (λ k. AreKept from to (start ++ t ∷ []) (marked own k) (marked other t)) long
      (kept_marked from to start own other t (omega arith) (omega arith) (omega arith) kept))

  pub kept_by : (n i t : ℕ) (start begun own other first own' other' : List ℕ) → length start ≡ i → start ≡ begun → i < length from → length from ≤ 256 → length from ≡ length to → t < length to
      → length own ≡ 256 → length other ≡ 256 → AreSmall from × AreSmall to → AreKept from to begun own other
      → first ≡ marked own i → own' ≡ rounds from n first → other' ≡ rounds to n (marked other t)
      → AreKept from to (start ++ t ∷ []) own' other'
  kept_by n i t start begun own other first own' other' long same lt few alike inside wide wide' small kept p q o = λ list r begins j lj.
      let k = kept_with n i t start own other long lt few alike inside wide wide' small (subst (λ s. AreKept from to s own other) (sym same) kept) in
      ap (λ l. slice_index l j) (q ∙ ap (rounds from n) p) ∙ (k list r begins j lj ∙ ap (λ l. slice_index l (slice_index list j)) (sym o))

  pub plain_kept : (n : ℕ) (own other : List ℕ) → length from ≤ 256 → AreSmall from × AreSmall to
      → own ≡ rounds from n (replicate 256 0) → other ≡ rounds to n (replicate 256 0) → AreKept from to [] own other
  plain_kept n own other few small p q = λ list r begins j lj.
      ap (λ l. slice_index l j) p
      ∙ (kept_rounds n from to [] (replicate 256 0) (replicate 256 0) few small.0 small.1 (kept_plain from to) list r begins j lj
      ∙ ap (λ l. slice_index l (slice_index list j)) (sym q))

  pub apart_kept : (n m : ℕ) (own other own' other' : List ℕ) → length from ≤ 256 → AreSmall from × AreSmall to → length own ≡ 256 → length other ≡ 256
      → own ≡ rounds from n (replicate 256 0) → other ≡ rounds to n (replicate 256 0)
      → own' ≡ apart_labels from m own → other' ≡ apart_labels to m other → AreKept from to [] own' other'
  apart_kept n m own other own' other' few small wide wide' p q o w = λ list r begins j lj.
      ap (λ l. slice_index l j) o
      ∙ (kept_apart m from to [] own other few small.0 small.1 wide wide' (plain_kept n own other few small p q) list r begins j lj
      ∙ ap (λ l. slice_index l (slice_index list j)) (sym w))
