-- The first renaming that begins so, and what it means that there is none.
use Rattle.std.proofs.Common.{arith, length-append, ◌≡◌, ◌+◌, ◌⊎◌, ℕ, zero, suc, List, [], ◌∷◌, ◌++◌, length, take, slice_index, Option, None, Some, is_none, if◌then◌else◌, refl, sym, ◌∙◌, ap, inl, inr}
use Rattle.std.proofs.lemmas.Bool.{cases_order}
use Rattle.std.proofs.lemmas.List.{take_all}
use Rattle.wt_tile.specs.declared.tile.Tile.{Tile}
use Rattle.wt_grid.specs.Order.{IsBefore}
use Rattle.wt_grid.proofs.First.{none_from, first_found}
use Rattle.wt_grid.proofs.Order.{one_before}
use Rattle.wt_bijection.specs.Renaming.{renaming_fault}
use Rattle.wt_bijection.specs.Carried.{IsRenaming}
use Rattle.wt_bijection.specs.Least.{IsLeastRenaming, with_next, least_behind, least_renaming}
use Rattle.wt_bijection.proofs.Carried.{renaming, right}
use Rattle.wt_bijection.proofs.Starts.{start_of, start_on}

is_faultless : {A : Type 0} (x : Option A) (list r : List ℕ) → (if is_none x then Some list else None) ≡ Some r → (x ≡ None) × (list ≡ r)
is_faultless None list r e = (refl, cc)
is_faultless (Some a) list r e = absurd cc

longer : (start : List ℕ) (t : ℕ) → length (start ++ t ∷ []) ≡ length start + 1
longer start t = length-append start (t ∷ [])

module _ (from to : List Tile) where
  -- what is found is a renaming that begins so
  pub found_is : (n : ℕ) (start list : List ℕ) → least_behind from to n start ≡ Some list → (renaming_fault from to list ≡ None) × (take (length start) list ≡ start)
  found_is zero start list e =
      let p = is_faultless (renaming_fault from to start) start list e in
      (ap (renaming_fault from to) (sym p.1) ∙ p.0, ap (take (length start)) (sym p.1) ∙ take_all (length start) start (omega arith))
  found_is (suc n) start list e =
      let f = first_found (with_next (least_behind from to n) start) 0 (length to) list e in
      let p = found_is n (start ++ f.0 ∷ []) list f.2 in
      (p.0, (start_of start list f.0 p.1).0)

  -- where there is none, no renaming begins so
  pub none_is : (n : ℕ) (start list : List ℕ) → least_behind from to n start ≡ None → IsRenaming from to list → take (length start) list ≡ start → length start + n ≡ length from → ⊥
  none_is zero start list e r begins whole =
      let w = r.whole in
      let same : list ≡ start = sym (take_all (length start) list (omega arith)) ∙ begins in
      let f : renaming_fault from to start ≡ None = ap (renaming_fault from to) (sym same) ∙ right from to list r in
      let g : (if is_none (renaming_fault from to start) then Some start else None) ≡ Some start = rw f refl in
      absurd (let h = sym g ∙ e in cc)
  none_is (suc n) start list e r begins whole =
      let w = r.whole in
      let a = r.alike in
      let t = slice_index list (length start) in
      let below = r.inside (length start) (omega arith) in
      none_is n (start ++ t ∷ []) list (none_from (with_next (least_behind from to n) start) 0 (length to) t e (omega arith) (omega arith)) r
      (start_on start list begins (omega arith)) (omega (arith, longer start t))

  -- where no renaming begins so, there is none
  pub none_by : (n : ℕ) (start : List ℕ) → ((list : List ℕ) → IsRenaming from to list → take (length start) list ≡ start → ⊥) → least_behind from to n start ≡ None
  none_by n start h = go (least_behind from to n start) refl
    where
      go : (x : Option (List ℕ)) → least_behind from to n start ≡ x → x ≡ None
      go None e = refl
      go (Some list) e = let p = found_is n start list e in absurd (h list (renaming from to list p.0) p.1)

  -- what is found comes before each other renaming that begins so
  pub before_others : (n : ℕ) (start list other : List ℕ) → least_behind from to n start ≡ Some list → IsRenaming from to other → take (length start) other ≡ start
      → length start + n ≡ length from → (list ≡ other) ⊎ IsBefore list other
  before_others zero start list other e r begins whole =
      let p = is_faultless (renaming_fault from to start) start list e in
      let w = r.whole in
      let same : other ≡ start = sym (take_all (length start) other (omega arith)) ∙ begins in
      inl (sym p.1 ∙ sym same)
  before_others (suc n) start list other e r begins whole =
      let w = r.whole in
      let a = r.alike in
      let f = first_found (with_next (least_behind from to n) start) 0 (length to) list e in
      let t = slice_index other (length start) in
      let on = start_on start other begins (omega arith) in
      let p = found_is n (start ++ f.0 ∷ []) list f.2 in
      let s = start_of start list f.0 p.1 in
      let last = longer start t in
      elim (cases_order t f.0) [
        | inl same ↦ before_others n (start ++ t ∷ []) list other (ap (λ x. least_behind from to n (start ++ x ∷ [])) same ∙ f.2) r on (omega arith)
        | inr (inl lt) ↦ absurd (none_is n (start ++ t ∷ []) other (f.3 t (omega arith) lt) r on (omega arith))
        | inr (inr gt) ↦ inr (length start, s.0 ∙ sym begins, let u = s.1 in omega arith)
      ]

pub least_is : (from to : List Tile) (list : List ℕ) → least_renaming from to ≡ Some list → IsLeastRenaming from to list
least_is from to list e = record {
  renames = renaming from to list (found_is from to (length from) [] list e).0;
  least = λ other r. before_others from to (length from) [] list other e r refl (omega arith);
}

pub none_least : (from to : List Tile) (list : List ℕ) → least_renaming from to ≡ None → IsRenaming from to list → ⊥
none_least from to list e r = none_is from to (length from) [] list e r refl (omega arith)

pub only_least : (from to : List Tile) (list : List ℕ) → IsLeastRenaming from to list → least_renaming from to ≡ Some list
only_least from to list h = go (least_renaming from to) refl
  where
    go : (x : Option (List ℕ)) → least_renaming from to ≡ x → x ≡ Some list
    go None e = absurd (none_least from to list e h.renames)
    go (Some other) e =
        let o = least_is from to other e in
        elim (o.least list h.renames) [
          | inl same ↦ ap Some same
          | inr first ↦ elim (h.least other o.renames) [ inl same ↦ ap Some (sym same) | inr behind ↦ absurd (one_before other list first behind) ]
        ]
