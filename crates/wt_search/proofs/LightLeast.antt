-- What is said of each entry of a light step, and which pairs it refutes.
use Rattle.std.proofs.Common.{arith, ◌≡◌, ℕ, zero, suc, ◌-◌, ◌<◌, ◌≤◌, Bool, true, false, nat_lt, List, [], ◌∷◌, ◌++◌, length, Some, slice_get, None, refl, sym, ◌∙◌, ap, inl, inr}
use Rattle.std.specs.Prelude.{filter}
use Rattle.std.specs.Cmp.{both_ways}
use Rattle.std.proofs.lemmas.List.{append-nil}
use Rattle.std.proofs.lemmas.List.Elements.{filter-append}
use Rattle.std.proofs.lemmas.Bool.{cases_lt}
use Rattle.std.proofs.lemmas.Bool.Decides.{nat_tests}
use Rattle.wt_grid.specs.declared.axis.Axis.{Axis}
use Rattle.wt_grid.specs.declared.axis.Axis.TheVariants.{One, Two}
use Rattle.wt_refute.specs.declared.tree.Refuted.{Refuted}
use Rattle.wt_refute.specs.View.{refutation}
use Rattle.wt_refute.specs.Standard.{standard_tree}
use Rattle.wt_refute.proofs.Made.{refutation-tree_of}
use Rattle.wt_step.specs.declared.raw.RawStep.{RawStep}
use Rattle.wt_step.specs.Faults.{step_fault}
use Rattle.wt_step.proofs.Goodness.{good_step}
use Rattle.wt_window.proofs.Outcomes.{tested}
use Rattle.wt_marker.proofs.Listed.{Each, each_append, each_imp, each_of, each_map, each_get}
use Rattle.wt_search.specs.Light.{has_refutation, has_none, entry_of, asked_after, new_entries, light_entries, light_step, IsLight}
use Rattle.wt_search.proofs.Refuting.{refuted_barred, barred_refuted}
use Rattle.wt_search.proofs.LightEntries.{IsLowered, each_lowered, of_radius, none_surrounds}
use Rattle.wt_search.proofs.LightSteps.{barred_same, light_good}

module _ {A : Type 0} (p : A → Bool) where
  filter_whole : (xs : List A) → Each (λ x. p x ≡ true) xs → filter p xs ≡ xs
  filter_whole [] h = refl
  filter_whole (x ∷ xs) h = rw (h.0, filter_whole xs h.1) refl

  filter_nothing : (xs : List A) → Each (λ x. p x ≡ false) xs → filter p xs ≡ []
  filter_nothing [] h = refl
  filter_nothing (x ∷ xs) h = rw h.0 (filter_nothing xs h.1)

-- the radius is below j + 1
abbrev is_within : ℕ → Refuted → Bool
is_within j e = nat_lt e.radius (suc j)

-- the tree is the standard one with the entries of lower radius known
abbrev HasTree : RawStep → Refuted → Type 0
HasTree s r = (j : ℕ) → suc j ≡ r.radius → refutation r.tree ≡ standard_tree s.fine.tiles r.axis r.a r.b r.radius (light_entries s j)

module _ (s : RawStep) where
  one_tree : (axis : Axis) (r : ℕ) (q : ℕ × ℕ) → HasTree s (entry_of s.fine.tiles (light_entries s r) (suc r) axis q)
  one_tree axis r q = λ j e. let same : j ≡ r = omega arith in
      refutation-tree_of (standard_tree s.fine.tiles axis q.0 q.1 (suc r) (light_entries s r)) ∙ ap (λ k. standard_tree s.fine.tiles axis q.0 q.1 (suc r) (light_entries s k)) (sym same)

  axis_trees : (axis : Axis) (r : ℕ) → Each (HasTree s) (new_entries s (light_entries s r) axis r)
  axis_trees axis r = each_map (HasTree s) (entry_of s.fine.tiles (light_entries s r) (suc r) axis) (filter (has_none s.fine.tiles axis (suc r)) (asked_after s axis r))
      (each_of (λ q. HasTree s (entry_of s.fine.tiles (light_entries s r) (suc r) axis q)) (filter (has_none s.fine.tiles axis (suc r)) (asked_after s axis r)) (one_tree axis r))

  each_tree : (m : ℕ) → Each (HasTree s) (light_entries s m)
  each_tree zero = tt
  each_tree (suc m) = each_append (HasTree s) (light_entries s m) (new_entries s (light_entries s m) One m ++ new_entries s (light_entries s m) Two m) (each_tree m)
      (each_append (HasTree s) (new_entries s (light_entries s m) One m) (new_entries s (light_entries s m) Two m) (axis_trees One m) (axis_trees Two m))

  -- the entries of lower radius are those that were known
  lower : (m j : ℕ) → j ≤ m → filter (is_within j) (light_entries s m) ≡ light_entries s j
  lower zero j le = let z : zero ≡ j = omega arith in ap (light_entries s) z
  lower (suc m) j le = elim (cases_lt m j) [
    | inl lt ↦
        let z : suc m ≡ j = omega arith in
        filter_whole (is_within j) (light_entries s (suc m)) (each_imp (IsLowered s (suc m)) (λ r. is_within j r ≡ true) (light_entries s (suc m))
        (λ r h. let k = h.most in grind (arith, nat_tests, k, lt)) (each_lowered s (suc m))) ∙ ap (light_entries s) z
    | inr ge ↦
        let known = light_entries s m in
        let one = new_entries s known One m in
        let two = new_entries s known Two m in
        let none = filter_nothing (is_within j) (one ++ two) (each_imp (λ (r : Refuted). m < r.radius) (λ r. is_within j r ≡ false) (one ++ two)
        (λ r h. grind (arith, nat_tests, h, ge)) (each_append (λ (r : Refuted). m < r.radius) one two (of_radius s known One m) (of_radius s known Two m))) in
        filter-append (is_within j) known (one ++ two) ∙ (ap (λ xs. filter (is_within j) known ++ xs) none ∙ (append-nil (filter (is_within j) known) ∙ lower m j ge))
  ]

  pub light_entry : (i : ℕ) (r : Refuted) → slice_get (light_step s).refuted i ≡ Some r → IsLight s.fine.tiles (light_step s).refuted r
  light_entry i r e =
      let es = light_entries s s.radius in
      let h = each_get (IsLowered s s.radius) es i r (each_lowered s s.radius) e in
      let t = each_get (HasTree s) es i r (each_tree s.radius) e in
      let lo = h.some in
      let hi = h.most in
      let is : suc (r.radius - 1) ≡ r.radius = omega arith in
      record {
        some = lo;
        empty = none_surrounds s.fine.tiles r.axis r.a r.b r.radius h.empty;
        least = λ q qlo qhi. (tested s.fine.tiles r.axis r.a r.b q).0 (h.least q qlo qhi);
        tree = t (r.radius - 1) is ∙ ap (standard_tree s.fine.tiles r.axis r.a r.b r.radius)
            (sym (lower s.radius (r.radius - 1) (omega arith)) ∙ ap (λ (k : ℕ). filter (λ (x : Refuted). nat_lt x.radius k) es) is);
      }

  pub same_pairs : step_fault s ≡ None → (axis : Axis) (a b : ℕ) → a < length s.fine.tiles → b < length s.fine.tiles → has_refutation (light_step s) axis a b ≡ has_refutation s axis a b
  same_pairs e axis a b la lb =
      let g = good_step s e in
      let l = light_good s g in
      let same = barred_same s (light_entries s s.radius) axis a b in
      both_ways (has_refutation (light_step s) axis a b) (has_refutation s axis a b)
      (λ h. barred_refuted s g axis a b la lb (sym same ∙ refuted_barred (light_step s) l axis a b la lb h))
      (λ h. barred_refuted (light_step s) l axis a b la lb (same ∙ refuted_barred s g axis a b la lb h))
