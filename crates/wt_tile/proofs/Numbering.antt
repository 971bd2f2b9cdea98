-- Edges that are held once each.
use Rattle.std.proofs.Common.{arith, length-append, ◌||◌, ◌≡◌, ◌≢◌, ◌⊎◌, ℕ, zero, suc, ◌<◌, ◌≤◌, Bool, true, false, List, [], ◌∷◌, ◌++◌, length, Contains, Option, Some, None, get_or, slice_get, refl, sym, ap, ◌∙◌, inl, inr, if◌then◌else◌, nat_eq, true≢false, not, IsTrue, ◌↔◌}
use Rattle.std.proofs.lemmas.Bool.{cases_lt, or_right}
use Rattle.std.proofs.lemmas.Bool.Decides.{nat_tests}
use Rattle.std.proofs.lemmas.Option.{get_or_from_slice_get, slice_get_within}
use Rattle.std.proofs.lemmas.Map.Keys.{apart_from_distinct}
use Rattle.std.specs.List.{list_any, IsDistinct}
use Rattle.std.proofs.lemmas.Map.Views.{Contains-from_any}
use Rattle.wt_tile.specs.declared.fusion.Edge.{Edge}
use Rattle.wt_tile.specs.declared.fusion.Edge.TheVariants.{One, Two}
use Rattle.wt_tile.specs.contracts.fusion.EdgePartialEq.TheImpl.{eq-value}
use Rattle.wt_tile.specs.Colours.{IsNumbering}

pub same_edge : (x y : Edge) → eq-value.it x y ≡ true → x ≡ y
same_edge (One a) (One b) e = let h : a ≡ b = grind (arith, nat_tests, e) in cc
same_edge (One a) (Two b c) e = absurd (cc)
same_edge (Two a b) (One c) e = absurd (cc)
same_edge (Two a b) (Two c d) e = let h : a ≡ c = grind (arith, nat_tests, e) in let k : b ≡ d = grind (arith, nat_tests, e) in cc

pub own_edge : (x : Edge) → eq-value.it x x ≡ true
own_edge (One a) = grind (arith, nat_tests)
own_edge (Two a b) = grind (arith, nat_tests)

apart_places : (es : List Edge) → IsDistinct eq-value.it es → (i j : ℕ) (e : Edge) → slice_get es i ≡ Some e → slice_get es j ≡ Some e → i < j → ⊥
apart_places es d i j e p q lt =
    let f : eq-value.it (get_or es i e) (get_or es j e) ≡ false = apart_from_distinct eq-value.it es i j e d lt (slice_get_within es j e q) in
    let g : eq-value.it e e ≡ false = rw (get_or_from_slice_get es i e e p, get_or_from_slice_get es j e e q) at f in
    true≢false (sym (own_edge e) ∙ g)

-- edges of which no two are equal stand at one place each
pub once : (es : List Edge) → IsDistinct eq-value.it es → length es ≤ 512 → IsNumbering es
once es d few = record {
  few = few;
  once = λ i j e p q. elim (cases_lt i j) [
    | inl lt ↦ absurd (apart_places es d i j e p q lt)
    | inr le ↦ elim (cases_lt j i) [ inl lt ↦ absurd (apart_places es d j i e q p lt) | inr ge ↦ omega arith ]
  ];
}

pub not_held : (es : List Edge) (e : Edge) → (Contains es e → ⊥) → list_any (eq-value.it e) es ≡ false
not_held es e h = by (list_any (eq-value.it e) es) refl
  where
    by : (b : Bool) → list_any (eq-value.it e) es ≡ b → list_any (eq-value.it e) es ≡ false
    by true p = absurd (h (Contains-from_any {eq = eq-value.it} same_edge e es p))
    by false p = p

held_at : (es : List Edge) (e : Edge) (k : ℕ) → k < length es → get_or es k e ≡ e → list_any (eq-value.it e) es ≡ true
held_at [] e k lt h = absurd (omega arith)
held_at (x ∷ xs) e zero lt h = let f : eq-value.it e x ≡ true = rw h (own_edge e) in rw f refl
held_at (x ∷ xs) e (suc k) lt h = or_right (eq-value.it e x) (list_any (eq-value.it e) xs) (held_at xs e k (omega arith) h)

pub held : (es : List Edge) (e : Edge) → Contains es e → list_any (eq-value.it e) es ≡ true
held es e h = held_at es e h.0 h.1 h.2

-- the edges with one more where it is new
abbrev pub with_edge : List Edge → Edge → List Edge
with_edge es e = if list_any (eq-value.it e) es then es else es ++ e ∷ []

pub few_after : (es : List Edge) (e : Edge) → length es ≤ 512 → ((length es ≡ 512) × (Contains es e → ⊥) → ⊥) → length (with_edge es e) ≤ 512
few_after es e few h = by (list_any (eq-value.it e) es) refl
  where
    by : (b : Bool) → list_any (eq-value.it e) es ≡ b → length (with_edge es e) ≤ 512
    by true p = rw p few
    by false p =
        let room : length es ≡ 512 → ⊥ = λ q. h (q, λ k. true≢false (sym (held es e k) ∙ p)) in
        rw p (omega (arith, length-append es (e ∷ [])))

pub added_last : (es : List Edge) (e : Edge) → (Contains es e → ⊥) → with_edge es e ≡ es ++ e ∷ []
added_last es e h = rw (not_held es e h) refl

-- the test of a list that is full
pub past : (es : List Edge) (e : Edge) (b : Bool) → length es ≡ 512 → b ≡ list_any (eq-value.it e) es → IsTrue (not b) ↔ ((length es ≡ 512) × (Contains es e → ⊥))
past es e true full h = (λ f. absurd (true≢false (sym f)), λ q. absurd (true≢false (h ∙ not_held es e q.1)))
past es e false full h = (λ f. (full, λ q. true≢false (sym (held es e q) ∙ sym h)), λ q. refl)

pub few_next : (old now new : List Edge) (e : Edge) → old ≡ now → new ≡ with_edge old e → length old ≤ 512 → ((length now ≡ 512) × (Contains now e → ⊥) → ⊥) → length new ≤ 512
few_next old now new e v k few h =
    let small : length now ≤ 512 = rw v at few in
    rw (k, v) (few_after now e small h)

pub added_next : (old now new : List Edge) (e : Edge) → old ≡ now → new ≡ with_edge old e → (Contains now e → ⊥) → new ≡ now ++ e ∷ []
added_next old now new e v k h = rw (k, v) (added_last now e h)

same_number : (es : List Edge) (i j : ℕ) (a b : Edge) → slice_get es i ≡ Some a → slice_get es j ≡ Some b → i ≡ j → a ≡ b
same_number es i j a b p q e = let h : slice_get es j ≡ Some a = rw e at p in cc

pub tell_edges : (es : List Edge) (i j : ℕ) (a b : Edge) → IsNumbering es → slice_get es i ≡ Some a → slice_get es j ≡ Some b → (i ≡ j) ↔ (a ≡ b)
tell_edges es i j a b n p q = (same_number es i j a b p q, λ e. n.once i j b (p ∙ ap (λ (x : Edge). Some x) e) q)
