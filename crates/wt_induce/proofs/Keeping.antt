-- Which drafts are kept, list by list.
use Rattle.std.proofs.Common.{◌≡◌, ◌++◌, List, [], ◌∷◌, Bool, true, false, not, None, Some, append_assoc, refl, sym, ap, ◌∙◌, inl, inr}
use Rattle.std.specs.Prelude.{ℕ, ◌||◌, Option}
use Rattle.wt_plane.specs.HalfPlanes.{Half}
use Rattle.wt_plane.specs.Regions.{clash_with, clash_with_two}
use Rattle.wt_plane.proofs.Inside.{with_both}
use Rattle.wt_torus.specs.Letters.{those}
use Rattle.wt_torus.proofs.Rotation.{flag}
use Rattle.wt_grid.specs.First.{or_else}
use Rattle.wt_induce.specs.Induced.{some_clash, is_kept, reduced_draft}
use Rattle.wt_induce.specs.Backs.{paired_fault, paired_drafts}
use Rattle.wt_induce.proofs.Letters.{those_append}

-- what more elements add to those that pass so far
pub those_on : {A B : Type 0} (f : A → B) (p : A → Bool) (before now : List B) (new rest : List A) → now ≡ before ++ those f p new → now ++ those f p rest ≡ before ++ those f p (new ++ rest)
those_on {A} {B} f p before now new rest e =
    ap (λ (l : List B). l ++ those f p rest) e
    ∙ (append_assoc before (those f p new) (those f p rest) ∙ ap (λ (l : List B). before ++ l) (sym (those_append f p new rest)))

-- where the first answers nothing, the later one counts
pub later : {A : Type 0} (a b total : Option A) → or_else a b ≡ total → a ≡ None → b ≡ total
later a b total e n = rw n at e

-- ---- more half-planes keep a clash

or_true : (b : Bool) → (b || true) ≡ true
or_true true = refl
or_true false = refl

with_front : (f g : Half) (xs ys : List Half) → clash_with f g xs ≡ true → clash_with f g (xs ++ ys) ≡ true
with_front f g xs ys e = with_both f g xs ys ∙ (rw e refl)

two_front : (f : Half) (xs ys : List Half) → clash_with_two f xs ≡ true → clash_with_two f (xs ++ ys) ≡ true
two_front f [] ys e = absurd cc
two_front f (g ∷ gs) ys e = elim (flag (clash_with f g (g ∷ gs))) [
  | inl a ↦ rw (with_front f g (g ∷ gs) ys a) refl
  | inr a ↦ let r = two_front f gs ys (rw a at e) in rw r (or_true (clash_with f g (g ∷ (gs ++ ys))))
]

pub clash_front : (xs ys : List Half) → some_clash xs ≡ true → some_clash (xs ++ ys) ≡ true
clash_front [] ys e = absurd cc
clash_front (g ∷ gs) ys e = elim (flag (clash_with_two g (g ∷ gs))) [
  | inl a ↦ rw (two_front g (g ∷ gs) ys a) refl
  | inr a ↦ let r = clash_front gs ys (rw a at e) in rw r (or_true (clash_with_two g (g ∷ (gs ++ ys))))
]

-- a pair whose half-planes in front clash is dropped, and has no fault
pub dropped : (front : List Half) (a b : ℕ) (back : Option (List Half)) → some_clash front ≡ true → those reduced_draft is_kept (paired_drafts front a b back) ≡ []
dropped front a b None e = refl
dropped front a b (Some hs) e = rw (clash_front front hs e) refl

pub dropped_fault : (front : List Half) (a b : ℕ) (back : Option (List Half)) (hs : List Half) → back ≡ Some hs → some_clash front ≡ true → paired_fault front a b back ≡ None
dropped_fault front a b back hs s e = rw (s, clash_front front hs e) refl
