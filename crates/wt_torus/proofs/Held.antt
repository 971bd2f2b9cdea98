-- Letters, label by label.
use Rattle.std.proofs.Common.{◌≡◌, ℕ, List, [], ◌∷◌, nat_eq, cond, None, Some, refl, inl, inr}
use Rattle.std.specs.List.{list_all}
use Rattle.wt_torus.specs.declared.letter.Letter.TheVariants.{One, Doubled}
use Rattle.wt_torus.specs.Letters.{only_label, only_from}
use Rattle.wt_torus.proofs.Rotation.{flag}

some_from : (a : ℕ) (as' : List ℕ) → only_from (Some a) as' ≡ cond (list_all (nat_eq a) as') (One a) Doubled
some_from a [] = refl
some_from a (b ∷ bs) = elim (flag (nat_eq a b)) [
  | inl e ↦ rw e (some_from a bs)
  | inr e ↦ rw e refl
]

pub only_from_none : (ls : List ℕ) → only_from None ls ≡ only_label ls
only_from_none [] = refl
only_from_none (a ∷ as') = some_from a as'
