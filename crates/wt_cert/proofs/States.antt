-- The state that parts leave, one after the other.
use Rattle.std.proofs.Common.{◌≡◌, List, [], ◌∷◌, ◌++◌, refl}
use Rattle.wt_text.specs.Readers.{left_by}

pub left_by_more : {A S : Type 0} (next : S → A → S) (s : S) (xs : List A) (x : A) → left_by next s (xs ++ x ∷ []) ≡ next (left_by next s xs) x
left_by_more next s [] x = refl
left_by_more next s (y ∷ ys) x = left_by_more next (next s y) ys x
