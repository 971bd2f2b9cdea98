-- Listed values, one more.
use Rattle.std.proofs.Common.{arith, ◌≡◌, ◌+◌, ℕ, zero, suc, List, [], ◌∷◌, ◌++◌, refl, ap, ◌∙◌}
use Rattle.wt_grid.specs.Grid.{listed}

pub listed_last : {A : Type 0} (n : ℕ) (f : ℕ → A) → listed (suc n) f ≡ listed n f ++ (f n ∷ [])
listed_last zero f = refl
listed_last {A} (suc n) f = ap (λ (l : List A). f 0 ∷ l) (listed_last n (λ k. f (suc k)))

pub listed_more : {A : Type 0} (n : ℕ) (f : ℕ → A) → listed (n + 1) f ≡ listed n f ++ (f n ∷ [])
listed_more n f = let e : n + 1 ≡ suc n = omega arith in ap (λ (k : ℕ). listed k f) e ∙ listed_last n f
