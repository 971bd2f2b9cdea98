-- How a list begins.
use Rattle.std.proofs.Common.{arith, ◌≡◌, ◌<◌, ℕ, List, [], ◌∷◌, ◌++◌, length, take, slice_index, refl, ap}

-- with one number more
pub start_of : (start list : List ℕ) (t : ℕ) → take (length (start ++ t ∷ [])) list ≡ start ++ t ∷ [] → (take (length start) list ≡ start) × (slice_index list (length start) ≡ t)
start_of [] [] t e = absurd cc
start_of [] (y ∷ ys) t e = (refl, cc)
start_of (x ∷ xs) [] t e = absurd cc
start_of (x ∷ xs) (y ∷ ys) t e =
    let h : y ≡ x = cc in
    let r : take (length (xs ++ t ∷ [])) ys ≡ xs ++ t ∷ [] = cc in
    let p = start_of xs ys t r in
    (rw h (ap (λ zs. x ∷ zs) p.0), p.1)

pub start_on : (start list : List ℕ) → take (length start) list ≡ start → length start < length list
    → take (length (start ++ slice_index list (length start) ∷ [])) list ≡ start ++ slice_index list (length start) ∷ []
start_on [] [] e lt = absurd (omega arith)
start_on [] (y ∷ ys) e lt = refl
start_on (x ∷ xs) [] e lt = absurd (omega arith)
start_on (x ∷ xs) (y ∷ ys) e lt =
    let h : y ≡ x = cc in
    let r : take (length xs) ys ≡ xs = cc in
    let p = start_on xs ys r (omega arith) in
    rw h (ap (λ zs. x ∷ zs) p)
