-- Lists that agree lane by lane, and the first place where two differ behind a part that agrees.
use Rattle.std.proofs.Common.{arith, ◌≡◌, ℕ, zero, suc, ◌+◌, ◌≤◌, List, [], ◌∷◌, take, drop, length, ap, ◌∙◌, refl, Bool, true, not, nat_eq, add-zero, eq-eqb}
use Rattle.std.proofs.lemmas.Bool.Decides.{nat_tests}
use lib.Lanes.{mask_l, zip2}
use Rattle.wt_lane.specs.Differs.{first_place_apart}

abbrev pub differs : ℕ → ℕ → Bool
differs x y = not (nat_eq x y)

cong2 : {x y : ℕ} {xs ys : List ℕ} → x ≡ y → xs ≡ ys → x ∷ xs ≡ y ∷ ys
cong2 p q = cc

pub same_of_mask : (xs ys : List ℕ) → length xs ≡ length ys → mask_l (zip2 differs xs ys) ≡ 0 → xs ≡ ys
same_of_mask [] [] e h = refl
same_of_mask [] (y ∷ ys) e h = absurd (omega arith)
same_of_mask (x ∷ xs) [] e h = absurd (omega arith)
same_of_mask (x ∷ xs) (y ∷ ys) e h =
    let long : length xs ≡ length ys = omega arith in
    let rest : mask_l (zip2 differs xs ys) ≡ 0 = omega arith in
    let heads : x ≡ y = grind (arith, nat_tests, h) in
    cong2 heads (same_of_mask xs ys long rest)

pub skip_same : (n i : ℕ) (xs ys : List ℕ) → n ≤ length xs → take n xs ≡ take n ys → length xs ≡ length ys → first_place_apart i xs ys ≡ first_place_apart (i + n) (drop n xs) (drop n ys)
skip_same zero i xs ys le e l = rw add-zero refl
skip_same (suc n) i [] ys le e l = refl
skip_same (suc n) i (x ∷ xs) [] le e l = absurd (omega arith)
skip_same (suc n) i (x ∷ xs) (y ∷ ys) le e l =
    let heads : x ≡ y = cc in
    let tails : take n xs ≡ take n ys = cc in
    let j : i + 1 + n ≡ i + suc n = omega arith in
    let here : nat_eq x y ≡ true = eq-eqb x y heads in
    rw here (skip_same n (i + 1) xs ys (omega arith) tails (omega arith) ∙ ap (λ k. first_place_apart k (drop n xs) (drop n ys)) j)
