-- Axes read digit by digit, as a loop does.
use Rattle.std.proofs.Common.{◌≡◌, ℕ, List, [], ◌∷◌, ◌++◌, Option, None, Some, nat_eq, false, true, refl, sym, ap, ◌∙◌, append_assoc}
use Rattle.wt_grid.specs.declared.axis.Axis.TheVariants.{One, Two}
use Rattle.wt_grid.specs.declared.axis.Axis.{Axis}
use Rattle.std.proofs.lemmas.List.{append-nil}
use Rattle.wt_text.specs.Readers.{◌>>=◌}
use Rattle.wt_script.specs.Tokens.{axes_of}

-- what was read before, and what is still read
abbrev pub led : List Axis → Option (List Axis) → Option (List Axis)
led front r = r >>= λ more. Some (front ++ more)

pub begins : (r : Option (List Axis)) → led [] r ≡ r
begins None = refl
begins (Some as') = refl

pub one_more : (front : List Axis) (a : Axis) (r : Option (List Axis)) → led front (r >>= λ more. Some (a ∷ more)) ≡ led (front ++ a ∷ []) r
one_more front a None = refl
one_more front a (Some as') = ap (λ (f : List Axis). Some f) (simp append_assoc)

pub first_axis : (front : List Axis) (b : ℕ) (bs : List ℕ) (total : Option (List Axis)) → nat_eq b 49 ≡ true → led front (axes_of (b ∷ bs)) ≡ total → led (front ++ One ∷ []) (axes_of bs) ≡ total
first_axis front b bs total e so =
    let one : led front (axes_of (b ∷ bs)) ≡ led (front ++ One ∷ []) (axes_of bs) = rw e (one_more front One (axes_of bs)) in
    sym one ∙ so

pub second_axis : (front : List Axis) (b : ℕ) (bs : List ℕ) (total : Option (List Axis)) → nat_eq b 49 ≡ false → nat_eq b 50 ≡ true → led front (axes_of (b ∷ bs)) ≡ total → led (front ++ Two ∷ []) (axes_of bs) ≡ total
second_axis front b bs total e f so =
    let one : led front (axes_of (b ∷ bs)) ≡ led (front ++ Two ∷ []) (axes_of bs) = rw (e, f) (one_more front Two (axes_of bs)) in
    sym one ∙ so

pub no_axis : (front : List Axis) (b : ℕ) (bs : List ℕ) (total : Option (List Axis)) → nat_eq b 49 ≡ false → nat_eq b 50 ≡ false → led front (axes_of (b ∷ bs)) ≡ total → total ≡ None
no_axis front b bs total e f so =
    let one : led front (axes_of (b ∷ bs)) ≡ None = rw (e, f) refl in
    sym so ∙ one

pub all_read : (front : List Axis) (total : Option (List Axis)) → led front (axes_of []) ≡ total → total ≡ Some front
all_read front total so = sym so ∙ ap (λ (f : List Axis). Some f) (append-nil front)
