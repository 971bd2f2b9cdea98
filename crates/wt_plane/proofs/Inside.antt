-- The test whether a point lies in a region.
use Rattle.std.specs.Prelude.{◌≡◌, true, ◌||◌, ◌++◌, List, [], ◌∷◌, refl, ◌↔◌}
use Rattle.std.proofs.Common.{subst, sym}
use Rattle.std.proofs.lemmas.Bool.{and_parts, and_from}
use Rattle.std.proofs.Math.Bool.{or_assoc}
use Rattle.wt_golden.specs.Whole.{is_positive}
use Rattle.wt_plane.specs.HalfPlanes.{Half, Spot, value, Holds, IsInside}
use Rattle.wt_plane.specs.Regions.{holds_all, clash_with}
use Rattle.wt_plane.specs.Clash.{clashes}

pub inside_of : (hs : List Half) (z : Spot) → holds_all hs z ≡ true → IsInside hs z
inside_of [] z e = tt
inside_of (h ∷ hs) z e =
    let r = and_parts (is_positive (value h z)) (holds_all hs z) e in
    (record { above = r.0 }, inside_of hs z r.1)

pub of_inside : (hs : List Half) (z : Spot) → IsInside hs z → holds_all hs z ≡ true
of_inside [] z p = refl
of_inside (h ∷ hs) z p = and_from (is_positive (value h z)) (holds_all hs z) p.0.above (of_inside hs z p.1)

pub with_both : (h g : Half) (xs ys : List Half) → clash_with h g (xs ++ ys) ≡ (clash_with h g xs || clash_with h g ys)
with_both h g [] ys = refl
with_both h g (k ∷ xs) ys = rw (with_both h g xs ys) (sym (or_assoc (clashes h g k) (clash_with h g xs) (clash_with h g ys)))

clipped_to : (hs : List Half) (h : Half) (z : Spot) → IsInside (hs ++ (h ∷ [])) z → IsInside hs z × Holds h z
clipped_to [] h z p = (tt, p.0)
clipped_to (k ∷ hs) h z p = let w = clipped_to hs h z p.1 in ((p.0, w.0), w.1)

clipped_from : (hs : List Half) (h : Half) (z : Spot) → IsInside hs z × Holds h z → IsInside (hs ++ (h ∷ [])) z
clipped_from [] h z p = (p.1, tt)
clipped_from (k ∷ hs) h z p = (p.0.0, clipped_from hs h z (p.0.1, p.1))

pub clipped : (hs ks : List Half) (h : Half) → ks ≡ hs ++ (h ∷ []) → (z : Spot) → IsInside ks z ↔ (IsInside hs z × Holds h z)
clipped hs ks h e z = subst (λ l. IsInside l z ↔ (IsInside hs z × Holds h z)) (sym e) ((clipped_to hs h z, clipped_from hs h z))
