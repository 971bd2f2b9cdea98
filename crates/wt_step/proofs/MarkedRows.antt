-- Allowed pairs whose rows are as the rules of markers and images ask have no fault.
use Rattle.std.proofs.Common.{arith, ◌≡◌, ◌<◌, ℕ, List, [], ◌∷◌, length, Bool, true, false, ◌&&◌, ◌||◌, not, nat_lt, None, refl}
use Rattle.std.specs.List.{list_any}
use Rattle.std.proofs.lemmas.Bool.{and_parts}
use Rattle.std.proofs.lemmas.Bool.Decides.{nat_tests}
use Rattle.wt_grid.specs.Order.{in_order, leads}
use Rattle.wt_grid.specs.Pairs.{pair_fits, pairs_follow, is_this_pair}
use Rattle.wt_grid.specs.declared.axis.Axis.{Axis}
use Rattle.wt_grid.specs.declared.image.Image.TheVariants as image
use Rattle.wt_grid.proofs.Unless.{fits}
use Rattle.wt_tile.proofs.Sizes.{few_tiles}
use Rattle.wt_step.specs.declared.raw.RawStep.{RawStep}
use Rattle.wt_step.specs.declared.raw.StepFault.TheVariants.{Marker, MissingPair}
use Rattle.wt_step.specs.Words.{allowed, same_image, is_block}
use Rattle.wt_step.specs.Faults.{IsShaped, is_marked_well, marker_fault_at, marker_fault, missing_pair_at, missing_pair}
use Rattle.wt_step.specs.TileMasks.{IsRowMarkedWell, HasRowImages}
use Rattle.wt_step.proofs.Faultless.{none_in, implies, is_pair_same}

low_pair : (n : ℕ) (ps : List (ℕ × ℕ)) → in_order (pair_fits n) pairs_follow ps ≡ true → (a b : ℕ) → list_any (is_this_pair a b) ps ≡ true → (a < n) × (b < n)
low_pair n [] o a b h = absurd (cc h)
low_pair n (p ∷ ps) o a b h =
    let q = and_parts (pair_fits n p && leads pairs_follow p ps) (in_order (pair_fits n) pairs_follow ps) o in
    go (is_this_pair a b p) refl (and_parts (pair_fits n p) (leads pairs_follow p ps) q.0).0 (low_pair n ps q.1 a b)
  where
    go : (t : Bool) → is_this_pair a b p ≡ t → pair_fits n p ≡ true → (list_any (is_this_pair a b) ps ≡ true → (a < n) × (b < n)) → (a < n) × (b < n)
    go true t u r =
        let v = and_parts (nat_lt p.0 n) (nat_lt p.1 n) u in
        let w = is_pair_same a b p t in
        (grind (arith, nat_tests, v.0, w.0), grind (arith, nat_tests, v.1, w.1))
    go false t u r = r (rw t at h)

pub no_marker_fault : (s : RawStep) → IsShaped s → (axis : Axis) → ((a : ℕ) → a < length s.fine.tiles → IsRowMarkedWell s axis a) → marker_fault s axis ≡ None
no_marker_fault s h axis rows = none_in (marker_fault_at s axis) (allowed s axis) (λ a b l.
    let low = low_pair (length s.fine.tiles) (allowed s axis) (h.allowed axis) a b l in
    let few = (few_tiles s.fine h.fine).1 in
    let under : b < 256 = omega (arith, low.1, few) in
    fits (is_marked_well s axis a b) (Marker axis a b) (rows a low.0 b under l))

pub no_missing_pair : (s : RawStep) → IsShaped s → ((a : ℕ) → a < length s.fine.tiles → HasRowImages s a) → missing_pair s ≡ None
no_missing_pair s h rows = none_in (missing_pair_at s) (allowed s s.axis) (λ a b l.
    let low = low_pair (length s.fine.tiles) (allowed s s.axis) (h.allowed s.axis) a b l in
    let few = (few_tiles s.fine h.fine).1 in
    let under : b < 256 = omega (arith, low.1, few) in
    fits (not (is_block s a b) || list_any (same_image (image.Two a b)) s.images) (MissingPair a b)
    (implies (is_block s a b) (list_any (same_image (image.Two a b)) s.images) (λ k. rows a low.0 b under l k)))
