-- What holds at a point: in boxes, in regions, and in half-planes that meet since they hold there.
use Rattle.std.proofs.Common.{arith, ◌≡◌, ℕ, zero, suc, List, [], ◌∷◌, true, nat_eq, Some, slice_get, refl, ap, subst, ◌∙◌, inl, inr}
use Rattle.std.specs.Prelude.{pos, ◌<ℤ◌}
use Rattle.std.proofs.lemmas.Int.{ints}
use Rattle.std.proofs.lemmas.Bool.{and_parts}
use Rattle.wt_golden.specs.Whole.{whole, minus, times, is_positive}
use Rattle.wt_golden.specs.Fractions.{Fraction, top}
use Rattle.wt_ring.proofs.Ring.{x_, ◌⊕◌, ◌⊗◌, ⊖_, n_, solve}
use Rattle.wt_golden.proofs.WholeRing.{golden}
use Rattle.wt_plane.specs.HalfPlanes.{Half, Spot, HasDirection, value, reduced_half}
use Rattle.wt_plane.specs.Regions.{holds_all}
use Rattle.wt_grid.specs.declared.axis.Axis.{Axis}
use Rattle.wt_grid.specs.declared.axis.Axis.TheVariants.{One, Two}
use Rattle.std.specs.List.{list_all}
use Rattle.wt_torus.specs.declared.letter.Letter.TheVariants.{Doubled}
use Rattle.wt_torus.specs.declared.letter.Letter.TheVariants as letter_of
use Rattle.wt_torus.specs.declared.partition.Labelled.{Labelled}
use Rattle.wt_torus.specs.declared.partition.Partition.{Partition}
use Rattle.wt_torus.specs.Boxes.{Rotation, is_below, is_between, is_in_box}
use Rattle.wt_torus.specs.Letters.{letter, only_label, those, label_of, is_held}
use Rattle.wt_torus.proofs.Rotation.{flag}
use Rattle.wt_torus.proofs.Scale.{holds}
use Rattle.wt_torus.proofs.Lowered.{less_is_half}
use Rattle.wt_induce.specs.Zones.{beyond, beneath, moved_along, zero_fraction, between}
use Rattle.wt_induce.proofs.Numbers.{Each}
use Rattle.wt_induce.proofs.Planes.{divided_holds}
use Rattle.wt_induce.proofs.Points.{IsDirected, is_all, none_clash, divided_direction, moved_direction, beyond_direction, beneath_direction, each_append, each_map}
use Rattle.wt_induce.proofs.Law.{letter_parts}
use Rattle.wt_induce.specs.Faults.{moved_back}
use Rattle.wt_markov.specs.Follow.{meets, box}

-- ---- the region of a letter

pub record HasRegion (p : Partition) (z : Spot) (a : ℕ) : Type 0 where
  pub number : ℕ
  pub region : Labelled
  pub there : slice_get p.regions number ≡ Some region
  pub label : region.label ≡ a
  pub held : is_held z region ≡ true
  pub inside : is_in_box p.torus z ≡ true

record IsFirst (z : Spot) (rs : List Labelled) (a : ℕ) : Type 0 where
  number : ℕ
  region : Labelled
  there : slice_get rs number ≡ Some region
  label : region.label ≡ a
  held : is_held z region ≡ true

those_head : (z : Spot) (rs : List Labelled) (a : ℕ) (as' : List ℕ) → those label_of (is_held z) rs ≡ a ∷ as' → IsFirst z rs a
those_head z [] a as' e = absurd cc
those_head z (x ∷ xs) a as' e = elim (flag (is_held z x)) [
  | inl t ↦
      let h : label_of x ∷ those label_of (is_held z) xs ≡ a ∷ as' = rw t at e in
      record { number = 0; region = x; there = refl; label = cc; held = t }
  | inr t ↦
      let h : those label_of (is_held z) xs ≡ a ∷ as' = rw t at e in
      let f = those_head z xs a as' h in
      record { number = suc f.number; region = f.region; there = f.there; label = f.label; held = f.held }
]

only_head : (ls : List ℕ) (a : ℕ) → only_label ls ≡ letter_of.One a → (as' : List ℕ) × (ls ≡ a ∷ as')
only_head [] a e = absurd cc
only_head (b ∷ bs) a e = elim (flag (list_all (nat_eq b) bs)) [
  | inl t ↦ let h : letter_of.One b ≡ letter_of.One a = rw t at e in (bs, cc)
  | inr t ↦ let h : Doubled ≡ letter_of.One a = rw t at e in absurd cc
]

pub region_of : (p : Partition) (z : Spot) (a : ℕ) → letter p z ≡ letter_of.One a → HasRegion p z a
region_of p z a e =
    let parts = letter_parts p z a e in
    let o = only_head (those label_of (is_held z) p.regions) a parts.1 in
    let f = those_head z p.regions a o.0 o.1 in
    record { number = f.number; region = f.region; there = f.there; label = f.label; held = f.held; inside = parts.0 }

pub each_get : {A : Type 0} (P : A → Type 0) (xs : List A) (i : ℕ) (x : A) → Each P xs → slice_get xs i ≡ Some x → P x
each_get P [] i x e s = absurd cc
each_get P (y ∷ ys) zero x e s = let h : y ≡ x = cc in subst P h e.0
each_get P (y ∷ ys) (suc i) x e s = each_get P ys i x e.1 s

-- ---- half-planes without common divisors

pub less_holds : (h : Half) (z : Spot) → holds z (reduced_half h) ≡ holds z h
less_holds h z = let l = less_is_half h in divided_holds h (reduced_half h) l.0 l.1 z

pub less_direction : (h : Half) → HasDirection h → HasDirection (reduced_half h)
less_direction h n = let l = less_is_half h in divided_direction h (reduced_half h) l.0 l.1 n

pub one_above : pos 0 <ℤ pos 1
one_above = omega (arith, ints)

pub between_directed : (axis : Axis) (low high : Fraction) → pos 0 <ℤ low.d → pos 0 <ℤ high.d → IsDirected (between axis low high)
between_directed axis low high hl hh = (
  less_direction (beyond axis low) (beyond_direction axis low hl),
  (less_direction (beneath axis high) (beneath_direction axis high hh), tt),
)

pub box_directed : (r : Rotation) → pos 0 <ℤ r.width.d → pos 0 <ℤ r.height.d → IsDirected (box r)
box_directed r hw hh = each_append HasDirection (between One zero_fraction r.width) (between Two zero_fraction r.height)
    (between_directed One zero_fraction r.width one_above hw) (between_directed Two zero_fraction r.height one_above hh)

pub back_directed : (axis : Axis) (f : Fraction) (hs : List Half) → pos 0 <ℤ f.d → IsDirected hs → IsDirected (moved_back axis f hs)
back_directed axis f hs hf e = each_map HasDirection HasDirection (λ h. reduced_half (moved_along axis f h)) hs
    (λ h n. less_direction (moved_along axis f h) (moved_direction axis f h hf n)) e

-- ---- points of the box

beyond_first : (z : Spot) → value (beyond One zero_fraction) z ≡ z.x
beyond_first z = solve golden (z.x ∷ z.y ∷ whole z.d ∷ []) (((n_ (pos 1) ⊗ x_ 0) ⊕ (n_ (pos 0) ⊗ x_ 1)) ⊕ (⊖_ (n_ (pos 0)) ⊗ x_ 2)) (x_ 0) refl

beyond_second : (z : Spot) → value (beyond Two zero_fraction) z ≡ z.y
beyond_second z = solve golden (z.x ∷ z.y ∷ whole z.d ∷ []) (((n_ (pos 0) ⊗ x_ 0) ⊕ (n_ (pos 1) ⊗ x_ 1)) ⊕ (⊖_ (n_ (pos 0)) ⊗ x_ 2)) (x_ 1) refl

pub beneath_first : (f : Fraction) (z : Spot) → value (beneath One f) z ≡ minus (times (top f) (whole z.d)) (times z.x (whole f.d))
beneath_first f z = solve golden (z.x ∷ z.y ∷ whole z.d ∷ top f ∷ whole f.d ∷ [])
    (((⊖_ (x_ 4) ⊗ x_ 0) ⊕ (n_ (pos 0) ⊗ x_ 1)) ⊕ (x_ 3 ⊗ x_ 2)) ((x_ 3 ⊗ x_ 2) ⊕ ⊖_ (x_ 0 ⊗ x_ 4)) refl

pub beneath_second : (f : Fraction) (z : Spot) → value (beneath Two f) z ≡ minus (times (top f) (whole z.d)) (times z.y (whole f.d))
beneath_second f z = solve golden (z.x ∷ z.y ∷ whole z.d ∷ top f ∷ whole f.d ∷ [])
    (((n_ (pos 0) ⊗ x_ 0) ⊕ (⊖_ (x_ 4) ⊗ x_ 1)) ⊕ (x_ 3 ⊗ x_ 2)) ((x_ 3 ⊗ x_ 2) ⊕ ⊖_ (x_ 1 ⊗ x_ 4)) refl

pub box_holds : (r : Rotation) (z : Spot) → is_in_box r z ≡ true → holds_all (box r) z ≡ true
box_holds r z e =
    let p = and_parts (is_between z.x z.d r.width) (is_between z.y z.d r.height) e in
    let x = and_parts (is_positive z.x) (is_below z.x z.d r.width) p.0 in
    let y = and_parts (is_positive z.y) (is_below z.y z.d r.height) p.1 in
    rw (
      less_holds (beyond One zero_fraction) z ∙ (ap is_positive (beyond_first z) ∙ x.0),
      less_holds (beneath One r.width) z ∙ (ap is_positive (beneath_first r.width z) ∙ x.1),
      less_holds (beyond Two zero_fraction) z ∙ (ap is_positive (beyond_second z) ∙ y.0),
      less_holds (beneath Two r.height) z ∙ (ap is_positive (beneath_second r.height z) ∙ y.1),
    ) refl

-- half-planes that hold at a point meet
pub meets_at : (hs : List Half) (z : Spot) → pos 0 <ℤ z.d → IsDirected hs → holds_all hs z ≡ true → meets hs ≡ true
meets_at hs z over d e = rw (none_clash z over hs (is_all z over hs d e)) refl
