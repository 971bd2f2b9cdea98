-- Where MarkerWindow holds, the markers of a code are the letters of the points beyond the window.
use Rattle.std.proofs.Common.{◌≡◌, ℕ, [], ◌∷◌, ◌++◌, Bool, true, false, not, refl, sym, ap, subst, ◌∙◌, inl, inr}
use Rattle.std.specs.Prelude.{ℤ, pos, ◌<ℤ◌}
use Rattle.std.proofs.lemmas.Bool.{and_parts, and_from}
use Rattle.wt_golden.specs.Whole.{Whole, whole, minus, times, opposite, is_positive}
use Rattle.wt_golden.specs.Fractions.{Fraction, top}
use Rattle.wt_ring.proofs.Ring.{x_, ◌⊕◌, ◌⊗◌, ⊖_, n_, solve}
use Rattle.wt_golden.proofs.WholeRing.{golden}
use Rattle.wt_golden.proofs.Order.{positive_or_not}
use Rattle.wt_plane.specs.HalfPlanes.{Half, Spot, IsSpot, HasDirection, value, reduced_half}
use Rattle.wt_plane.specs.Regions.{holds_all}
use Rattle.wt_grid.specs.declared.axis.Axis.{Axis}
use Rattle.wt_grid.specs.declared.axis.Axis.TheVariants.{One, Two}
use Rattle.wt_torus.specs.declared.letter.Letter.TheVariants as letter_of
use Rattle.wt_torus.specs.declared.partition.Partition.{Partition}
use Rattle.wt_torus.specs.Boxes.{Rotation, length_of, move_of}
use Rattle.wt_torus.specs.Rotation.{Window, window}
use Rattle.wt_torus.specs.Letters.{letter}
use Rattle.wt_torus.proofs.Rotation.{flag}
use Rattle.wt_torus.proofs.Scale.{IsOver, holds}
use Rattle.wt_torus.proofs.Lowered.{lowest_is, less_is_half}
use Rattle.wt_induce.specs.Zones.{frame_on, beyond, beneath, zero_fraction}
use Rattle.wt_torus.specs.Sound.{IsSound}
use Rattle.wt_induce.proofs.Planes.{point_at, beyond_holds, beneath_holds}
use Rattle.wt_induce.proofs.Points.{IsDirected, IsFrame, held_append, each_append, beyond_direction, beneath_direction, point_over}
use Rattle.wt_induce.proofs.Frames.{frame_is}
use Rattle.wt_step.specs.declared.raw.RawStep.{RawStep}
use Rattle.wt_step.specs.Words.{is_marker}
use Rattle.wt_markov.specs.Follow.{meets, box}
use Rattle.wt_markov.specs.Window.{is_beyond, is_inside, MarkerWindow}
use Rattle.wt_markov.proofs.Held.{HasRegion, region_of, less_holds, less_direction, box_directed, box_holds, meets_at, beneath_first, beneath_second}
use Rattle.wt_markov.proofs.Beside.{meets_beside}
use Rattle.wt_markov.proofs.Shared.{Shared}
use Rattle.wt_markov.proofs.Valid.{directed_at}

-- the two sides of a border
beyond_side : (axis : Axis) (f : Fraction) (y : Spot) → value (beyond axis f) y ≡ opposite (value (beneath axis f) y)
beyond_side One f y = solve golden (y.x ∷ y.y ∷ whole y.d ∷ top f ∷ whole f.d ∷ [])
    (((x_ 4 ⊗ x_ 0) ⊕ (n_ (pos 0) ⊗ x_ 1)) ⊕ (⊖_ (x_ 3) ⊗ x_ 2)) (⊖_ (((⊖_ (x_ 4) ⊗ x_ 0) ⊕ (n_ (pos 0) ⊗ x_ 1)) ⊕ (x_ 3 ⊗ x_ 2))) refl
beyond_side Two f y = solve golden (y.x ∷ y.y ∷ whole y.d ∷ top f ∷ whole f.d ∷ [])
    (((n_ (pos 0) ⊗ x_ 0) ⊕ (x_ 4 ⊗ x_ 1)) ⊕ (⊖_ (x_ 3) ⊗ x_ 2)) (⊖_ (((n_ (pos 0) ⊗ x_ 0) ⊕ (⊖_ (x_ 4) ⊗ x_ 1)) ⊕ (x_ 3 ⊗ x_ 2))) refl

beneath_side : (axis : Axis) (f : Fraction) (y : Spot) → value (beneath axis f) y ≡ opposite (value (beyond axis f) y)
beneath_side axis f y = solve golden (value (beneath axis f) y ∷ []) (x_ 0) (⊖_ (⊖_ (x_ 0))) refl ∙ ap opposite (sym (beyond_side axis f y))

-- the border itself
beneath_value : (axis : Axis) (f : Fraction) (t u : Whole) (d : ℤ) → value (beneath axis f) (point_at axis t u d) ≡ minus (times (top f) (whole d)) (times t (whole f.d))
beneath_value One f t u d = beneath_first f (point_at One t u d)
beneath_value Two f t u d = beneath_second f (point_at Two t u d)

beneath_border : (axis : Axis) (f : Fraction) (t u : Whole) (d : ℤ) → IsOver d f t → value (beneath axis f) (point_at axis t u d) ≡ whole (pos 0)
beneath_border axis f t u d o =
    beneath_value axis f t u d
    ∙ (ap (λ (x : Whole). minus x (times t (whole f.d))) o ∙ solve golden (times t (whole f.d) ∷ []) (x_ 0 ⊕ ⊖_ (x_ 0)) (n_ (pos 0)) refl)

beyond_border : (axis : Axis) (f : Fraction) (t u : Whole) (d : ℤ) → IsOver d f t → value (beyond axis f) (point_at axis t u d) ≡ whole (pos 0)
beyond_border axis f t u d o =
    beyond_side axis f (point_at axis t u d) ∙ (ap opposite (beneath_border axis f t u d o) ∙ solve golden [] (⊖_ (n_ (pos 0))) (n_ (pos 0)) refl)

pub false_true : {A : Type 0} (b : Bool) → b ≡ true → b ≡ false → A
false_true true e f = absurd cc
false_true false e f = absurd cc

module _ (s : RawStep) (p : Partition) (sound : IsSound p) (marks : MarkerWindow s p) (z : Spot) (h : Shared s.axis p.torus z) where
  abbrev r : Rotation
  r = p.torus

  abbrev pub W : Window
  W = window h.L h.M

  pub frame : IsFrame h.d (frame_on s.axis r) W
  frame = frame_is lowest_is h.d h.above (length_of s.axis r) (move_of s.axis r) h.L h.M h.length_over h.move_over h.length_is h.move_is

  abbrev size : Fraction
  size = (frame_on s.axis r).size

  abbrev at : Whole → Whole → Spot
  at t u = point_at s.axis t u h.d

  over : (t u : Whole) → pos 0 <ℤ (at t u).d
  over t u = point_over less_is_half s.axis h.d h.above s.axis t u

  box_is : IsDirected (box r)
  box_is = box_directed r sound.width sound.height

  -- a region and the box, cut by one more half-plane
  cut_meets : (b : Half) (t u : Whole) (a : ℕ) (q : HasRegion p (at t u) a) → HasDirection b → holds (at t u) (reduced_half b) ≡ true
      → meets (q.region.region.planes ++ (box r ++ (reduced_half b ∷ []))) ≡ true
  cut_meets b t u a q db e =
      let x = at t u in
      let planes = q.region.region.planes in
      let last = reduced_half b ∷ [] in
      let directed = directed_at p sound q.number q.region q.there in
      let cut : holds_all last x ≡ true = rw e refl in
      meets_at (planes ++ (box r ++ last)) x (over t u)
      (each_append HasDirection planes (box r ++ last) directed (each_append HasDirection (box r) last box_is (less_direction b db, tt)))
      (held_append x planes (box r ++ last) ∙ and_from (holds_all planes x) (holds_all (box r ++ last) x) q.held
      (held_append x (box r) last ∙ and_from (holds_all (box r) x) (holds_all last x) (box_holds r x q.inside) cut))

  far : (t u : Whole) (a : ℕ) → letter p (at t u) ≡ letter_of.One a → is_positive (minus t W.size) ≡ true → is_marker s a ≡ true
  unfolding is_beyond
  far t u a e lt =
      let q = region_of p (at t u) a e in
      let m = cut_meets (beyond s.axis size) t u a q (beyond_direction s.axis size frame.size_over)
      (less_holds (beyond s.axis size) (at t u) ∙ (beyond_holds h.d size W.size frame.size frame.size_over s.axis t u ∙ lt)) in
      subst (λ (x : ℕ). is_marker s x ≡ true) q.label (marks.outside q.number q.region q.there m)

  near : (t u : Whole) (a : ℕ) → letter p (at t u) ≡ letter_of.One a → is_positive (minus W.size t) ≡ true → is_marker s a ≡ false
  unfolding is_inside
  near t u a e lt =
      let q = region_of p (at t u) a e in
      let m = cut_meets (beneath s.axis size) t u a q (beneath_direction s.axis size frame.size_over)
      (less_holds (beneath s.axis size) (at t u) ∙ (beneath_holds h.d size W.size frame.size frame.size_over s.axis t u ∙ lt)) in
      subst (λ (x : ℕ). is_marker s x ≡ false) q.label (marks.inside q.number q.region q.there m)

  -- no letter is defined on the window's edge: its region would be both beyond and inside
  edge : (t u : Whole) (a : ℕ) → letter p (at t u) ≡ letter_of.One a → t ≡ W.size → ⊥
  unfolding is_beyond is_inside
  edge t u a e same =
      let q = region_of p (at t u) a e in
      let planes = q.region.region.planes in
      let directed = directed_at p sound q.number q.region q.there in
      let boxed = box_holds r (at t u) q.inside in
      let on : IsOver h.d size t = subst (λ (x : Whole). IsOver h.d size x) (sym same) frame.size in
      let low = reduced_half (beyond One zero_fraction) in
      let first = (and_parts (holds (at t u) low) _ boxed).0 in
      let spot : IsSpot (at t u) = record { divisor = over t u } in
      let b = beneath s.axis size in
      let c = beyond s.axis size in
      let db = beneath_direction s.axis size frame.size_over in
      let dc = beyond_direction s.axis size frame.size_over in
      let outside = meets_beside b (reduced_half c) (at t u) spot db (less_direction c dc)
      (λ y. less_holds c y ∙ ap is_positive (beyond_side s.axis size y)) (beneath_border s.axis size t u h.d on) low first planes (box r) directed box_is q.held boxed in
      let inside = meets_beside c (reduced_half b) (at t u) spot dc (less_direction b db)
      (λ y. less_holds b y ∙ ap is_positive (beneath_side s.axis size y)) (beyond_border s.axis size t u h.d on) low first planes (box r) directed box_is q.held boxed in
      false_true (is_marker s q.region.label) (marks.outside q.number q.region q.there outside) (marks.inside q.number q.region q.there inside)

  pub marked : (t u : Whole) (a : ℕ) → letter p (at t u) ≡ letter_of.One a → is_marker s a ≡ not (is_positive (minus W.size t))
  marked t u a e = elim (flag (is_positive (minus W.size t))) [
    | inl f ↦ rw f (near t u a e f)
    | inr f ↦ rw f (elim (positive_or_not (minus W.size t)) [
      | inl x ↦ absurd (edge t u a e (
          solve golden (t ∷ W.size ∷ []) (x_ 0) (x_ 1 ⊕ ⊖_ (x_ 1 ⊕ ⊖_ (x_ 0))) refl
          ∙ (ap (λ (y : Whole). minus W.size y) x ∙ solve golden (W.size ∷ []) (x_ 0 ⊕ ⊖_ (n_ (pos 0))) (x_ 0) refl)))
      | inr (inl x) ↦ false_true (is_positive (minus W.size t)) x.above f
      | inr (inr x) ↦ far t u a e (ap is_positive (solve golden (t ∷ W.size ∷ []) (x_ 0 ⊕ ⊖_ (x_ 1)) (⊖_ (x_ 1 ⊕ ⊖_ (x_ 0))) refl) ∙ x.above)
    ])
  ]
