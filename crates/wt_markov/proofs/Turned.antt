-- The regions of a point and of the point one turn on: the first can be followed by the second.
use Rattle.std.proofs.Common.{arith, ◌≡◌, ℕ, suc, ◌+◌, [], ◌∷◌, ◌++◌, Bool, true, false, refl, sym, ap, ◌∙◌, inl, inr}
use Rattle.std.specs.Prelude.{ℤ, pos, ◌<ℤ◌}
use Rattle.std.proofs.lemmas.Bool.{and_parts, and_from}
use Rattle.wt_golden.specs.Whole.{Whole, whole, plus, minus, is_positive}
use Rattle.wt_golden.specs.Fractions.{Fraction, lowest, difference}
use Rattle.wt_ring.proofs.Ring.{x_, ◌⊕◌, ⊖_, solve}
use Rattle.wt_golden.proofs.WholeRing.{golden}
use Rattle.wt_plane.specs.HalfPlanes.{Spot}
use Rattle.wt_plane.specs.Regions.{holds_all}
use Rattle.wt_grid.specs.declared.axis.Axis.{Axis}
use Rattle.wt_torus.specs.declared.partition.Labelled.{Labelled}
use Rattle.wt_torus.specs.Boxes.{Rotation, length_of, move_of, is_in_box}
use Rattle.wt_torus.specs.Rotation.{step, orbit}
use Rattle.wt_torus.specs.Letters.{is_held}
use Rattle.wt_torus.proofs.Rotation.{flag, orbit_on}
use Rattle.wt_torus.proofs.Scale.{IsOver, lowered_over, difference_over, difference_above}
use Rattle.wt_torus.proofs.Lowered.{lowest_is, less_is_half}
use Rattle.wt_induce.specs.Zones.{beyond, beneath, zero_fraction, between}
use Rattle.wt_induce.proofs.Law.{box_parts, between_is}
use Rattle.wt_induce.proofs.Planes.{point_at, beyond_holds, beneath_holds}
use Rattle.wt_induce.proofs.Points.{IsDirected, held_append, each_append, point_over, zero_over, less_zero, moved_test}
use Rattle.wt_induce.specs.Faults.{moved_back}
use Rattle.wt_markov.specs.Follow.{box, rest, turn_zone, turn_move, turn_planes, can_follow}
use Rattle.wt_markov.proofs.Held.{less_holds, one_above, between_directed, box_directed, back_directed, box_holds, meets_at}

-- after i + 1 turns: one turn more
pub orbit_step : (L M t : Whole) → is_positive M ≡ true → is_positive (minus L M) ≡ true → (i : ℕ) → orbit L M t (suc i) ≡ step L M (orbit L M t i)
orbit_step L M t some less i = let e : i + 1 ≡ suc i = omega arith in ap (orbit L M t) (sym e) ∙ orbit_on L M some less i 1 t

module _ (axis : Axis) (r : Rotation) (width_over : pos 0 <ℤ r.width.d) (height_over : pos 0 <ℤ r.height.d)
    (d : ℤ) (above : pos 0 <ℤ d) (L M : Whole)
    (length_over : pos 0 <ℤ (length_of axis r).d) (length_is : IsOver d (length_of axis r) L)
    (move_over : pos 0 <ℤ (move_of axis r).d) (move_is : IsOver d (move_of axis r) M) where
  abbrev at : Whole → Whole → Spot
  at t s = point_at axis t s d

  lowered : (f : Fraction) (F : Whole) → pos 0 <ℤ f.d → IsOver d f F → IsOver d (lowest f) F × (pos 0 <ℤ (lowest f).d)
  lowered f F k o = let l = lowest_is f k in (lowered_over d f (lowest f) l.0 F l.1 o, l.1.over)

  rest_is : IsOver d (rest axis r) (minus L M) × (pos 0 <ℤ (rest axis r).d)
  rest_is = lowered (difference (length_of axis r) (move_of axis r)) (minus L M) (difference_above (length_of axis r) (move_of axis r) length_over move_over)
      (difference_over d (length_of axis r) (move_of axis r) L M length_is move_is)

  back_is : IsOver d (turn_move axis r true) (minus M L) × (pos 0 <ℤ (turn_move axis r true).d)
  back_is = lowered (difference (move_of axis r) (length_of axis r)) (minus M L) (difference_above (move_of axis r) (length_of axis r) move_over length_over)
      (difference_over d (move_of axis r) (length_of axis r) M L move_is length_is)

  -- coordinates of the box
  pub inner : (t s : Whole) → is_in_box r (at t s) ≡ true → (is_positive t ≡ true) × (is_positive (minus L t) ≡ true)
  inner t s e =
      let h = box_parts axis r t s d e in
      and_parts (is_positive t) (is_positive (minus L t)) (sym (between_is t d (length_of axis r) L length_over length_is) ∙ h.0)

  between_holds : (low high : Fraction) (A B t s : Whole) → pos 0 <ℤ low.d → pos 0 <ℤ high.d → IsOver d low A → IsOver d high B
      → is_positive (minus t A) ≡ true → is_positive (minus B t) ≡ true → holds_all (between axis low high) (at t s) ≡ true
  between_holds low high A B t s hl hh ol oh e f = rw (
    less_holds (beyond axis low) (at t s) ∙ (beyond_holds d low A ol hl axis t s ∙ e),
    less_holds (beneath axis high) (at t s) ∙ (beneath_holds d high B oh hh axis t s ∙ f),
  ) refl

  module _ (p q : Labelled) (p_directed : IsDirected p.region.planes) (q_directed : IsDirected q.region.planes) where
    zone_over : (back : Bool) → IsDirected (turn_zone axis r back) × (pos 0 <ℤ (turn_move axis r back).d)
    zone_over false = (between_directed axis zero_fraction (rest axis r) one_above rest_is.1, move_over)
    zone_over true = (between_directed axis (rest axis r) (length_of axis r) rest_is.1 length_over, back_is.1)

    all_directed : (back : Bool) → IsDirected (turn_planes axis r back p q)
    all_directed back =
        let z = zone_over back in
        let moved = moved_back axis (turn_move axis r back) q.region.planes in
        each_append _ (box r) (turn_zone axis r back ++ (p.region.planes ++ moved)) (box_directed r width_over height_over)
        (each_append _ (turn_zone axis r back) (p.region.planes ++ moved) z.0
        (each_append _ p.region.planes moved p_directed (back_directed axis (turn_move axis r back) q.region.planes z.1 q_directed)))

    all_hold : (back : Bool) (z : Spot) → holds_all (box r) z ≡ true → holds_all (turn_zone axis r back) z ≡ true → is_held z p ≡ true
        → holds_all (moved_back axis (turn_move axis r back) q.region.planes) z ≡ true → holds_all (turn_planes axis r back p q) z ≡ true
    all_hold back z e f g h =
        let moved = moved_back axis (turn_move axis r back) q.region.planes in
        held_append z (box r) (turn_zone axis r back ++ (p.region.planes ++ moved))
        ∙ and_from (holds_all (box r) z) (holds_all (turn_zone axis r back ++ (p.region.planes ++ moved)) z) e
        (held_append z (turn_zone axis r back) (p.region.planes ++ moved)
        ∙ and_from (holds_all (turn_zone axis r back) z) (holds_all (p.region.planes ++ moved) z) f
        (held_append z p.region.planes moved ∙ and_from (holds_all p.region.planes z) (holds_all moved z) g h))

    moved_holds : (back : Bool) (m t s u : Whole) → pos 0 <ℤ (turn_move axis r back).d → IsOver d (turn_move axis r back) m → u ≡ plus t m → is_held (at u s) q ≡ true
        → holds_all (moved_back axis (turn_move axis r back) q.region.planes) (at t s) ≡ true
    moved_holds back m t s u k o e h =
        moved_test less_is_half axis d above [] t s m (turn_move axis r back) k o q.region.planes
        ∙ (ap (λ (v : Whole). holds_all q.region.planes (at v s)) (sym e) ∙ h)

    meets_in : (back : Bool) (t s : Whole) → holds_all (turn_planes axis r back p q) (at t s) ≡ true → can_follow axis r p q ≡ true
    unfolding can_follow
    meets_in false t s e = rw (meets_at (turn_planes axis r false p q) (at t s) (point_over less_is_half axis d above axis t s) (all_directed false) e) refl
    meets_in true t s e = elim (flag (Rattle.wt_markov.specs.Follow.meets (turn_planes axis r false p q))) [
      | inl f ↦ rw f refl
      | inr f ↦ rw (f, meets_at (turn_planes axis r true p q) (at t s) (point_over less_is_half axis d above axis t s) (all_directed true) e) refl
    ]

    pub follows : (t s : Whole) → is_in_box r (at t s) ≡ true → is_held (at t s) p ≡ true
        → is_in_box r (at (step L M t) s) ≡ true → is_held (at (step L M t) s) q ≡ true → can_follow axis r p q ≡ true
    follows t s here held there next = elim (flag (is_positive (minus L (plus t M)))) [
      | inl e ↦
          let on : step L M t ≡ plus t M = rw e refl in
          let b = inner t s here in
          let zone = between_holds zero_fraction (rest axis r) (whole (pos 0)) (minus L M) t s one_above rest_is.1 (zero_over less_is_half axis d above) rest_is.0
          (less_zero less_is_half axis d above t ∙ b.0)
          (ap is_positive (solve golden (L ∷ M ∷ t ∷ []) ((x_ 0 ⊕ ⊖_ (x_ 1)) ⊕ ⊖_ (x_ 2)) (x_ 0 ⊕ ⊖_ (x_ 2 ⊕ x_ 1)) refl) ∙ e) in
          meets_in false t s (all_hold false (at t s) (box_holds r (at t s) here) zone held
          (moved_holds false M t s (step L M t) move_over move_is on next))
      | inr e ↦
          let on : step L M t ≡ minus (plus t M) L = rw e refl in
          let b = inner t s here in
          let c = inner (step L M t) s there in
          let zone = between_holds (rest axis r) (length_of axis r) (minus L M) L t s rest_is.1 length_over rest_is.0 length_is
          (ap is_positive (solve golden (L ∷ M ∷ t ∷ []) (x_ 2 ⊕ ⊖_ (x_ 0 ⊕ ⊖_ (x_ 1))) ((x_ 2 ⊕ x_ 1) ⊕ ⊖_ (x_ 0)) refl ∙ sym on) ∙ c.0) b.1 in
          meets_in true t s (all_hold true (at t s) (box_holds r (at t s) here) zone held
          (moved_holds true (minus M L) t s (step L M t) back_is.1 back_is.0
          (on ∙ solve golden (L ∷ M ∷ t ∷ []) ((x_ 2 ⊕ x_ 1) ⊕ ⊖_ (x_ 0)) (x_ 2 ⊕ (x_ 1 ⊕ ⊖_ (x_ 0))) refl) next))
    ]
