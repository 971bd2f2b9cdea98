-- Half-planes of zones and edges are within the limit only where the numbers that they end at are.
use Rattle.std.proofs.Common.{arith, ◌≡◌, ℕ, ◌≤◌, ◌<◌, ◌/◌, [], ◌∷◌, Bool, true, false, ◌&&◌, refl, sym, ap, subst, ◌∙◌}
use Rattle.std.specs.Prelude.{ℤ, pos, ◌<ℤ◌, neg_ℤ, unsigned_abs, nat_le, nat_lt}
use Rattle.std.specs.List.{list_all}
use Rattle.std.proofs.lemmas.Bool.{and_parts}
use Rattle.std.proofs.lemmas.Bool.Decides.{nat_tests}
use Rattle.wt_golden.specs.Whole.{Whole, whole, opposite}
use Rattle.wt_golden.specs.Fractions.{Fraction, top, common_of, common, lowest, sum, negative, difference, limit}
use Rattle.wt_golden.proofs.Divisors.{abs_neg, abs_quotient, common_divides}
use Rattle.wt_golden.proofs.Lowest.{lowest_apart}
use Rattle.wt_golden.proofs.WholeRing.{golden}
use Rattle.wt_ring.proofs.Ring.{x_, ◌⊕◌, ◌⊗◌, ⊖_, solve}
use Rattle.wt_ring.proofs.Integers.{integers}
use Rattle.std.specs.Int.{◌∣◌}
use Rattle.wt_grid.specs.declared.axis.Axis.{Axis}
use Rattle.wt_grid.specs.declared.axis.Axis.TheVariants.{One, Two}
use Rattle.wt_plane.specs.HalfPlanes.{Half, half_limit, numbers_of, divided_half, reduced_half}
use Rattle.wt_plane.proofs.Reduced.{divided_one}
use Rattle.wt_torus.specs.Boxes.{Rotation, length_of, move_of, is_below}
use Rattle.wt_torus.specs.Codes.{is_within}
use Rattle.wt_torus.proofs.Scale.{difference_above}
use Rattle.wt_induce.specs.Zones.{twice, frame_on, beyond, beneath}
use Rattle.wt_induce.specs.Faults.{are_within, is_small_half}
use Rattle.wt_markov.specs.Follow.{box, rest, turn_zone, turn_move}
use Rattle.wt_markov.specs.Faults.{zones_fit}
use Rattle.wt_markov.specs.WindowFaults.{edges_fit}

below_limit : (n : ℕ) → nat_le n half_limit ≡ true → nat_lt n limit ≡ true
below_limit n e =
    let l : n ≤ half_limit = grind (arith, nat_tests, e) in
    let m : n < limit = omega arith in
    grind (arith, nat_tests, m)

once : (h : Half) → divided_half h 1 ≡ h
once h = rw (divided_one h.p, divided_one h.q, divided_one h.r) refl

-- ---- a number in lowest terms, as the end of a half-plane

module _ (f : Fraction) (over : pos 0 <ℤ f.d) where
  abbrev g : Fraction
  g = lowest f

  -- the numbers of the half-plane have no common divisor
  alone : (axis : Axis) → common_of (numbers_of (beyond axis g)) ≡ 1
  unfolding opposite
  alone One =
      let k = common_of (numbers_of (beyond One g)) in
      let v = common_divides (numbers_of (beyond One g)) in
      lowest_apart f k over (subst (λ (n : ℕ). k ∣ n) (abs_neg g.a) v.1.1.1.1.0) (subst (λ (n : ℕ). k ∣ n) (abs_neg g.b) v.1.1.1.1.1.0) v.0
  alone Two =
      let k = common_of (numbers_of (beyond Two g)) in
      let v = common_divides (numbers_of (beyond Two g)) in
      lowest_apart f k over (subst (λ (n : ℕ). k ∣ n) (abs_neg g.a) v.1.1.1.1.0) (subst (λ (n : ℕ). k ∣ n) (abs_neg g.b) v.1.1.1.1.1.0) v.1.1.0

  kept : (axis : Axis) → reduced_half (beyond axis g) ≡ beyond axis g
  unfolding reduced_half
  kept axis = ap (divided_half (beyond axis g)) (alone axis) ∙ once (beyond axis g)

  from_parts : are_within (whole g.d) ≡ true → are_within (opposite (top g)) ≡ true → is_within g ≡ true
  unfolding opposite
  from_parts e h =
      let v = and_parts (nat_le (unsigned_abs g.d) half_limit) (nat_le (unsigned_abs (pos 0)) half_limit) e in
      let w = and_parts (nat_le (unsigned_abs (neg_ℤ g.a)) half_limit) (nat_le (unsigned_abs (neg_ℤ g.b)) half_limit) h in
      let a = below_limit (unsigned_abs g.a) (subst (λ (n : ℕ). nat_le n half_limit ≡ true) (abs_neg g.a) w.0) in
      let b = below_limit (unsigned_abs g.b) (subst (λ (n : ℕ). nat_le n half_limit ≡ true) (abs_neg g.b) w.1) in
      let d = below_limit (unsigned_abs g.d) v.0 in
      rw (a, b, d) refl

  inside : (axis : Axis) → is_small_half (beyond axis g) ≡ true → is_within g ≡ true
  inside One e =
      let t = and_parts (are_within (whole g.d) && are_within (whole (pos 0))) (are_within (opposite (top g))) e in
      from_parts (and_parts (are_within (whole g.d)) (are_within (whole (pos 0))) t.0).0 t.1
  inside Two e =
      let t = and_parts (are_within (whole (pos 0)) && are_within (whole g.d)) (are_within (opposite (top g))) e in
      from_parts (and_parts (are_within (whole (pos 0))) (are_within (whole g.d)) t.0).1 t.1

  contrary : (b c : Bool) → (b ≡ true → c ≡ true) → c ≡ false → b ≡ false
  contrary false c h e = refl
  contrary true c h e = let t : true ≡ false = sym (h refl) ∙ e in absurd cc

  -- where the number is out of limit, so is the half-plane
  pub end_out : (axis : Axis) → is_within g ≡ false → is_small_half (reduced_half (beyond axis g)) ≡ false
  end_out axis e = contrary (is_small_half (reduced_half (beyond axis g))) (is_within g) (λ h. inside axis (ap is_small_half (sym (kept axis)) ∙ h)) e

-- ---- the same number with the other sign

same_limits : (f g : Fraction) → unsigned_abs f.a ≡ unsigned_abs g.a → unsigned_abs f.b ≡ unsigned_abs g.b → unsigned_abs f.d ≡ unsigned_abs g.d
    → is_within (lowest f) ≡ is_within (lowest g)
unfolding lowest
same_limits f g ea eb ed =
    let k : common f ≡ common g = rw (ea, eb, ed) refl in
    let q = λ (x y : ℤ) (e : unsigned_abs x ≡ unsigned_abs y). abs_quotient x (common f) ∙ (ap (λ (n : ℕ). n / common f) e ∙ (ap (λ (n : ℕ). unsigned_abs y / n) k ∙ sym (abs_quotient y (common g)))) in
    let a = q f.a g.a ea in
    let b = q f.b g.b eb in
    let d = q f.d g.d ed in
    rw (a, b, d) refl

turned_top : (l m : Fraction) → top (difference m l) ≡ opposite (top (difference l m))
unfolding sum negative
turned_top l m = solve golden (top l ∷ top m ∷ whole l.d ∷ whole m.d ∷ []) ((x_ 1 ⊗ x_ 2) ⊕ (⊖_ (x_ 0) ⊗ x_ 3)) (⊖_ ((x_ 0 ⊗ x_ 3) ⊕ (⊖_ (x_ 1) ⊗ x_ 2))) refl

turned_limits : (l m : Fraction) → is_within (lowest (difference m l)) ≡ is_within (lowest (difference l m))
unfolding opposite sum negative
turned_limits l m =
    let t = turned_top l m in
    same_limits (difference m l) (difference l m) (ap (λ (w : Whole). unsigned_abs w.a) t ∙ abs_neg (difference l m).a) (ap (λ (w : Whole). unsigned_abs w.b) t ∙ abs_neg (difference l m).b)
    (ap unsigned_abs (solve integers (l.d ∷ m.d ∷ []) (x_ 1 ⊗ x_ 0) (x_ 0 ⊗ x_ 1) refl))

-- ---- zones and edges

last_out : (a b c d : Bool) → c ≡ false → ((a && b) && (c && d)) ≡ false
last_out true true c d e = rw e refl
last_out true false c d e = refl
last_out false b c d e = refl

pub rest_out : (axis : Axis) (r : Rotation) → pos 0 <ℤ (length_of axis r).d → pos 0 <ℤ (move_of axis r).d → is_within (rest axis r) ≡ false → zones_fit axis r ≡ false
rest_out axis r hl hm e =
    last_out (list_all is_small_half (box r)) (list_all is_small_half (turn_zone axis r false)) (is_small_half (reduced_half (beyond axis (rest axis r))))
    (list_all is_small_half (reduced_half (beneath axis (length_of axis r)) ∷ []))
    (end_out (difference (length_of axis r) (move_of axis r)) (difference_above (length_of axis r) (move_of axis r) hl hm) axis e)

pub back_out : (axis : Axis) (r : Rotation) → pos 0 <ℤ (length_of axis r).d → pos 0 <ℤ (move_of axis r).d → is_within (turn_move axis r true) ≡ false → zones_fit axis r ≡ false
back_out axis r hl hm e = rest_out axis r hl hm (sym (turned_limits (length_of axis r) (move_of axis r)) ∙ e)

-- the size of a window for a move of less than half of the length
pub size_is : (axis : Axis) (r : Rotation) → is_below (top (twice (move_of axis r))) (twice (move_of axis r)).d (length_of axis r) ≡ true
    → (frame_on axis r).size ≡ rest axis r
size_is axis r e = rw e refl

middle_out : (a b c : Bool) → b ≡ false → ((a && b) && c) ≡ false
middle_out true b c e = rw e refl
middle_out false b c e = refl

pub size_out : (axis : Axis) (r : Rotation) → pos 0 <ℤ (length_of axis r).d → pos 0 <ℤ (move_of axis r).d
    → is_below (top (twice (move_of axis r))) (twice (move_of axis r)).d (length_of axis r) ≡ true → is_within (rest axis r) ≡ false → edges_fit axis r ≡ false
size_out axis r hl hm below e =
    middle_out (list_all is_small_half (box r)) (is_small_half (reduced_half (beyond axis (frame_on axis r).size))) (is_small_half (reduced_half (beneath axis (frame_on axis r).size)))
    (ap (λ (f : Fraction). is_small_half (reduced_half (beyond axis f))) (size_is axis r below)
    ∙ end_out (difference (length_of axis r) (move_of axis r)) (difference_above (length_of axis r) (move_of axis r) hl hm) axis e)
