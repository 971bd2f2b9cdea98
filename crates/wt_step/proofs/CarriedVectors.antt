-- What the number of blocks makes of a period.
use Rattle.std.proofs.Common.{arith, ◌≡◌, ◌≤◌, ◌+◌, ◌-◌, ℕ, zero, suc, ℤ, pos, negsuc, ◌↔◌, None, true, ◌&&◌, not, nat_le, refl, sym, ◌∙◌, ap, subst}
use Rattle.std.proofs.lemmas.Bool.{and_parts}
use Rattle.wt_grid.specs.declared.axis.Axis.TheVariants.{One, Two}
use Rattle.wt_grid.specs.declared.axis.Axis.{Axis}
use Rattle.std.proofs.lemmas.Int.{ints}
use Rattle.std.proofs.lemmas.Bool.Decides.{nat_tests}
use Rattle.wt_pattern.specs.Patterns.{IsPattern}
use Rattle.wt_pattern.specs.Periods.{IsPeriod, IsPeriodAlong}
use Rattle.wt_pattern.proofs.PeriodLaws.{turned_period, turned_back}
use Rattle.wt_grid.specs.Grid.{Grid, IsGrid, along, across, listed, lines}
use Rattle.wt_grid.specs.Parts.{core}
use Rattle.wt_grid.proofs.Grids.{length_lines}
use Rattle.wt_step.specs.declared.raw.RawStep.{RawStep}
use Rattle.wt_step.specs.declared.raw.RawLink.{RawLink}
use Rattle.wt_step.specs.declared.raw.RawLink.TheVariants.{Marker, Restrict}
use Rattle.wt_step.specs.declared.link.LinkRef.{LinkRef}
use Rattle.wt_step.specs.declared.link.LinkRef.TheVariants as borrowed
use Rattle.wt_step.specs.Links.{link_fault, fine_of}
use Rattle.wt_step.specs.Views.{link_of}
use Rattle.wt_step.specs.Coarse.{IsDesubstitution}
use Rattle.wt_step.specs.Good.{IsGoodStep}
use Rattle.wt_step.specs.Meaning.{pieces, IsMarkerDesubstitution}
use Rattle.wt_step.specs.Blocks.{core_at, pairs_at, one_if, ends_at}
use Rattle.wt_step.specs.Carried.{lines_below, IsCarried, IsCount, IsCounted, IsCountedAlong, IsCountedBy, has_room_along, has_room, magnitude, with_sign, blocks_begun, in_blocks, vector_along, carried_vector}
use Rattle.wt_step.proofs.Parsed.{the_reads}
use Rattle.wt_step.proofs.PeriodLaw.{carried}
use Rattle.wt_step.proofs.BlockCounts.{begun}
use Rattle.wt_step.proofs.SignedPeriods.{are_opposed, to_vector, from_vector, magnitude_of}
use Rattle.wt_step.proofs.Goodness.{good_step}
use Rattle.wt_step.proofs.Restricted.{good_restrict}
use Rattle.wt_step.proofs.Desubstitution.{some_coarse}
use Rattle.wt_step.proofs.KeptPeriods.{kept_period}

module _ (s : RawStep) (g : IsGoodStep s) (p : Grid) (v : IsPattern s.fine.tiles p) (la : 3 ≤ along s.axis (core s.radius p)) (lc : 1 ≤ across s.axis (core s.radius p)) where
  -- the blocks that begin in the lines below the first m coarse lines are m
  count_below : (q : Grid) → IsMarkerDesubstitution s p q → (m : ℕ) → m ≤ along s.axis q → blocks_begun s p (lines_below s q m) ≡ m
  count_below q i m le =
      let wide : ℕ = across s.axis (core s.radius p) - 1 in
      let n = length_lines s.axis q in
      begun (pieces s) (λ i. core_at s p i 0) (λ i. listed wide (λ j. core_at s p i (suc j))) (pairs_at s p)
      (along s.axis (core s.radius p) - (one_if (ends_at s p 0) + one_if (not (ends_at s p (along s.axis (core s.radius p) - 1))))) (one_if (ends_at s p 0)) (lines s.axis q)
      (the_reads s g p v la wide (omega arith) (lines s.axis q) i) m (omega arith)

  only_count : (q : Grid) → IsMarkerDesubstitution s p q → (m d : ℕ) → m ≤ along s.axis q → lines_below s q m ≡ d → m ≡ blocks_begun s p d
  only_count q i m d le e = sym (count_below q i m le) ∙ ap (blocks_begun s p) e

module _ (s : RawStep) (g : IsGoodStep s) (p : Grid) (v : IsPattern s.fine.tiles p) (x y : ℤ)
    (la : magnitude x + 3 ≤ along s.axis (core s.radius p)) (lc : magnitude y + 1 ≤ across s.axis (core s.radius p)) (h : IsPeriodAlong s.axis p x y) where
  pub count_carried : (q : Grid) → IsGrid q → IsMarkerDesubstitution s p q → IsCarried s (are_opposed x y) (magnitude x) (magnitude y) (blocks_begun s p (magnitude x)) q
  count_carried q iq i =
      let k = carried s g p q v iq i (are_opposed x y) (magnitude x) (magnitude y) la (omega arith) (to_vector s.axis p x y h) in
      let few = k.1.few in
      let e : k.0 ≡ blocks_begun s p (magnitude x) = only_count s g p v (omega arith) (omega arith) q i k.0 (magnitude x) few (k.1.filled 0 (omega arith)) in
      subst (λ (n : ℕ). IsCarried s (are_opposed x y) (magnitude x) (magnitude y) n q) e k.1

  pub is_count : (q : Grid) → IsGrid q → IsMarkerDesubstitution s p q → IsCount s q (magnitude x) (blocks_begun s p (magnitude x))
  is_count q iq i =
      let k = count_carried q iq i in
      let few = k.few in
      record {
        inside = few;
        filled = k.filled 0 (omega arith);
        only = λ m le e. only_count s g p v (omega arith) (omega arith) q i m (magnitude x) le e;
      }

  pub carried_period : (q : Grid) → IsGrid q → IsMarkerDesubstitution s p q → IsPeriodAlong s.axis q (with_sign x (blocks_begun s p (magnitude x))) y
  carried_period q iq i = from_vector s.axis q x y (blocks_begun s p (magnitude x)) (count_carried q iq i).vector

-- ---- vectors of rectangles, read along an axis

-- the component along the axis, and the other one
abbrev pub part : Axis → ℤ → ℤ → ℤ
part One dx dy = dx
part Two dx dy = dy

abbrev pub rest : Axis → ℤ → ℤ → ℤ
rest One dx dy = dy
rest Two dx dy = dx

fits : (a b n m : ℕ) → (nat_le a n && nat_le b m) ≡ true → (a ≤ n) × (b ≤ m)
fits a b n m h = let t = and_parts (nat_le a n) (nat_le b m) h in (grind (arith, nat_tests, t.0), grind (arith, nat_tests, t.1))

pub room_along : (axis : Axis) (c : Grid) (dx dy : ℤ) → has_room_along axis c dx dy ≡ true → (magnitude (part axis dx dy) + 3 ≤ along axis c) × (magnitude (rest axis dx dy) + 1 ≤ across axis c)
room_along One c dx dy h = fits (magnitude dx + 3) (magnitude dy + 1) c.width c.height h
room_along Two c dx dy h = let t = fits (magnitude dx + 1) (magnitude dy + 3) c.width c.height h in (t.1, t.0)

period_along : (axis : Axis) (p : Grid) (dx dy : ℤ) → IsPeriod p dx dy → IsPeriodAlong axis p (part axis dx dy) (rest axis dx dy)
period_along One p dx dy h = h
period_along Two p dx dy h = turned_period p dx dy h

same_length : (n : ℕ) → n ≤ n
same_length n = omega arith

same_zero : (x : ℤ) → (x ≡ pos 0) ↔ (x ≡ pos 0)
same_zero x = (λ e. e, λ e. e)

zero_with_sign : (x : ℤ) (n : ℕ) → n ≤ magnitude x → magnitude x ≤ n + n → (with_sign x n ≡ pos 0) ↔ (x ≡ pos 0)
zero_with_sign (pos a) n few half = (
  λ e. (let z : n ≡ 0 = omega (arith, ints) in let w : a ≡ 0 = omega arith in ap pos w),
  λ e. (let w : a ≡ 0 = omega (arith, ints) in let z : n ≡ 0 = omega arith in ap pos z),
)
zero_with_sign (negsuc a) zero few half = absurd (omega arith)
zero_with_sign (negsuc a) (suc n) few half = (λ e. absurd (omega (arith, ints)), λ e. absurd (omega (arith, ints)))

module _ (s : RawStep) (p q : Grid) where
  counted : (x : ℤ) → IsCount s q (magnitude x) (blocks_begun s p (magnitude x)) → IsCounted s q x (in_blocks s p x)
  counted x h =
      let n = blocks_begun s p (magnitude x) in
      (ap (with_sign x) (sym (magnitude_of x n)), subst (λ (k : ℕ). IsCount s q (magnitude x) k) (sym (magnitude_of x n)) h)

  value_along : (axis : Axis) (dx dy : ℤ) → IsCount s q (magnitude (part axis dx dy)) (blocks_begun s p (magnitude (part axis dx dy))) → IsCountedAlong axis s q dx dy (vector_along axis s p dx dy)
  value_along One dx dy h = (counted dx h, refl)
  value_along Two dx dy h = (refl, counted dy h)

  same_period : (axis : Axis) (dx dy : ℤ) → IsPeriodAlong axis q (in_blocks s p (part axis dx dy)) (rest axis dx dy)
      → IsPeriod q (vector_along axis s p dx dy).0 (vector_along axis s p dx dy).1
  same_period One dx dy h = h
  same_period Two dx dy h = turned_back q dx (in_blocks s p dy) h

module _ (s : RawStep) (p : Grid) where
  shorter_part : (x : ℤ) → blocks_begun s p (magnitude x) ≤ magnitude x → magnitude (in_blocks s p x) ≤ magnitude x
  shorter_part x le = let e = magnitude_of x (blocks_begun s p (magnitude x)) in omega arith

  shorter_along : (axis : Axis) (dx dy : ℤ) → blocks_begun s p (magnitude (part axis dx dy)) ≤ magnitude (part axis dx dy)
      → (magnitude (vector_along axis s p dx dy).0 ≤ magnitude dx) × (magnitude (vector_along axis s p dx dy).1 ≤ magnitude dy)
  shorter_along One dx dy h = (shorter_part dx h, same_length (magnitude dy))
  shorter_along Two dx dy h = (same_length (magnitude dx), shorter_part dy h)

  zero_along : (axis : Axis) (dx dy : ℤ) → (in_blocks s p (part axis dx dy) ≡ pos 0) ↔ (part axis dx dy ≡ pos 0)
      → (((vector_along axis s p dx dy).0 ≡ pos 0) ↔ (dx ≡ pos 0)) × (((vector_along axis s p dx dy).1 ≡ pos 0) ↔ (dy ≡ pos 0))
  zero_along One dx dy h = (h, same_zero dy)
  zero_along Two dx dy h = (same_zero dx, h)

module _ (s : RawStep) (g : IsGoodStep s) (p : Grid) (v : IsPattern s.fine.tiles p) (dx dy : ℤ) (h : IsPeriod p dx dy) (room : has_room_along s.axis (core s.radius p) dx dy ≡ true) where
  marker_value : (q : Grid) → IsGrid q → IsMarkerDesubstitution s p q → IsCountedAlong s.axis s q dx dy (vector_along s.axis s p dx dy)
  marker_value q iq i =
      let r = room_along s.axis (core s.radius p) dx dy room in
      value_along s p q s.axis dx dy (is_count s g p v (part s.axis dx dy) (rest s.axis dx dy) r.0 r.1 (period_along s.axis p dx dy h) q iq i)

  marker_period : (q : Grid) → IsGrid q → IsMarkerDesubstitution s p q → IsPeriod q (vector_along s.axis s p dx dy).0 (vector_along s.axis s p dx dy).1
  marker_period q iq i =
      let r = room_along s.axis (core s.radius p) dx dy room in
      same_period s p q s.axis dx dy (carried_period s g p v (part s.axis dx dy) (rest s.axis dx dy) r.0 r.1 (period_along s.axis p dx dy h) q iq i)

  -- what it is on the coarse pattern of the law
  some_carried : (q : Grid) × IsCarried s (are_opposed (part s.axis dx dy) (rest s.axis dx dy)) (magnitude (part s.axis dx dy)) (magnitude (rest s.axis dx dy)) (blocks_begun s p (magnitude (part s.axis dx dy))) q
  some_carried =
      let r = room_along s.axis (core s.radius p) dx dy room in
      let lx = r.0 in let ly = r.1 in
      let q = some_coarse s g p v (omega arith) (omega arith) in
      (q.0, count_carried s g p v (part s.axis dx dy) (rest s.axis dx dy) r.0 r.1 (period_along s.axis p dx dy h) q.0 q.2.0 q.1)

  marker_shorter : (magnitude (vector_along s.axis s p dx dy).0 ≤ magnitude dx) × (magnitude (vector_along s.axis s p dx dy).1 ≤ magnitude dy)
  marker_shorter = shorter_along s p s.axis dx dy some_carried.1.shorter

  marker_zero : (((vector_along s.axis s p dx dy).0 ≡ pos 0) ↔ (dx ≡ pos 0)) × (((vector_along s.axis s p dx dy).1 ≡ pos 0) ↔ (dy ≡ pos 0))
  marker_zero = zero_along s p s.axis dx dy (zero_with_sign (part s.axis dx dy) (blocks_begun s p (magnitude (part s.axis dx dy))) some_carried.1.shorter some_carried.1.half)

-- ---- steps of either kind

pub is_good : (link : LinkRef) → link_fault (link_of link) ≡ None
unfolding link_fault
is_good (borrowed.Marker s) = s.good
is_good (borrowed.Restrict s) = s.good

module _ (p : Grid) (dx dy : ℤ) (h : IsPeriod p dx dy) where
  pub value : (l : RawLink) → link_fault l ≡ None → IsPattern (fine_of l).tiles p → has_room l p dx dy ≡ true → (q : Grid) → IsGrid q → IsDesubstitution l p q → IsCountedBy l q dx dy (carried_vector l p dx dy)
  unfolding link_fault
  value (Marker s) e v room q iq i = marker_value s (good_step s e) p v dx dy h room q iq i
  value (Restrict s) e v room q iq i = refl

  pub period : (l : RawLink) → link_fault l ≡ None → IsPattern (fine_of l).tiles p → has_room l p dx dy ≡ true → (q : Grid) → IsGrid q → IsDesubstitution l p q
      → IsPeriod q (carried_vector l p dx dy).0 (carried_vector l p dx dy).1
  unfolding link_fault
  period (Marker s) e v room q iq i = marker_period s (good_step s e) p v dx dy h room q iq i
  period (Restrict s) e v room q iq i = let high = (fits (magnitude dx + 1) (magnitude dy + 1) (core s.radius p).width (core s.radius p).height room).1 in kept_period s (good_restrict s e) p q iq i (omega arith) dx dy h

  pub shorter : (l : RawLink) → link_fault l ≡ None → IsPattern (fine_of l).tiles p → has_room l p dx dy ≡ true
      → (magnitude (carried_vector l p dx dy).0 ≤ magnitude dx) × (magnitude (carried_vector l p dx dy).1 ≤ magnitude dy)
  unfolding link_fault
  shorter (Marker s) e v room = marker_shorter s (good_step s e) p v dx dy h room
  shorter (Restrict s) e v room = (same_length (magnitude dx), same_length (magnitude dy))

  pub zeros : (l : RawLink) → link_fault l ≡ None → IsPattern (fine_of l).tiles p → has_room l p dx dy ≡ true
      → (((carried_vector l p dx dy).0 ≡ pos 0) ↔ (dx ≡ pos 0)) × (((carried_vector l p dx dy).1 ≡ pos 0) ↔ (dy ≡ pos 0))
  unfolding link_fault
  zeros (Marker s) e v room = marker_zero s (good_step s e) p v dx dy h room
  zeros (Restrict s) e v room = (same_zero dx, same_zero dy)
