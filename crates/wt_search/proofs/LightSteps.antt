-- The light step of a good step is good.
use Rattle.std.proofs.Common.{arith, ◌≡◌, ℕ, zero, suc, ◌+◌, ◌-◌, ◌<◌, ◌≤◌, Bool, true, false, ◌||◌, not, nat_eq, List, length, Option, None, is_some, refl, sym, ◌∙◌, ap, inl, inr}
use Rattle.std.specs.List.{list_any}
use Rattle.std.proofs.lemmas.Bool.{and_parts, cases_lt, false_from_ne_true}
use Rattle.wt_grid.specs.declared.axis.Axis.{Axis}
use Rattle.wt_grid.specs.declared.axis.Axis.TheVariants.{One, Two}
use Rattle.wt_grid.specs.declared.axis.Side.{Side}
use Rattle.wt_grid.specs.declared.axis.Side.TheVariants.{After, Before}
use Rattle.wt_grid.specs.declared.image.Image.{Image}
use Rattle.wt_grid.specs.declared.image.Image.TheVariants.{One as Single, Two as Double}
use Rattle.wt_grid.specs.First.{count_from}
use Rattle.wt_grid.specs.Pairs.{is_this_pair}
use Rattle.wt_grid.proofs.Order.{has_found}
use Rattle.wt_tile.specs.Matching.{matches}
use Rattle.wt_refute.specs.declared.tree.Refuted.{Refuted}
use Rattle.wt_refute.specs.Entries.{is_entry}
use Rattle.wt_step.specs.declared.raw.RawStep.{RawStep}
use Rattle.wt_step.specs.Words.{allowed, allows, is_barred, entry_at, times, image_at, images_match}
use Rattle.wt_step.specs.Faults.{allowed_fit, is_named_well, is_marked_well, is_good_image, is_demanded, step_fault}
use Rattle.wt_step.specs.Good.{IsGoodStep}
use Rattle.wt_step.proofs.Goodness.{good_step, no_fault}
use Rattle.wt_window.specs.Surrounded.{surroundable}
use Rattle.wt_marker.proofs.Listed.{each_get}
use Rattle.wt_search.specs.Light.{has_refutation, with_entries, light_entries, light_step}
use Rattle.wt_search.proofs.Refuting.{least, refuted_barred, barred_refuted, refuted_empty}
use Rattle.wt_search.proofs.LightEntries.{IsRightWith, surrounds_none, entries_fit, named, names, all_right}

-- Counts.

count_zero : {A : Type 0} (f : ℕ → Option A) (i n : ℕ) → ((k : ℕ) → i ≤ k → k < i + n → is_some (f k) ≡ false) → count_from f i n ≡ 0
count_zero f i zero h = refl
count_zero f i (suc n) h =
    let none : is_some (f i) ≡ false = h i (omega arith) (omega arith) in
    let rest = count_zero f (i + 1) n (λ k lo hi. h k (omega arith) (omega arith)) in
    rw none (omega (arith, rest))

count_one : {A : Type 0} (f : ℕ → Option A) (i n p : ℕ) → i ≤ p → p < i + n → is_some (f p) ≡ true → ((k : ℕ) → i ≤ k → k < i + n → (k ≡ p → ⊥) → is_some (f k) ≡ false) → count_from f i n ≡ 1
count_one f i zero p lo hi e h = absurd (omega arith)
count_one f i (suc n) p lo hi e h = elim (cases_lt i p) [
  | inl lt ↦
      let none : is_some (f i) ≡ false = h i (omega arith) (omega arith) (λ same. omega (arith, same, lt)) in
      let rest = count_one f (i + 1) n p (omega arith) (omega arith) e (λ k lo' hi' other. h k (omega arith) (omega arith) other) in
      rw none (omega (arith, rest))
  | inr le ↦
      let same : p ≡ i = omega arith in
      let here : is_some (f i) ≡ true = ap (λ k. is_some (f k)) (sym same) ∙ e in
      let rest = count_zero f (i + 1) n (λ k lo' hi'. h k (omega arith) (omega arith) (λ other. omega (arith, same, other, lo'))) in
      rw here (omega (arith, rest))
]

-- What doesn't speak of refutations stays.
module _ (s : RawStep) (es : List Refuted) where
  allowed_same : (axis : Axis) → allowed (with_entries s es) axis ≡ allowed s axis
  allowed_same One = refl
  allowed_same Two = refl

  allows_same : (axis : Axis) (a b : ℕ) → allows (with_entries s es) axis a b ≡ allows s axis a b
  allows_same axis a b = ap (list_any (is_this_pair a b)) (allowed_same axis)

  pub barred_same : (axis : Axis) (a b : ℕ) → is_barred (with_entries s es) axis a b ≡ is_barred s axis a b
  barred_same axis a b = rw (allows_same axis a b) refl

  fit_same : (axis : Axis) → allowed_fit s axis ≡ true → allowed_fit (with_entries s es) axis ≡ true
  fit_same One e = e
  fit_same Two e = e

  marked_same : (axis : Axis) (a b : ℕ) → is_marked_well (with_entries s es) axis a b ≡ is_marked_well s axis a b
  marked_same axis a b = refl

  image_same : (x : Image) → is_good_image (with_entries s es) x ≡ is_good_image s x
  image_same (Single a) = refl
  image_same (Double a b) = rw (allows_same s.axis a b) refl

  demanded_same : (u : ℕ) → is_demanded (with_entries s es) u ≡ is_demanded s u
  demanded_same u = go s.axis s.side refl refl
    where
      go : (x : Axis) (y : Side) → s.axis ≡ x → s.side ≡ y → is_demanded (with_entries s es) u ≡ is_demanded s u
      go One After p q = rw (p, q) refl
      go One Before p q = rw (p, q) refl
      go Two After p q = rw (p, q) refl
      go Two Before p q = rw (p, q) refl

  match_same : (axis : Axis) (x y : Image) → images_match (with_entries s es) axis x y ≡ images_match s axis x y
  match_same axis x y = refl

-- The refutations name the barred pairs once, and no others.
module _ (s : RawStep) (g : IsGoodStep s) where
  unnamed : (axis : Axis) (a b k : ℕ) → a < length s.fine.tiles → b < length s.fine.tiles → is_barred s axis a b ≡ false → is_some (entry_at (light_step s) axis a b k) ≡ false
  unnamed axis a b k la lb no_bar = false_from_ne_true (is_some (entry_at (light_step s) axis a b k)) (λ e.
      let found : list_any (is_entry k axis a b) (light_entries s s.radius) ≡ true = has_found (is_entry k axis a b) (light_entries s s.radius) ∙ e in
      let n = named s s.radius k axis a b found in
      let bar = refuted_barred s g axis a b la lb n.1 in
      let y : true ≡ false = sym bar ∙ no_bar in cc)

  elsewhere : (axis : Axis) (a b k r : ℕ) → surroundable s.fine.tiles axis (suc r) a b ≡ false → ((j : ℕ) → 1 ≤ j → j ≤ r → surroundable s.fine.tiles axis j a b ≡ true)
      → (k ≡ suc r → ⊥) → is_some (entry_at (light_step s) axis a b k) ≡ false
  elsewhere axis a b k r none w other = false_from_ne_true (is_some (entry_at (light_step s) axis a b k)) (λ e.
      let found : list_any (is_entry k axis a b) (light_entries s s.radius) ≡ true = has_found (is_entry k axis a b) (light_entries s s.radius) ∙ e in
      let n = named s s.radius k axis a b found in
      elim (cases_lt k (suc r)) [
        | inl lt ↦ let t = w k n.0 (omega arith) in let y : true ≡ false = sym t ∙ n.2 in cc
        | inr le ↦ let more : suc r < k = apart k (suc r) le other in let t = n.3 (suc r) (omega arith) more in let y : true ≡ false = sym t ∙ none in cc
      ])
    where
      apart : (k m : ℕ) → m ≤ k → (k ≡ m → ⊥) → m < k
      apart k m le other = elim (cases_lt m k) [
        | inl lt ↦ lt
        | inr ge ↦ absurd (other (omega arith))
      ]

  named_at : (axis : Axis) (a b r : ℕ) → a < length s.fine.tiles → b < length s.fine.tiles → has_refutation s axis a b ≡ true → suc r ≤ s.radius
      → surroundable s.fine.tiles axis (suc r) a b ≡ false → ((j : ℕ) → 1 ≤ j → j ≤ r → surroundable s.fine.tiles axis j a b ≡ true) → times (light_step s) axis a b ≡ 1
  named_at axis a b r la lb e le empty w =
      let found = names s s.radius r axis a b la lb e le empty w in
      let some : is_some (entry_at (light_step s) axis a b (suc r)) ≡ true = sym (has_found (is_entry (suc r) axis a b) (light_entries s s.radius)) ∙ found in
      count_one (entry_at (light_step s) axis a b) 0 (s.radius + 1) (suc r) (omega arith) (omega arith) some (λ j jlo jhi other. elsewhere axis a b j r empty w other)

  named_once : (axis : Axis) (a b : ℕ) → a < length s.fine.tiles → b < length s.fine.tiles → is_barred s axis a b ≡ true → times (light_step s) axis a b ≡ 1
  named_once axis a b la lb bar =
      let e = barred_refuted s g axis a b la lb bar in
      let m = refuted_empty s g axis a b e in
      let h = m.1 in
      let lo = h.some in
      let hi = h.most in
      let none : not (surroundable s.fine.tiles axis m.0 a b) ≡ true = rw (surrounds_none s.fine.tiles axis a b m.0 h.empty) refl in
      let z : 1 + (m.0 - 1) ≡ m.0 = omega arith in
      let k = least (λ j. not (surroundable s.fine.tiles axis j a b)) 1 (m.0 - 1) (ap (λ j. not (surroundable s.fine.tiles axis j a b)) z ∙ none) in
      let klo = k.1 in
      let khi = k.2 in
      let r = before k.0 klo in
      let is = r.1 in
      named_at axis a b r.0 la lb e (omega (arith, is, khi, z, hi))
      (ap (λ j. surroundable s.fine.tiles axis j a b) is ∙ said (surroundable s.fine.tiles axis k.0 a b) k.3)
      (λ j jlo jhi. unsaid (surroundable s.fine.tiles axis j a b) (k.4 j jlo (omega (arith, is, jhi))))
    where
      before : (k : ℕ) → 1 ≤ k → (r : ℕ) × (suc r ≡ k)
      before zero lo = absurd (omega arith)
      before (suc r) lo = (r, refl)

      said : (t : Bool) → not t ≡ true → t ≡ false
      said true h = absurd cc
      said false h = refl

      unsaid : (t : Bool) → not t ≡ false → t ≡ true
      unsaid true h = refl
      unsaid false h = absurd cc

  named_well : (axis : Axis) (a b : ℕ) → a < length s.fine.tiles → b < length s.fine.tiles → is_named_well (light_step s) axis a b ≡ true
  named_well axis a b la lb = go (is_barred s axis a b) refl
    where
      go : (t : Bool) → is_barred s axis a b ≡ t → is_named_well (light_step s) axis a b ≡ true
      go true t =
          let bar : is_barred (light_step s) axis a b ≡ true = barred_same s (light_entries s s.radius) axis a b ∙ t in
          rw (bar, named_once axis a b la lb t) refl
      go false t =
          let bar : is_barred (light_step s) axis a b ≡ false = barred_same s (light_entries s s.radius) axis a b ∙ t in
          let zero' : times (light_step s) axis a b ≡ 0 = count_zero (entry_at (light_step s) axis a b) 0 (s.radius + 1) (λ k lo hi. unnamed axis a b k la lb t) in
          let w = rw t at (g.named axis a b la lb) in
          let m = (and_parts (matches s.fine.tiles axis a b || not (allows s axis a b)) (nat_eq (times s axis a b) 0) w).0 in
          rw (bar, zero', allows_same s (light_entries s s.radius) axis a b, m) refl

  pub light_good : IsGoodStep (light_step s)
  light_good =
      let es = light_entries s s.radius in
      record {
        radius = g.radius;
        fine = g.fine;
        coarse = g.coarse;
        marker_list = g.marker_list;
        allowed_lists = λ axis. fit_same s es axis (g.allowed_lists axis);
        refuted_list = entries_fit s s.radius;
        image_list = g.image_list;
        named = named_well;
        trees = λ i r e. each_get (IsRightWith s es) es i r (all_right s g s.radius) e;
        marked = λ axis a b e. marked_same s es axis a b ∙ g.marked axis a b (sym (allows_same s es axis a b) ∙ e);
        images = λ i lt. image_same s es (image_at s i) ∙ g.images i lt;
        distinct = g.distinct;
        has_tiles = λ u lt e. g.has_tiles u lt (sym (demanded_same s es u) ∙ e);
        has_pairs = λ a b e f. g.has_pairs a b (sym (allows_same s es s.axis a b) ∙ e) f;
        joins = λ axis i j li lj. g.joins axis i j li lj ∙ sym (match_same s es axis (image_at s i) (image_at s j));
      }

-- a step without a fault has a light one without a fault
pub light_step_good : (s : RawStep) → step_fault s ≡ None → step_fault (light_step s) ≡ None
light_step_good s e = no_fault (light_step s) (light_good s (good_step s e))
