-- A pattern with a period has a coarse pattern with one, for steps of either kind.
use Rattle.std.proofs.Common.{arith, ◌≡◌, ◌≤◌, ◌<◌, ◌+◌, ◌*◌, ℕ, List, [], ◌∷◌, length, None, Bool, true, false, cond, refl, sym, ap, subst}
use Rattle.wt_grid.specs.Axes.{same_axis, other}
use Rattle.wt_grid.specs.declared.image.Image.{Image}
use Rattle.wt_grid.specs.declared.axis.Axis.TheVariants.{One, Two}
use Rattle.wt_grid.specs.declared.axis.Axis.{Axis}
use Rattle.std.proofs.lemmas.List.{append-nil}
use Rattle.wt_pattern.specs.Patterns.{IsPattern}
use Rattle.wt_grid.specs.Lines.{AllLong}
use Rattle.wt_grid.specs.Grid.{Grid, IsGrid, along, across, lines}
use Rattle.wt_grid.specs.Parts.{core}
use Rattle.wt_grid.specs.Shifts.{HasVector}
use Rattle.wt_grid.specs.Widths.{Stage}
use Rattle.wt_grid.specs.Traces.{IsStageOf, IsTraced}
use Rattle.wt_grid.proofs.Parts.{along_core, across_core}
use Rattle.wt_grid.proofs.Grids.{long_lines, length_lines, long_coarse}
use Rattle.wt_grid.proofs.Law.{cut_long, cut_length}
use Rattle.wt_grid.proofs.ImageGrids.{image_count}
use Rattle.wt_grid.proofs.CarriedSides.{image_found}
use Rattle.wt_grid.proofs.CarriedGrids.{core_repeated}
use Rattle.wt_grid.proofs.Traces.{StandsIn, cut_in}
use Rattle.wt_grid.proofs.TraceSteps.{same_across, traced_along, traced_across}
use Rattle.wt_grid.proofs.Vectors.{other_vector}
use Rattle.wt_grid.proofs.SingleImages.{cells_stand, stand_other, stand_image}
use Rattle.wt_step.specs.declared.raw.RawStep.{RawStep}
use Rattle.wt_step.specs.declared.raw.RawRestrict.{RawRestrict}
use Rattle.wt_step.specs.declared.raw.RawLink.{RawLink}
use Rattle.wt_step.specs.declared.raw.RawLink.TheVariants.{Marker, Restrict}
use Rattle.wt_step.specs.Words.{is_marker}
use Rattle.wt_step.specs.Good.{IsGoodStep, IsGoodRestrict}
use Rattle.wt_step.specs.Links.{link_fault, fine_of}
use Rattle.wt_step.specs.Meaning.{pieces, kept_pieces, cut_core, IsMarkerDesubstitution}
use Rattle.wt_step.proofs.Goodness.{good_step}
use Rattle.wt_step.proofs.Restricted.{good_restrict, some_kept}
use Rattle.wt_step.proofs.Desubstitution.{some_coarse}
use Rattle.wt_scale.specs.Scales.{HasCoarsePeriod, side_below}
use Rattle.wt_step.proofs.PeriodLaw.{carried}
use Rattle.wt_step.proofs.KeptPeriods.{no_pairs, kept_vector}

-- what a marker step along axis x does to a period of d lines along it and e cells across
record Along (x : Axis) (im : List Image) (p q : Grid) (side : ℕ) (opposed : Bool) (d e : ℕ) : Type 0 where
  count : ℕ
  vector : HasVector x opposed count e q
  shorter : count ≤ d
  half : d ≤ count + count
  long : side ≤ along x q
  wide : side ≤ across x q
  run_along : (s : Stage) (ss : List Stage) (n : ℕ) → IsStageOf true im s → IsTraced x ss n p d → IsTraced x (s ∷ ss) n q count
  run_across : (s : Stage) (ss : List Stage) (n : ℕ) → IsStageOf false im s → IsTraced (other x) ss n p e → IsTraced (other x) (s ∷ ss) n q e

module _ (s : RawStep) (g : IsGoodStep s) where
  lower_along : (p q : Grid) (side : ℕ) (opposed : Bool) (d e : ℕ) → IsPattern s.fine.tiles p → IsGrid q → IsMarkerDesubstitution s p q
      → 2 * side + 2 * s.radius + 2 ≤ along s.axis p → 2 * side + 2 * s.radius + 2 ≤ across s.axis p → d + 2 ≤ side → e + 2 ≤ side
      → HasVector s.axis opposed d e p → Along s.axis (pieces s) p q side opposed d e
  lower_along p q side opposed d e v iq i la lc ld le h =
      let a = s.axis in
      let r = s.radius in
      let c = core r p in
      let ac = along_core a r p in
      let xc = across_core a r p in
      let L = cut_core s p in
      let lw : d + 3 ≤ along a c = omega arith in
      let lx : e < across a c = omega arith in
      let k = carried s g p q v iq i opposed d e lw lx h in
      let wide : 1 ≤ across a c = omega arith in
      let long : AllLong (across a c) L = cut_long s.side (across a c) (is_marker s) (lines a c) (long_lines a c) in
      let stands : StandsIn L (lines a c) = cut_in s.side (is_marker s) (lines a c) in
      let same = same_across a (pieces s) p q r L iq wide stands i long in
      let lq = long_coarse (pieces s) (across a c) (lines a q) L i long in
      let found = image_found (pieces s) (across a c) (lines a q) L wide lq i in
      let count = image_count (pieces s) (lines a q) in
      let nl = cut_length s.side (is_marker s) (lines a c) in
      let nc = length_lines a c in
      let nq = length_lines a q in
      let el = ap length found.0 in
      record {
        count = k.0;
        vector = k.1.vector;
        shorter = k.1.shorter;
        half = k.1.half;
        long = omega (arith, count.1, nl, nc, nq, el, ac, la);
        wide = omega (arith, same, xc, lc);
        run_along = λ t ss n st tr. traced_along a (pieces s) p q r L iq wide stands i long t ss n d k.0 st k.1.filled tr;
        run_across = λ t ss n st tr. traced_across a (pieces s) p q r L iq wide stands i long t ss n e st tr;
      }

  -- the coarse pattern, where the step's axis is known
  marker_one : s.axis ≡ One → (p : Grid) (side : ℕ) (opposed : Bool) (dx dy : ℕ) → IsPattern s.fine.tiles p → side_below (Marker s) side ≤ p.width → side_below (Marker s) side ≤ p.height
      → dx + 2 ≤ side → dy + 2 ≤ side → HasVector One opposed dx dy p → HasCoarsePeriod (Marker s) p side opposed dx dy
  marker_one ax p side opposed dx dy v lw lh lx ly h =
      let x : s.axis ≡ One = ax in
      let a = s.axis in
      let P : Axis → Type 0 = λ y. HasVector y opposed dx dy p in
      let la : side_below (Marker s) side ≤ along a p = subst (λ (y : Axis). side_below (Marker s) side ≤ along y p) (sym x) lw in
      let lc : side_below (Marker s) side ≤ across a p = subst (λ (y : Axis). side_below (Marker s) side ≤ across y p) (sym x) lh in
      let ac = along_core a s.radius p in
      let xc = across_core a s.radius p in
      let q = some_coarse s g p v (omega arith) (omega arith) in
      let k = lower_along p q.0 side opposed dx dy v q.2.0 q.1 la lc lx ly (subst P (sym x) h) in
      record {
        coarse = q.0;
        image = q.1;
        pattern = q.2;
        wide = subst (λ (y : Axis). side ≤ along y q.0) x k.long;
        high = subst (λ (y : Axis). side ≤ across y q.0) x k.wide;
        right = k.count;
        up = dy;
        vector = subst (λ (y : Axis). HasVector y opposed k.count dy q.0) x k.vector;
        right_shorter = k.shorter;
        up_shorter = omega arith;
        right_half = k.half;
        up_half = omega arith;
        right_runs = λ t ss n st tr.
            subst (λ (y : Axis). IsTraced y (t ∷ ss) n q.0 k.count) x
            (k.run_along t ss n (subst (λ (y : Axis). IsStageOf (same_axis One y) (pieces s) t) x st) (subst (λ (y : Axis). IsTraced y ss n p dx) (sym x) tr));
        up_runs = λ t ss n st tr.
            subst (λ (y : Axis). IsTraced (other y) (t ∷ ss) n q.0 dy) x
            (k.run_across t ss n (subst (λ (y : Axis). IsStageOf (same_axis Two y) (pieces s) t) x st) (subst (λ (y : Axis). IsTraced (other y) ss n p dy) (sym x) tr));
      }

  marker_two : s.axis ≡ Two → (p : Grid) (side : ℕ) (opposed : Bool) (dx dy : ℕ) → IsPattern s.fine.tiles p → side_below (Marker s) side ≤ p.width → side_below (Marker s) side ≤ p.height
      → dx + 2 ≤ side → dy + 2 ≤ side → HasVector One opposed dx dy p → HasCoarsePeriod (Marker s) p side opposed dx dy
  marker_two ax p side opposed dx dy v lw lh lx ly h =
      let x : s.axis ≡ Two = ax in
      let a = s.axis in
      let P : Axis → Type 0 = λ y. HasVector y opposed dy dx p in
      let la : side_below (Marker s) side ≤ along a p = subst (λ (y : Axis). side_below (Marker s) side ≤ along y p) (sym x) lh in
      let lc : side_below (Marker s) side ≤ across a p = subst (λ (y : Axis). side_below (Marker s) side ≤ across y p) (sym x) lw in
      let ac = along_core a s.radius p in
      let xc = across_core a s.radius p in
      let q = some_coarse s g p v (omega arith) (omega arith) in
      let k = lower_along p q.0 side opposed dy dx v q.2.0 q.1 la lc ly lx (subst P (sym x) (other_vector One opposed dx dy p h)) in
      record {
        coarse = q.0;
        image = q.1;
        pattern = q.2;
        wide = subst (λ (y : Axis). side ≤ across y q.0) x k.wide;
        high = subst (λ (y : Axis). side ≤ along y q.0) x k.long;
        right = dx;
        up = k.count;
        vector = other_vector Two opposed k.count dx q.0 (subst (λ (y : Axis). HasVector y opposed k.count dx q.0) x k.vector);
        right_shorter = omega arith;
        up_shorter = k.shorter;
        right_half = omega arith;
        up_half = k.half;
        right_runs = λ t ss n st tr.
            subst (λ (y : Axis). IsTraced (other y) (t ∷ ss) n q.0 dx) x
            (k.run_across t ss n (subst (λ (y : Axis). IsStageOf (same_axis One y) (pieces s) t) x st) (subst (λ (y : Axis). IsTraced (other y) ss n p dx) (sym x) tr));
        up_runs = λ t ss n st tr.
            subst (λ (y : Axis). IsTraced y (t ∷ ss) n q.0 k.count) x
            (k.run_along t ss n (subst (λ (y : Axis). IsStageOf (same_axis Two y) (pieces s) t) x st) (subst (λ (y : Axis). IsTraced y ss n p dy) (sym x) tr));
      }

  marker_lowered : (ax : Axis) → s.axis ≡ ax → (p : Grid) (side : ℕ) (opposed : Bool) (dx dy : ℕ) → IsPattern s.fine.tiles p → side_below (Marker s) side ≤ p.width → side_below (Marker s) side ≤ p.height
      → dx + 2 ≤ side → dy + 2 ≤ side → HasVector One opposed dx dy p → HasCoarsePeriod (Marker s) p side opposed dx dy
  marker_lowered One ax = marker_one ax
  marker_lowered Two ax = marker_two ax

-- ---- restrict steps

module _ (s : RawRestrict) (g : IsGoodRestrict s) where
  whole_in : (ls : List (List ℕ)) → StandsIn ls ls
  whole_in ls = ([], [], sym (append-nil ls))

  restrict_lowered : (p : Grid) (side : ℕ) (opposed : Bool) (dx dy : ℕ) → IsPattern s.fine.tiles p → side_below (Restrict s) side ≤ p.width → side_below (Restrict s) side ≤ p.height
      → dx + 2 ≤ side → dy + 2 ≤ side → HasVector One opposed dx dy p → HasCoarsePeriod (Restrict s) p side opposed dx dy
  restrict_lowered p side opposed dx dy v lw lh lx ly h =
      let r = s.radius in
      let c = core r p in
      let q = some_kept s g p v (omega arith) (omega arith) in
      let st = cells_stand (kept_pieces s) One q.0 c (no_pairs s g) q.2.0 (omega arith) q.1 in
      let tw = stand_image (kept_pieces s) Two q.0 c (stand_other (kept_pieces s) One q.0 c st) in
      let w = st.0 in let t = st.1 in
      record {
        coarse = q.0;
        image = q.1;
        pattern = q.2;
        wide = omega arith;
        high = omega arith;
        right = dx;
        up = dy;
        vector = kept_vector s g c q.0 dx (cond opposed dy 0) (cond opposed 0 dy) st (core_repeated One r dx (cond opposed dy 0) (cond opposed 0 dy) p h);
        right_shorter = omega arith;
        up_shorter = omega arith;
        right_half = omega arith;
        up_half = omega arith;
        right_runs = λ t' ss n sg tr. traced_across Two (kept_pieces s) p q.0 r (lines Two c) q.2.0 (omega arith) (whole_in (lines Two c)) tw (long_lines Two c) t' ss n dx sg tr;
        up_runs = λ t' ss n sg tr. traced_across One (kept_pieces s) p q.0 r (lines One c) q.2.0 (omega arith) (whole_in (lines One c)) q.1 (long_lines One c) t' ss n dy sg tr;
      }

-- A pattern with a period, and a step of either kind.
pub lowered : (l : RawLink) → link_fault l ≡ None → (p : Grid) (side : ℕ) (opposed : Bool) (dx dy : ℕ) → IsPattern (fine_of l).tiles p → side_below l side ≤ p.width → side_below l side ≤ p.height
    → dx + 2 ≤ side → dy + 2 ≤ side → HasVector One opposed dx dy p → HasCoarsePeriod l p side opposed dx dy
unfolding link_fault
lowered (Marker s) e = marker_lowered s (good_step s e) s.axis refl
lowered (Restrict s) e = restrict_lowered s (good_restrict s e)
