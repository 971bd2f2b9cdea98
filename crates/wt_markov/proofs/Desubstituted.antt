-- The coarse pattern of a code.
use Rattle.std.proofs.Common.{arith, ◌≡◌, ◌⊎◌, ◌≤◌, nat_le, length, Bool, cond, None, Some, true, false, refl, sym, subst, ◌∙◌, inl, inr}
use Rattle.std.specs.Prelude.{Result, Ok, Err, IfOk, MatchResult}
use Rattle.std.proofs.lemmas.Bool.Decides.{nat_tests}
use Rattle.std.proofs.lemmas.Bool.{and_parts}
use Rattle.wt_plane.specs.HalfPlanes.{Spot, IsSpot}
use Rattle.wt_grid.specs.Grid.{Grid, along, across}
use Rattle.wt_grid.specs.Parts.{core}
use Rattle.wt_pattern.specs.Patterns.{IsPattern}
use Rattle.wt_grid.specs.declared.axis.Side.TheVariants.{After}
use Rattle.wt_torus.specs.declared.partition.Partition.{Partition}
use Rattle.wt_torus.specs.Codes.{IsCode}
use Rattle.wt_torus.specs.Sound.{IsSound}
use Rattle.wt_induce.specs.Law.{is_half}
use Rattle.wt_step.specs.declared.raw.RawStep.{RawStep}
use Rattle.wt_step.specs.declared.raw.RawLink.TheVariants.{Marker}
use Rattle.wt_step.specs.Faults.{step_fault}
use Rattle.wt_step.specs.Meaning.{IsMarkerDesubstitution}
use Rattle.wt_step.specs.Coarse.{has_margin, desub_fault}
use Rattle.wt_step.specs.declared.coarse.DesubFault.{DesubFault}
use Rattle.wt_step.specs.declared.coarse.DesubFault.TheVariants as desub
use Rattle.wt_pattern.specs.declared.fault.Fault.{Fault}
use Rattle.wt_pattern.specs.Validity.{first_stranger}
use Rattle.wt_pattern.proofs.FaultLaws.{no_stranger, no_fault}
use Rattle.wt_torus.proofs.Rotation.{flag}
use Rattle.wt_step.proofs.Goodness.{good_step}
use Rattle.wt_step.proofs.Desubstitution.{some_coarse}
use Rattle.wt_markov.specs.Markov.{Markov}
use Rattle.wt_markov.specs.Window.{MarkerWindow}
use Rattle.wt_markov.specs.Agree.{Agrees}
use Rattle.wt_markov.specs.Faults.{markov_fault}
use Rattle.wt_markov.specs.WindowFaults.{window_fault}
use Rattle.wt_markov.specs.declared.fault.CodeDesubFault.{CodeDesubFault}
use Rattle.wt_markov.specs.declared.fault.CodeDesubFault.TheVariants.{TooSmall, OutOfMemory}
use Rattle.wt_markov.specs.CodeDesub.{margin_fault, refusal, IsTakenApart}
use Rattle.wt_step.specs.declared.coarse.Coarse.{Coarse}
use Rattle.wt_markov.proofs.Faultless.{markov_without, window_without}
use Rattle.wt_markov.proofs.Valid.{codes_valid}
use Rattle.wt_markov.proofs.Agreement.{HasBorders, codes_agree}

pub codes_desubstitute : HasBorders → (s : RawStep) → step_fault s ≡ None → s.side ≡ After → (p : Partition) → IsSound p → is_half s.axis p.torus ≡ false
    → Markov s.fine.tiles p → MarkerWindow s p → (z : Spot) → IsSpot z → (g : Grid) → IsCode p z g → has_margin (Marker s) g ≡ true
    → (q : Grid) × IsMarkerDesubstitution s g q × IsPattern s.coarse.tiles q × Agrees s p z g q
codes_desubstitute borders s good after p sound half markov marks z is g code margin =
    let n = along s.axis (core s.radius g) in
    let m = across s.axis (core s.radius g) in
    let t = and_parts (nat_le 3 n) (nat_le 1 m) margin in
    let l : 3 ≤ n = grind (arith, nat_tests, t.0) in
    let w : 1 ≤ m = grind (arith, nat_tests, t.1) in
    let q = some_coarse s (good_step s good) g (codes_valid s.fine.tiles p sound markov z is g code) l w in
    (q.0, q.1, q.2, codes_agree borders s good after p sound half marks z is g code margin q.0 q.2.0 q.1)

-- where no fault is found, a code is a valid pattern
pub code_pattern : (s : RawStep) (p : Partition) → IsSound p → markov_fault s.fine.tiles p ≡ None → (z : Spot) → IsSpot z → (g : Grid) → IsCode p z g → IsPattern s.fine.tiles g
code_pattern s p sound e z is g code = codes_valid s.fine.tiles p sound (markov_without s.fine.tiles p e) z is g code

with_margin : (b : Bool) (x : CodeDesubFault) → cond b None (Some x) ≡ None → b ≡ true
with_margin true x e = refl
with_margin false x e = absurd cc

-- and what the step makes of it agrees with the induced code
pub code_agrees : HasBorders → (s : RawStep) → step_fault s ≡ None → (p : Partition) → IsSound p → window_fault s p ≡ None → (z : Spot) → IsSpot z → (g : Grid) → IsCode p z g
    → margin_fault s g ≡ None → (c : Coarse) → IsTakenApart s g c → Agrees s p z g c.pattern
code_agrees borders s good p sound e z is g code m c made =
    let w = window_without s p e in
    codes_agree borders s good w.0 p sound w.1 w.2 z is g code (with_margin (has_margin (Marker s) g) TooSmall m) c.pattern made.valid.0 made.image

-- the same for what a call answers
pub agree_all : HasBorders → (s : RawStep) → step_fault s ≡ None → (p : Partition) → IsSound p → window_fault s p ≡ None → (z : Spot) → IsSpot z → (g h : Grid) → IsCode p z g
    → g ≡ h → (F : CodeDesubFault → Type 0) (r : Result Coarse CodeDesubFault) → IfOk r (λ c. IsTakenApart s g c) → MatchResult r (λ c. margin_fault s g ≡ None) F → IfOk r (λ c. Agrees s p z h c.pattern)
agree_all borders s good p sound e z is g h code same F (Ok c) made m = subst (λ (x : Grid). Agrees s p z x c.pattern) same (code_agrees borders s good p sound e z is g code m c made)
agree_all borders s good p sound e z is g h code same F (Err f) made m = tt

-- a valid pattern is taken apart, or its core is too small
core_is : (b : Bool) → cond b None (Some desub.TooSmall) ≡ Some desub.TooSmall → cond b None (Some TooSmall) ≡ Some TooSmall
core_is true e = absurd cc
core_is false e = refl

core_never : (b : Bool) (f : Fault) → cond b None (Some desub.TooSmall) ≡ Some (desub.NotValid f) → ⊥
core_never true f e = absurd cc
core_never false f e = absurd cc

module _ (s : RawStep) (g : Grid) (pattern : IsPattern s.fine.tiles g) where
  pub no_stranger_there : first_stranger (length s.fine.tiles) g ≡ None
  no_stranger_there = no_stranger (length s.fine.tiles) g pattern.1

  core_fault : desub_fault (Marker s) g ≡ cond (has_margin (Marker s) g) None (Some desub.TooSmall)
  core_fault = rw (no_fault s.fine.tiles g pattern.2) refl

  apart : (c : Coarse) (f : DesubFault) → ◌≡◌ {A = Result Coarse DesubFault} (Ok c) (Err f) → ⊥
  apart c f e = absurd cc

  pub large_core : (c : Coarse) → ((f : DesubFault) → desub_fault (Marker s) g ≡ Some f → ◌≡◌ {A = Result Coarse DesubFault} (Ok c) (Err f)) → margin_fault s g ≡ None
  large_core c h = elim (flag (has_margin (Marker s) g)) [
    | inl e ↦ rw e refl
    | inr e ↦ absurd (apart c desub.TooSmall (h desub.TooSmall (core_fault ∙ (rw e refl))))
  ]

  pub refused_core : (f : DesubFault) → (f ≡ desub.OutOfMemory) ⊎ (desub_fault (Marker s) g ≡ Some f) → (margin_fault s g ≡ Some (refusal f)) ⊎ (refusal f ≡ OutOfMemory)
  refused_core (desub.NotValid f) (inl e) = absurd cc
  refused_core (desub.NotValid f) (inr e) = absurd (core_never (has_margin (Marker s) g) f (sym core_fault ∙ e))
  refused_core desub.TooSmall (inl e) = absurd cc
  refused_core desub.TooSmall (inr e) = inl (core_is (has_margin (Marker s) g) (sym core_fault ∙ e))
  refused_core desub.OutOfMemory e = inr refl
