-- What the margin of desubstitution gives.
use Rattle.std.proofs.Common.{arith, ◌≡◌, ◌≤◌, ℕ, length, List, Option, None, Some, option_map, if◌then◌else◌, ap, true, nat_le}
use Rattle.std.proofs.lemmas.Bool.{and_parts}
use Rattle.std.proofs.lemmas.Bool.Decides.{nat_tests}
use Rattle.wt_tile.specs.declared.tile.Tile.{Tile}
use Rattle.wt_grid.specs.Grid.{Grid, along, across}
use Rattle.wt_grid.specs.Parts.{core}
use Rattle.wt_pattern.specs.Patterns.{IsPattern}
use Rattle.wt_pattern.specs.Shape.{IsShape}
use Rattle.wt_pattern.specs.Validity.{first_stranger, first_fault}
use Rattle.wt_pattern.proofs.FaultLaws.{tiles_below, is_valid, no_fault}
use Rattle.wt_grid.specs.First.{or_else}
use Rattle.wt_pattern.specs.declared.fault.Fault.{Fault}
use Rattle.wt_step.specs.declared.raw.RawStep.{RawStep}
use Rattle.wt_step.specs.declared.raw.RawRestrict.{RawRestrict}
use Rattle.wt_step.specs.declared.raw.RawLink.TheVariants.{Marker, Restrict}
use Rattle.wt_step.specs.declared.raw.RawLink.{RawLink}
use Rattle.wt_step.specs.declared.coarse.DesubFault.TheVariants.{NotValid, TooSmall}
use Rattle.wt_step.specs.Links.{fine_of}
use Rattle.wt_step.specs.Coarse.{has_margin, desub_fault}

at_least : (k n : ℕ) → nat_le k n ≡ true → k ≤ n
at_least k n e = grind (arith, nat_tests, e)

pub marker_long : (s : RawStep) (p : Grid) → has_margin (Marker s) p ≡ true → 3 ≤ along s.axis (core s.radius p)
marker_long s p e = at_least 3 (along s.axis (core s.radius p)) (and_parts (nat_le 3 (along s.axis (core s.radius p))) (nat_le 1 (across s.axis (core s.radius p))) e).0

pub marker_wide : (s : RawStep) (p : Grid) → has_margin (Marker s) p ≡ true → 1 ≤ across s.axis (core s.radius p)
marker_wide s p e = at_least 1 (across s.axis (core s.radius p)) (and_parts (nat_le 3 (along s.axis (core s.radius p))) (nat_le 1 (across s.axis (core s.radius p))) e).1

pub kept_wide : (s : RawRestrict) (p : Grid) → has_margin (Restrict s) p ≡ true → 1 ≤ (core s.radius p).width
kept_wide s p e = at_least 1 (core s.radius p).width (and_parts (nat_le 1 (core s.radius p).width) (nat_le 1 (core s.radius p).height) e).0

pub kept_high : (s : RawRestrict) (p : Grid) → has_margin (Restrict s) p ≡ true → 1 ≤ (core s.radius p).height
kept_high s p e = at_least 1 (core s.radius p).height (and_parts (nat_le 1 (core s.radius p).width) (nat_le 1 (core s.radius p).height) e).1

-- a rectangle without faults is a pattern
pub pattern_of : (ts : List Tile) (p : Grid) → IsShape p → first_stranger (length ts) p ≡ None → first_fault ts p ≡ None → IsPattern ts p
pattern_of ts p s e f = (s.grid, tiles_below (length ts) p e, is_valid ts p f)

-- of a valid pattern only the margin can be missing
pub valid_fault : (l : RawLink) (p : Grid) → IsPattern (fine_of l).tiles p → desub_fault l p ≡ (if has_margin l p then None else Some TooSmall)
valid_fault l p h = ap (λ (f : Option Fault). or_else (option_map NotValid f) (if has_margin l p then None else Some TooSmall)) (no_fault (fine_of l).tiles p h.2)
