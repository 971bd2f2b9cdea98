-- What desubstitution answers for a step of either kind.
use Rattle.std.specs.Prelude.{ℕ, ◌-◌, ◌≤◌, ◌++◌, List, [], ◌∷◌, Bool, true, false, ◌&&◌, not, nat_le, Option, Some, option_map, if◌then◌else◌, None}
use Rattle.wt_grid.specs.First.{or_else}
use Rattle.wt_grid.specs.Grid.{Grid, along, across, at, listed}
use Rattle.wt_grid.specs.Parts.{core}
use Rattle.wt_pattern.specs.Validity.{first_fault}
use Rattle.wt_step.specs.declared.raw.RawStep.{RawStep}
use Rattle.wt_step.specs.declared.raw.RawLink.{RawLink}
use Rattle.wt_step.specs.declared.raw.RawLink.TheVariants.{Marker, Restrict}
use Rattle.wt_step.specs.declared.coarse.DesubFault.{DesubFault}
use Rattle.wt_step.specs.declared.coarse.DesubFault.TheVariants.{NotValid, TooSmall}
use Rattle.wt_step.specs.Words.{is_marker, ends_block}
use Rattle.wt_step.specs.Links.{fine_of, coarse_of}
use Rattle.wt_step.specs.Cores.{core_length, core_width}
use Rattle.wt_pattern.specs.Patterns.{IsPattern}
use Rattle.wt_step.specs.Meaning.{cut_core, IsMarkerDesubstitution, IsRestriction}

-- the coarse pattern q has the cut core of p as its image
abbrev pub IsDesubstitution : RawLink → Grid → Grid → Type 0
IsDesubstitution (Marker s) p q = IsMarkerDesubstitution s p q
IsDesubstitution (Restrict s) p q = IsRestriction s p q

-- A rectangle has the step's margin where its core has three lines along the step's axis and one cell across it; for a restrict step, where its core has a cell.
abbrev pub HasMargin : RawLink → Grid → Type 0
HasMargin (Marker s) p = (3 ≤ core_length s p) × (1 ≤ core_width s p)
HasMargin (Restrict s) p = (1 ≤ (core s.radius p).width) × (1 ≤ (core s.radius p).height)

-- a rectangle has a desubstitution, and that is valid
abbrev pub HasValidDesubstitution : RawLink → Grid → Type 0
HasValidDesubstitution l p = (q : Grid) × IsDesubstitution l p q × IsPattern (coarse_of l).tiles q

-- the same as a test
abbrev pub has_margin : RawLink → Grid → Bool
has_margin (Marker s) p = nat_le 3 (along s.axis (core s.radius p)) && nat_le 1 (across s.axis (core s.radius p))
has_margin (Restrict s) p = nat_le 1 (core s.radius p).width && nat_le 1 (core s.radius p).height

-- whether line i of the core is a line of markers, by its first cell
abbrev pub is_marked : RawStep → Grid → ℕ → Bool
is_marked s p i = is_marker s (at s.axis (core s.radius p) i 0)

-- whether the first line of the core is cut
abbrev pub cuts_low : RawLink → Grid → Bool
cuts_low (Marker s) p = ends_block s.side (is_marked s p 0)
cuts_low (Restrict s) p = false

-- whether the last line of the core is cut: it begins a block
abbrev pub cuts_high : RawLink → Grid → Bool
cuts_high (Marker s) p = not (ends_block s.side (is_marked s p (along s.axis (core s.radius p) - 1)))
cuts_high (Restrict s) p = false

-- line i of the core
abbrev pub core_line : RawStep → Grid → ℕ → List ℕ
core_line s p i = listed (across s.axis (core s.radius p)) (λ j. at s.axis (core s.radius p) i j)

-- a line, where it is cut
abbrev pub cut_line : Bool → List ℕ → List (List ℕ)
cut_line true line = line ∷ []
cut_line false line = []

-- the lines of the core: the first, where it is cut, then the cut core, and then the last, where that is cut
abbrev pub lines_with_cuts : RawStep → Grid → List (List ℕ)
lines_with_cuts s p = cut_line (cuts_low (Marker s) p) (core_line s p 0)
    ++ (cut_core s p ++ cut_line (cuts_high (Marker s) p) (core_line s p (core_length s p - 1)))

-- why a pattern isn't taken apart: it isn't valid, then its core is too small
abbrev pub desub_fault : RawLink → Grid → Option DesubFault
desub_fault l p = or_else (option_map NotValid (first_fault (fine_of l).tiles p)) (if has_margin l p then None else Some TooSmall)
