-- Why the markers of a step aren't the labels beyond the window, in the order of the causes.
use Rattle.std.specs.Prelude.{◌≡◌, ℕ, ◌<◌, nat_eq, Bool, true, ◌&&◌, not, length, Option, None, Some, if◌then◌else◌}
use Rattle.std.specs.List.{list_any, list_all}
use Rattle.wt_grid.specs.declared.axis.Axis.{Axis}
use Rattle.wt_grid.specs.declared.axis.Side.{Side}
use Rattle.wt_grid.specs.declared.axis.Side.TheVariants.{After, Before}
use Rattle.wt_grid.specs.First.{or_else, first_from}
use Rattle.wt_grid.specs.Order.{first_in}
use Rattle.wt_plane.specs.HalfPlanes.{reduced_half}
use Rattle.wt_torus.specs.declared.partition.Labelled.{Labelled}
use Rattle.wt_torus.specs.declared.partition.Partition.{Partition}
use Rattle.wt_torus.specs.Boxes.{Rotation}
use Rattle.wt_induce.specs.Zones.{frame_on, beyond, beneath}
use Rattle.wt_induce.specs.Faults.{is_small_half}
use Rattle.wt_induce.specs.Law.{is_half}
use Rattle.wt_step.specs.declared.raw.RawStep.{RawStep}
use Rattle.wt_step.specs.Words.{is_marker}
use Rattle.wt_markov.specs.declared.fault.WindowFault.{WindowFault}
use Rattle.wt_markov.specs.declared.fault.WindowFault.TheVariants as fault
use Rattle.wt_markov.specs.Follow.{box}
use Rattle.wt_markov.specs.Window.{is_beyond, is_inside}
use Rattle.wt_markov.specs.Faults.{region_at}

-- the side is before
abbrev pub side_fault : Side → Option WindowFault
side_fault After = None
side_fault Before = Some fault.Side

-- twice the move is the length
abbrev pub half_fault : Axis → Rotation → Option WindowFault
half_fault axis r = if is_half axis r then Some fault.Half else None

-- the half-planes of the box and of both sides of the window's edge are within the limit
abbrev pub edges_fit : Axis → Rotation → Bool
edges_fit axis r =
    list_all is_small_half (box r)
    && is_small_half (reduced_half (beyond axis (frame_on axis r).size))
    && is_small_half (reduced_half (beneath axis (frame_on axis r).size))

-- so they are where there is a region that is asked about them
abbrev pub EdgesFit : RawStep → Partition → Type 0
EdgesFit s p = 0 < length p.regions → edges_fit s.axis p.torus ≡ true

-- what is wrong with the label of a region: it lies beyond the window and has no marker, or inside it and has one
abbrev pub label_fault : ℕ → Bool → Bool → Bool → Option WindowFault
label_fault region beyond inside marked =
    if beyond && not marked then Some (fault.Outside region)
    else if inside && marked then Some (fault.Inside region)
    else None

-- what is wrong with that of region i
abbrev pub label_fault_at : RawStep → Partition → ℕ → Option WindowFault
label_fault_at s p i =
    label_fault i (is_beyond s.axis p.torus (region_at p i)) (is_inside s.axis p.torus (region_at p i)) (is_marker s (region_at p i).label)

-- the fault of region i
abbrev pub window_fault_at : RawStep → Partition → ℕ → Option WindowFault
window_fault_at s p i = if edges_fit s.axis p.torus then label_fault_at s p i else Some fault.TooLarge

-- the first fault of a region
abbrev pub regions_fault : RawStep → Partition → Option WindowFault
regions_fault s p = first_from (window_fault_at s p) 0 (length p.regions)

-- the region is beyond the window and has this label
abbrev pub stands_beyond : RawStep → Rotation → ℕ → Labelled → Bool
stands_beyond s r a q = nat_eq q.label a && is_beyond s.axis r q

-- the marker, where it is the label of no region beyond the window
abbrev pub nowhere_at : RawStep → Partition → ℕ → Option WindowFault
nowhere_at s p a = if list_any (stands_beyond s p.torus a) p.regions then None else Some (fault.Nowhere a)

-- the first fault of a partition for a step
unfoldable pub window_fault : RawStep → Partition → Option WindowFault
window_fault s p =
    or_else (side_fault s.side)
    (or_else (half_fault s.axis p.torus)
    (or_else (regions_fault s p)
    (first_in (nowhere_at s p) s.markers)))
