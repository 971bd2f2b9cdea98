-- Why a partition has no induced one within the limits, in the order of the causes.
use Rattle.std.specs.Prelude.{nat_le, nat_lt, unsigned_abs, Bool, true, false, ◌&&◌, not, List, [], length, map, Option, None, Some, if◌then◌else◌}
use Rattle.std.specs.List.{list_all}
use Rattle.wt_grid.specs.declared.axis.Axis.{Axis}
use Rattle.wt_golden.specs.Whole.{Whole}
use Rattle.wt_golden.specs.Fractions.{Fraction}
use Rattle.wt_plane.specs.HalfPlanes.{Half, half_limit, reduced_half}
use Rattle.wt_plane.specs.Regions.{reduced}
use Rattle.wt_grid.specs.First.{or_else}
use Rattle.wt_grid.specs.Order.{first_in}
use Rattle.wt_torus.specs.declared.partition.Labelled.{Labelled}
use Rattle.wt_torus.specs.declared.partition.Partition.{Partition}
use Rattle.wt_torus.specs.Boxes.{Rotation, move_of}
use Rattle.wt_induce.specs.declared.fault.InduceFault.{InduceFault}
use Rattle.wt_induce.specs.declared.fault.InduceFault.TheVariants as fault
use Rattle.wt_grid.specs.declared.limits.TheConstants.{MAX_TILES}
use Rattle.wt_torus.specs.declared.partition.TheConstants.{MAX_PLANES, MAX_REGIONS}
use Rattle.wt_torus.specs.Codes.{is_within}
use Rattle.wt_induce.specs.declared.zones.Frame.{Frame}
use Rattle.wt_induce.specs.declared.drafts.Draft.{Draft}
use Rattle.wt_induce.specs.Zones.{frame_on, moved_along, zone}
use Rattle.wt_induce.specs.Induced.{singles, double, is_kept, kept, images_of}
use Rattle.wt_induce.specs.Law.{is_half}

-- both parts are within the limit of half-planes
abbrev pub are_within : Whole → Bool
are_within x = nat_le (unsigned_abs x.a) half_limit && nat_le (unsigned_abs x.b) half_limit

-- the six numbers of a half-plane are within the limit
abbrev pub is_small_half : Half → Bool
is_small_half h = are_within h.p && are_within h.q && are_within h.r

-- the numbers of the window are within the limits
abbrev pub window_fits : Frame → Bool
window_fits w = is_within w.size && is_within w.step && is_within w.bound

-- the window and its zones are
abbrev pub frame_fits : Axis → Frame → Bool
frame_fits axis w = window_fits w && list_all is_small_half (zone axis w true) && list_all is_small_half (zone axis w false)

-- twice the move is the length, or a number of the window or of a zone is out of limit
abbrev pub zones_fault : Axis → Rotation → Option InduceFault
zones_fault axis r = if is_half axis r then Some fault.Half else if frame_fits axis (frame_on axis r) then None else Some fault.TooLarge

-- the half-planes of both zones of a window are within limits
abbrev pub zones_fit : Axis → Frame → Bool
zones_fit axis w = list_all is_small_half (zone axis w true) && list_all is_small_half (zone axis w false)

-- a region that is kept has too many half-planes
abbrev pub planes_fault : Draft → Option InduceFault
planes_fault c = if is_kept c && nat_lt MAX_PLANES (length (reduced [] c.planes)) then Some fault.TooManyPlanes else None

-- the half-planes of a region moved back by the move
abbrev pub moved_back : Axis → Fraction → List Half → List Half
moved_back axis move hs = map (λ h. reduced_half (moved_along axis move h)) hs

-- a region moved back is out of limit, even where what is cut by it would be dropped
abbrev pub pair_fault : Axis → Fraction → List Half → Labelled → Labelled → Option InduceFault
pair_fault axis move zs p q =
    if list_all is_small_half (moved_back axis move q.region.planes)
    then planes_fault (double axis move zs p q)
    else Some fault.TooLarge

-- the first fault of the induced regions of p after two turns
abbrev pub pairs_fault : Axis → Fraction → List Half → List Labelled → Labelled → Option InduceFault
pairs_fault axis move zs rs p = first_in (pair_fault axis move zs p) rs

-- the first fault of an induced region: after one turn, then after two
abbrev pub region_fault : Axis → Partition → Option InduceFault
region_fault axis p =
    let w = frame_on axis p.torus in
    or_else (first_in planes_fault (singles (zone axis w w.single_below) p.regions))
    (first_in (pairs_fault axis (move_of axis p.torus) (zone axis w (not w.single_below)) p.regions) p.regions)

-- too many regions are left, or there are too many labels
abbrev pub count_fault : List Draft → Option InduceFault
count_fault cs = if nat_lt MAX_REGIONS (length cs) then Some fault.TooManyRegions else if nat_lt MAX_TILES (length (images_of cs)) then Some fault.TooManyLabels else None

-- why a partition has no induced one along the axis within the limits
unfoldable pub induce_fault : Axis → Partition → Option InduceFault
induce_fault axis p = or_else (zones_fault axis p.torus) (or_else (region_fault axis p) (count_fault (kept axis p)))
