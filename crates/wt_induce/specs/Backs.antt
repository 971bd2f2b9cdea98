-- Scaffolding: regions moved back, and what they are paired to.
use Rattle.std.specs.Prelude.{ℕ, List, [], ◌∷◌, ◌++◌, map, Option, None, Some, if◌then◌else◌}
use Rattle.std.specs.List.{list_all, flat_map}
use Rattle.wt_grid.specs.declared.axis.Axis.{Axis}
use Rattle.wt_grid.specs.declared.image.Image.TheVariants as image
use Rattle.wt_grid.specs.Order.{first_in}
use Rattle.wt_golden.specs.Fractions.{Fraction}
use Rattle.wt_plane.specs.HalfPlanes.{Half}
use Rattle.wt_torus.specs.declared.partition.Labelled.{Labelled}
use Rattle.wt_induce.specs.declared.fault.InduceFault.{InduceFault}
use Rattle.wt_induce.specs.declared.fault.InduceFault.TheVariants.{TooLarge}
use Rattle.wt_induce.specs.declared.drafts.Draft.{Draft}
use Rattle.wt_induce.specs.declared.backs.Back.{Back}
use Rattle.wt_induce.specs.Faults.{is_small_half, moved_back, planes_fault}

-- half-planes moved back, where all of them are within the limit
abbrev pub moved_within : Axis → Fraction → List Half → Option (List Half)
moved_within axis move hs = if list_all is_small_half (moved_back axis move hs) then Some (moved_back axis move hs) else None

-- a region moved back
abbrev pub back_of : Axis → Fraction → Labelled → Back
back_of axis move q = record { label = q.label; planes = moved_within axis move q.region.planes }

-- what is cut by these half-planes in front and by a region moved back, for the labels a and b
abbrev pub paired : List Half → ℕ → ℕ → List Half → Draft
paired front a b hs = record { image = image.Two a b; planes = front ++ hs }

-- its fault
abbrev pub paired_fault : List Half → ℕ → ℕ → Option (List Half) → Option InduceFault
paired_fault front a b None = Some TooLarge
paired_fault front a b (Some hs) = planes_fault (paired front a b hs)

-- the fault of a region moved back, behind those in front
abbrev pub back_fault : List Half → ℕ → Back → Option InduceFault
back_fault front a q = paired_fault front a q.label q.planes

-- the draft, where the region moved back is within the limit
abbrev pub paired_drafts : List Half → ℕ → ℕ → Option (List Half) → List Draft
paired_drafts front a b None = []
paired_drafts front a b (Some hs) = paired front a b hs ∷ []

-- the draft of a region moved back, behind those in front
abbrev pub back_drafts : List Half → ℕ → Back → List Draft
back_drafts front a q = paired_drafts front a q.label q.planes

-- the drafts of one region with all regions moved back
abbrev pub region_drafts : List Half → List Back → Labelled → List Draft
region_drafts zs qs p = flat_map (back_drafts (p.region.planes ++ zs) p.label) qs

-- the first fault of these drafts
abbrev pub region_pairs_fault : List Half → List Back → Labelled → Option InduceFault
region_pairs_fault zs qs p = first_in (back_fault (p.region.planes ++ zs) p.label) qs
