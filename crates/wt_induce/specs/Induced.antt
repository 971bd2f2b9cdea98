-- The induced partition: what the first returns to a window make of the regions.
use Rattle.std.specs.Prelude.{Bool, false, not, ◌||◌, List, [], ◌∷◌, ◌++◌, map}
use Rattle.wt_grid.specs.declared.image.Image.TheVariants as image
use Rattle.wt_grid.specs.declared.image.Image.{Image}
use Rattle.wt_grid.specs.declared.axis.Axis.{Axis}
use Rattle.std.specs.List.{flat_map}
use Rattle.wt_golden.specs.Fractions.{Fraction}
use Rattle.wt_plane.specs.HalfPlanes.{Half, reduced_half}
use Rattle.wt_plane.specs.Regions.{clash_with_two, reduced}
use Rattle.wt_torus.specs.declared.partition.Labelled.{Labelled}
use Rattle.wt_torus.specs.declared.partition.Partition.{Partition}
use Rattle.wt_torus.specs.Boxes.{move_of}
use Rattle.wt_torus.specs.Letters.{those}
use Rattle.wt_morphism.specs.declared.image.Morphism.{Morphism}
use Rattle.wt_induce.specs.Images.{put_all, number_of}
use Rattle.wt_induce.specs.declared.drafts.Draft.{Draft}
use Rattle.wt_induce.specs.Zones.{frame_on, framed, moved_along, zone}

-- three of the half-planes, repeats allowed, have no common point
abbrev pub some_clash : List Half → Bool
some_clash [] = false
some_clash (g ∷ gs) = clash_with_two g (g ∷ gs) || some_clash gs

-- what the label of a draft stands for
abbrev pub image_of : Draft → Image
image_of c = c.image

-- after one turn: each region cut by the zone
abbrev pub single : List Half → Labelled → Draft
single zs p = record { image = image.One p.label; planes = p.region.planes ++ zs }

-- the drafts of all regions after one turn
abbrev pub singles : List Half → List Labelled → List Draft
singles zs rs = map (single zs) rs

-- no three of its half-planes clash
abbrev pub is_kept : Draft → Bool
is_kept c = not (some_clash c.planes)

-- the region with its new label
abbrev pub numbered : List Image → Draft → Labelled
numbered is c = record { label = number_of is c.image; region = record { planes = c.planes } }

-- after two: each region cut by the zone and by each region moved back
abbrev pub double : Axis → Fraction → List Half → Labelled → Labelled → Draft
double axis move zs p q = record { image = image.Two p.label q.label; planes = p.region.planes ++ (zs ++ map (λ h. reduced_half (moved_along axis move h)) q.region.planes) }

-- the drafts of all pairs of regions after two turns, by the first and then by the second
abbrev pub doubles : Axis → Fraction → List Half → List Labelled → List Draft
doubles axis move zs rs = flat_map (λ p. map (double axis move zs p) rs) rs

-- all induced regions before any is dropped: after one turn, then after two
abbrev pub drafts : Axis → Partition → List Draft
drafts axis p =
    let w = frame_on axis p.torus in
    singles (zone axis w w.single_below) p.regions ++ doubles axis (move_of axis p.torus) (zone axis w (not w.single_below)) p.regions

-- a draft without half-planes that others imply
abbrev pub reduced_draft : Draft → Draft
reduced_draft c = record { image = c.image; planes = reduced [] c.planes }

-- the drafts that are kept, reduced
abbrev pub kept_drafts : List Draft → List Draft
kept_drafts ds = those reduced_draft is_kept ds

-- the induced regions that are left
abbrev pub kept : Axis → Partition → List Draft
kept axis p = kept_drafts (drafts axis p)

-- what the labels of drafts stand for, each once, in order
abbrev pub images_of : List Draft → List Image
images_of cs = put_all [] (map image_of cs)

-- the new labels: the images that are left
unfoldable pub images : Axis → Partition → List Image
images axis p = images_of (kept axis p)

-- the partition that the first returns to the window make
unfoldable pub induced : Axis → Partition → Partition
induced axis p = record { torus = framed axis p.torus; regions = map (numbered (images axis p)) (kept axis p) }

-- what each new label stands for along the axis
unfoldable pub morphism : Axis → Partition → Morphism
morphism axis p = record { axis = axis; table = images axis p }
