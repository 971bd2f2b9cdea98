-- The partition that a torus and its regions make, as they are read.
use Rattle.std.specs.Prelude.{ℕ, ◌+◌, Bool, ◌&&◌, not, nat_eq, ℤ, pos, unsigned_abs, List, [], ◌∷◌, slice_index_or, Option, None, Some, Result, Ok, Err, if◌then◌else◌}
use Rattle.wt_golden.specs.Whole.{Whole}
use Rattle.wt_plane.specs.HalfPlanes.{Half, raw_half, reduced_half}
use Rattle.wt_induce.specs.Faults.{is_small_half}
use Rattle.wt_script.specs.declared.torus.RawBox.{RawBox}
use Rattle.wt_script.specs.declared.torus.RawRegion.{RawRegion}
use Rattle.wt_text.specs.Readers.{◌then◌}
use Rattle.wt_torus.specs.declared.partition.Labelled.{Labelled}
use Rattle.wt_torus.specs.declared.partition.Partition.{Partition}
use Rattle.wt_torus.specs.Boxes.{Rotation, is_rotation}
use Rattle.wt_session.specs.declared.partitions.PartitionFault.{PartitionFault}
use Rattle.wt_session.specs.declared.partitions.PartitionFault.TheVariants.{Torus, Plane}

-- the box with its moves
abbrev pub rotation_of : RawBox → Rotation
rotation_of sides = record { width = sides.width; height = sides.height; move1 = sides.move1; move2 = sides.move2 }

-- the half-plane of six numbers as they are written
abbrev pub written_half : List ℤ → Half
written_half ns = raw_half (slice_index_or ns 0 (pos 0)) (slice_index_or ns 1 (pos 0)) (slice_index_or ns 2 (pos 0)) (slice_index_or ns 3 (pos 0)) (slice_index_or ns 4 (pos 0)) (slice_index_or ns 5 (pos 0))

-- the number 0
abbrev pub is_zero : Whole → Bool
is_zero x = nat_eq (unsigned_abs x.a) 0 && nat_eq (unsigned_abs x.b) 0

-- p and q aren't both 0, and without the common divisor the six numbers are within the limit of half-planes
abbrev pub is_plane : Half → Bool
is_plane h = not (is_zero h.p && is_zero h.q) && is_small_half (reduced_half h)

-- the half-plane without the common divisor, where it is one
unfoldable pub half_from : Half → Option Half
half_from h = if is_plane h then Some (reduced_half h) else None

-- the half-plane of six numbers, where they are those of one
abbrev pub half_of : List ℤ → Option Half
half_of ns = half_from (written_half ns)

-- a half-plane before those behind it, or its number, where it is none
abbrev pub half_before : ℕ → Option Half → Result (List Half) ℕ → Result (List Half) ℕ
half_before j None rest = Err j
half_before j (Some h) rest = rest then λ hs. Ok (h ∷ hs)

-- half-planes with numbers from j on, or the number of the first that is none
abbrev pub halves_from : ℕ → List (List ℤ) → Result (List Half) ℕ
halves_from j [] = Ok []
halves_from j (ns ∷ rest) = half_before j (half_of ns) (halves_from (j + 1) rest)

-- region i with its half-planes, or its half-plane that is none
abbrev pub labelled : ℕ → ℕ → Result (List Half) ℕ → Result Labelled PartitionFault
labelled i label (Ok hs) = Ok (record { label = label; region = record { planes = hs } })
labelled i label (Err j) = Err (Plane i j)

-- regions with numbers from i on, or the first half-plane that is none, by region and then by half-plane
abbrev pub regions_from : ℕ → List RawRegion → Result (List Labelled) PartitionFault
regions_from i [] = Ok []
regions_from i (r ∷ rs) = labelled i r.label (halves_from 0 r.planes) then λ x. regions_from (i + 1) rs then λ xs. Ok (x ∷ xs)

-- The partition, where the box and the moves are a torus and all half-planes are half-planes: the torus is asked first.
abbrev pub partition_of : RawBox → List RawRegion → Result Partition PartitionFault
partition_of sides regions =
    if is_rotation (rotation_of sides)
    then (regions_from 0 regions then λ xs. Ok (record { torus = rotation_of sides; regions = xs }))
    else Err Torus
