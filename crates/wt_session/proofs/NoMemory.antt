-- Neither a code nor an induction has the want of memory for its fault.
use Rattle.std.proofs.Common.{◌≡◌, ℕ, zero, suc, ◌+◌, List, [], ◌∷◌, length, Option, None, Some}
use Rattle.std.specs.Prelude.{Bool, true, false, not, ◌&&◌, nat_lt, if◌then◌else◌}
use Rattle.std.specs.List.{list_all}
use Rattle.wt_grid.specs.declared.axis.Axis.{Axis}
use Rattle.wt_grid.specs.declared.limits.TheConstants.{MAX_TILES}
use Rattle.wt_grid.specs.First.{or_else, first_from}
use Rattle.wt_grid.specs.Order.{first_in}
use Rattle.wt_golden.specs.Fractions.{Fraction}
use Rattle.wt_plane.specs.HalfPlanes.{Half, Spot}
use Rattle.wt_plane.specs.Regions.{reduced}
use Rattle.wt_torus.specs.declared.coded.CodeFault.{CodeFault}
use Rattle.wt_torus.specs.declared.coded.CodeFault.TheVariants as code_faults
use Rattle.wt_torus.specs.declared.letter.Letter.{Letter}
use Rattle.wt_torus.specs.declared.letter.Letter.TheVariants.{One, Unplaced, Doubled}
use Rattle.wt_torus.specs.declared.partition.Labelled.{Labelled}
use Rattle.wt_torus.specs.declared.partition.Partition.{Partition}
use Rattle.wt_torus.specs.declared.partition.TheConstants.{MAX_PLANES, MAX_REGIONS}
use Rattle.wt_torus.specs.Boxes.{Rotation, move_of}
use Rattle.wt_torus.specs.Codes.{reached, letter_within, letter_fault, cell_fault, row_fault, is_in_square, code_fault}
use Rattle.wt_induce.specs.declared.fault.InduceFault.{InduceFault}
use Rattle.wt_induce.specs.declared.fault.InduceFault.TheVariants as induce_faults
use Rattle.wt_induce.specs.Faults.{is_small_half, frame_fits, zones_fault, planes_fault, moved_back, pair_fault, pairs_fault, region_fault, count_fault, induce_fault}
use Rattle.wt_induce.specs.Induced.{singles, double, is_kept, kept, images_of}
use Rattle.wt_induce.specs.Law.{is_half}
use Rattle.wt_induce.specs.Zones.{frame_on, zone}

-- an answer other than this one
abbrev pub Never : {E : Type 0} → E → Option E → Type 0
Never e o = o ≡ Some e → ⊥

or_never : {E : Type 0} (e : E) (a b : Option E) → Never e a → Never e b → Never e (or_else a b)
or_never e None b na nb = nb
or_never e (Some x) b na nb = na

either_never : {E : Type 0} (e : E) (b : Bool) (x y : Option E) → Never e x → Never e y → Never e (if b then x else y)
either_never e true x y nx ny = nx
either_never e false x y nx ny = ny

in_never : {A E : Type 0} (e : E) (f : A → Option E) (xs : List A) → ((x : A) → Never e (f x)) → Never e (first_in f xs)
in_never e f [] each h = absurd cc
in_never e f (x ∷ xs) each h = or_never e (f x) (first_in f xs) (each x) (in_never e f xs each) h

from_never : {E : Type 0} (e : E) (f : ℕ → Option E) (i n : ℕ) → ((k : ℕ) → Never e (f k)) → Never e (first_from f i n)
from_never e f i zero each h = absurd cc
from_never e f i (suc n) each h = or_never e (f i) (first_from f (i + 1) n) (each i) (from_never e f (i + 1) n each) h

-- ---- codes

letter_never : (i j : ℕ) (o : Option Letter) → Never code_faults.OutOfMemory (letter_fault i j o)
letter_never i j None h = absurd cc
letter_never i j (Some (One a)) h = absurd cc
letter_never i j (Some Unplaced) h = absurd cc
letter_never i j (Some Doubled) h = absurd cc

row_never : (p : Partition) (z : Spot) (w j : ℕ) → Never code_faults.OutOfMemory (row_fault p z w j)
row_never p z w j = from_never code_faults.OutOfMemory (cell_fault p z j) 0 w (λ i. letter_never i j (letter_within p (reached p.torus z i j)))

outside_never : Never code_faults.OutOfMemory (Some code_faults.OutsideBox)
outside_never h = absurd cc

pub code_never : (p : Partition) (z : Spot) (w h : ℕ) → Never code_faults.OutOfMemory (code_fault p z w h)
unfolding code_fault
code_never p z w h = either_never code_faults.OutOfMemory (is_in_square p.torus z) (first_from (row_fault p z w) 0 h) (Some code_faults.OutsideBox) (from_never code_faults.OutOfMemory (row_fault p z w) 0 h (λ j. row_never p z w j)) outside_never

-- ---- inductions

none_never : Never induce_faults.OutOfMemory None
none_never h = absurd cc

half_never : Never induce_faults.OutOfMemory (Some induce_faults.Half)
half_never h = absurd cc

large_never : Never induce_faults.OutOfMemory (Some induce_faults.TooLarge)
large_never h = absurd cc

many_planes_never : Never induce_faults.OutOfMemory (Some induce_faults.TooManyPlanes)
many_planes_never h = absurd cc

many_regions_never : Never induce_faults.OutOfMemory (Some induce_faults.TooManyRegions)
many_regions_never h = absurd cc

many_labels_never : Never induce_faults.OutOfMemory (Some induce_faults.TooManyLabels)
many_labels_never h = absurd cc

zones_never : (axis : Axis) (r : Rotation) → Never induce_faults.OutOfMemory (zones_fault axis r)
zones_never axis r =
    either_never induce_faults.OutOfMemory (is_half axis r) (Some induce_faults.Half) (if frame_fits axis (frame_on axis r) then None else Some induce_faults.TooLarge) half_never
    (either_never induce_faults.OutOfMemory (frame_fits axis (frame_on axis r)) None (Some induce_faults.TooLarge) none_never large_never)

many_never : (b : Bool) → Never induce_faults.OutOfMemory (if b then Some induce_faults.TooManyPlanes else None)
many_never b = either_never induce_faults.OutOfMemory b (Some induce_faults.TooManyPlanes) None many_planes_never none_never

pair_never : (axis : Axis) (move : Fraction) (zs : List Half) (p q : Labelled) → Never induce_faults.OutOfMemory (pair_fault axis move zs p q)
pair_never axis move zs p q =
    either_never induce_faults.OutOfMemory (list_all is_small_half (moved_back axis move q.region.planes)) (planes_fault (double axis move zs p q)) (Some induce_faults.TooLarge) (let c = double axis move zs p q in many_never (is_kept c && nat_lt MAX_PLANES (length (reduced [] c.planes)))) large_never

pairs_never : (axis : Axis) (move : Fraction) (zs : List Half) (rs : List Labelled) (p : Labelled) → Never induce_faults.OutOfMemory (pairs_fault axis move zs rs p)
pairs_never axis move zs rs p = in_never induce_faults.OutOfMemory (pair_fault axis move zs p) rs (λ q. pair_never axis move zs p q)

region_never : (axis : Axis) (p : Partition) → Never induce_faults.OutOfMemory (region_fault axis p)
region_never axis p =
    let w = frame_on axis p.torus in
    or_never induce_faults.OutOfMemory (first_in planes_fault (singles (zone axis w w.single_below) p.regions)) (first_in (pairs_fault axis (move_of axis p.torus) (zone axis w (not w.single_below)) p.regions) p.regions)
    (in_never induce_faults.OutOfMemory planes_fault (singles (zone axis w w.single_below) p.regions) (λ c. many_never (is_kept c && nat_lt MAX_PLANES (length (reduced [] c.planes)))))
    (in_never induce_faults.OutOfMemory (pairs_fault axis (move_of axis p.torus) (zone axis w (not w.single_below)) p.regions) p.regions (λ r. pairs_never axis (move_of axis p.torus) (zone axis w (not w.single_below)) p.regions r))

count_never : (axis : Axis) (p : Partition) → Never induce_faults.OutOfMemory (count_fault (kept axis p))
count_never axis p =
    let cs = kept axis p in
    either_never induce_faults.OutOfMemory (nat_lt MAX_REGIONS (length cs)) (Some induce_faults.TooManyRegions) (if nat_lt MAX_TILES (length (images_of cs)) then Some induce_faults.TooManyLabels else None) many_regions_never
    (either_never induce_faults.OutOfMemory (nat_lt MAX_TILES (length (images_of cs))) (Some induce_faults.TooManyLabels) None many_labels_never none_never)

pub induce_never : (axis : Axis) (p : Partition) → Never induce_faults.OutOfMemory (induce_fault axis p)
unfolding induce_fault
induce_never axis p =
    or_never induce_faults.OutOfMemory (zones_fault axis p.torus) (or_else (region_fault axis p) (count_fault (kept axis p))) (zones_never axis p.torus)
    (or_never induce_faults.OutOfMemory (region_fault axis p) (count_fault (kept axis p)) (region_never axis p) (count_never axis p))
