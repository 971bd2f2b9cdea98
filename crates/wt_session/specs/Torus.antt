-- What `torus N GA GB Ga Gb n` answers.
use Rattle.std.specs.Prelude.{ℕ, suc, List, [], ◌∷◌, ◌++◌, length, map, nat_eq, Bool, true, false, ◌||◌, if◌then◌else◌, codes, Result, Ok, Err}
use Rattle.std.specs.Fmt.{decimal}
use Rattle.wt_script.specs.declared.torus.RawBox.{RawBox}
use Rattle.wt_script.specs.declared.torus.RawRegion.{RawRegion}
use Rattle.wt_torus.specs.declared.partition.Partition.{Partition}
use Rattle.wt_torus.specs.Letters.{label_of}
use Rattle.wt_session.specs.declared.partitions.PartitionFault.{PartitionFault}
use Rattle.wt_session.specs.declared.partitions.PartitionFault.TheVariants as fault
use Rattle.wt_session.specs.declared.value.Value.TheVariants as value
use Rattle.wt_session.specs.Partitions.{partition_of}
use Rattle.wt_session.specs.Replies.{Reply, binds, refused}

-- whether the number is one of these
abbrev pub is_among : ℕ → List ℕ → Bool
is_among n [] = false
is_among n (m ∷ ms) = nat_eq n m || is_among n ms

-- how many different numbers these are
abbrev pub different : List ℕ → ℕ
different [] = 0
different (n ∷ ns) = if is_among n ns then different ns else suc (different ns)

-- how many regions and how many different labels
abbrev pub torus_text : Partition → List ℕ
torus_text p = codes "torus " ++ (decimal (length p.regions) ++ (codes " regions " ++ (decimal (different (map label_of p.regions)) ++ codes " labels\n")))

-- why there is no partition
abbrev pub torus_fault_text : PartitionFault → List ℕ
torus_fault_text fault.Torus = codes "refused torus\n"
torus_fault_text (fault.Plane i j) = codes "refused plane " ++ (decimal i ++ (codes " " ++ (decimal j ++ codes "\n")))

-- the partition, bound to a name
abbrev pub torus_by : List ℕ → Result Partition PartitionFault → Reply
torus_by n (Ok p) = binds n (value.Partition p) (torus_text p)
torus_by n (Err e) = refused (torus_fault_text e)

-- The reply of `torus`: refused where the box and the moves are no torus, then at the first half-plane that is none.
abbrev pub torus_reply : List ℕ → RawBox → List RawRegion → Reply
torus_reply n sides regions = torus_by n (partition_of sides regions)
