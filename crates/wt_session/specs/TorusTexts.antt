-- A partition as a text of its own: a torus with its regions, and nothing behind them.
use Rattle.std.specs.Prelude.{◌≡◌, ℕ, List, Result, Ok, Err}
use Rattle.wt_line.specs.declared.faults.What.{What}
use Rattle.wt_line.specs.Faults.{TextFails}
use Rattle.wt_text.specs.Lines.{lines}
use Rattle.wt_text.specs.Readers.{TextFault, whole_text}
use Rattle.wt_torus.specs.declared.partition.Partition.{Partition}
use Rattle.wt_script.specs.declared.torus.RawTorus.{RawTorus}
use Rattle.wt_script.specs.TorusText.{plain_torus_part}
use Rattle.wt_session.specs.declared.partitions.PartitionFault.TheVariants as made
use Rattle.wt_session.specs.declared.torus_text.TorusTextFault.{TorusTextFault}
use Rattle.wt_session.specs.declared.torus_text.TorusTextFault.TheVariants.{Text, Torus, Plane}
use Rattle.wt_session.specs.Partitions.{partition_of}

-- the torus that the bytes say, or the first fault of the text
abbrev pub torus_of : List ℕ → Result RawTorus (TextFault What)
torus_of bytes = whole_text plain_torus_part (lines bytes)

-- the partition that was read, where the text has no fault and its torus makes one
abbrev pub IsPartitionRead : Result RawTorus (TextFault What) → Partition → Type 0
IsPartitionRead (Ok torus) p = partition_of torus.sides torus.regions ≡ Ok p
IsPartitionRead (Err fault) p = ⊥

-- why none was read: the text's first fault, sides and moves that make no torus, the first numbers that make no half-plane
abbrev pub IsTorusTextFault : Result RawTorus (TextFault What) → TorusTextFault → Type 0
IsTorusTextFault read (Text fault) = TextFails fault read
IsTorusTextFault (Ok torus) Torus = partition_of torus.sides torus.regions ≡ Err made.Torus
IsTorusTextFault (Ok torus) (Plane i j) = partition_of torus.sides torus.regions ≡ Err (made.Plane i j)
IsTorusTextFault (Err fault) Torus = ⊥
IsTorusTextFault (Err fault) (Plane i j) = ⊥
