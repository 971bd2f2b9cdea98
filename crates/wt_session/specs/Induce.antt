-- What `induce N T A` answers.
use Rattle.std.specs.Prelude.{◌≡◌, ℕ, ◌+◌, List, [], ◌∷◌, ◌++◌, length, codes, Option, None, Some, Result, Ok, Err}
use Rattle.std.specs.Fmt.{decimal}
use Rattle.wt_grid.specs.declared.axis.Axis.{Axis}
use Rattle.wt_grid.specs.declared.image.Image.{Image}
use Rattle.wt_induce.specs.declared.fault.InduceFault.{InduceFault}
use Rattle.wt_induce.specs.declared.fault.InduceFault.TheVariants.{Half, TooLarge, TooManyPlanes, TooManyRegions, TooManyLabels, OutOfMemory}
use Rattle.wt_induce.specs.Faults.{induce_fault}
use Rattle.wt_induce.specs.Induced.{images, induced}
use Rattle.wt_torus.specs.declared.partition.Partition.{Partition}
use Rattle.wt_session.specs.declared.value.Value.TheVariants as value
use Rattle.wt_session.specs.Code.{golden_limit}
use Rattle.wt_session.specs.Derive.{image_text}
use Rattle.wt_session.specs.Names.{Names}
use Rattle.wt_session.specs.Replies.{Reply, binds, refused, limit, partition_named}

-- a label with the one or two labels that it stands for, in a line
abbrev pub label_text : ℕ → Image → List ℕ
label_text j i = decimal j ++ (codes ": " ++ image_text i)

-- each label with what it stands for, numbered from j on
abbrev pub labels_text : ℕ → List Image → List ℕ
labels_text j [] = []
labels_text j (i ∷ is) = label_text j i ++ labels_text (j + 1) is

-- how many labels there are, and what each of them stands for
abbrev pub induced_text : List Image → List ℕ
induced_text is = codes "induced " ++ (decimal (length is) ++ (codes "\n" ++ labels_text 0 is))

-- the induced partition, bound to a name, or why there is none
abbrev pub IsInducedReply : List ℕ → Axis → Partition → Option InduceFault → Reply → Type 0
IsInducedReply n axis p None reply = reply ≡ binds n (value.Partition (induced axis p)) (induced_text (images axis p))
IsInducedReply n axis p (Some Half) reply = reply ≡ refused (codes "refused half\n")
IsInducedReply n axis p (Some TooLarge) reply = reply ≡ golden_limit
IsInducedReply n axis p (Some TooManyPlanes) reply = reply ≡ limit (codes "limit planes\n")
IsInducedReply n axis p (Some TooManyRegions) reply = reply ≡ limit (codes "limit regions\n")
IsInducedReply n axis p (Some TooManyLabels) reply = reply ≡ limit (codes "limit labels\n")
IsInducedReply n axis p (Some OutOfMemory) reply = ⊥

-- the partition, or why there is none
abbrev pub IsInduceOf : List ℕ → Axis → Result Partition Reply → Reply → Type 0
IsInduceOf n axis (Err stopped) reply = reply ≡ stopped
IsInduceOf n axis (Ok p) reply = IsInducedReply n axis p (induce_fault axis p) reply

-- the reply of `induce`: the partition that the first returns along the axis make
abbrev pub IsInduceReply : Names → List ℕ → List ℕ → Axis → Reply → Type 0
IsInduceReply names n t axis reply = IsInduceOf n axis (partition_named names t) reply
