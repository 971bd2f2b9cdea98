-- What `markov` and `markov K` reply to the bytes of a set, or of a certificate, and of a torus.
use Rattle.std.specs.Prelude.{◌≡◌, ℕ, List, ◌++◌, slice_get, codes, Option, None, Some, Result, Ok, Err}
use Rattle.std.specs.Fmt.{decimal}
use Rattle.wt_grid.specs.declared.axis.Axis.{Axis}
use Rattle.wt_grid.specs.declared.axis.Axis.TheVariants.{One, Two}
use Rattle.wt_grid.specs.Axes.{axis_number}
use Rattle.wt_line.specs.declared.faults.What.{What}
use Rattle.wt_text.specs.Words.{value_from}
use Rattle.wt_text.specs.Lines.{lines}
use Rattle.wt_text.specs.Readers.{TextFault, both_parts, whole_text}
use Rattle.wt_tile.specs.declared.tile.Tile.{Tile}
use Rattle.wt_tile.specs.declared.tile.TileList.{TileList}
use Rattle.wt_tile.specs.Sets.{set_fault}
use Rattle.wt_step.specs.declared.raw.RawStep.{RawStep}
use Rattle.wt_step.specs.declared.raw.RawLink.{RawLink}
use Rattle.wt_step.specs.declared.raw.RawLink.TheVariants.{Marker, Restrict}
use Rattle.wt_chain.specs.declared.raw.RawChain.{RawChain}
use Rattle.wt_cert.specs.Parts.{cert_part}
use Rattle.wt_torus.specs.declared.partition.Partition.{Partition}
use Rattle.wt_markov.specs.declared.fault.MarkovFault.{MarkovFault}
use Rattle.wt_markov.specs.declared.fault.MarkovFault.TheVariants as pairs
use Rattle.wt_markov.specs.declared.fault.WindowFault.{WindowFault}
use Rattle.wt_markov.specs.declared.fault.WindowFault.TheVariants as window
use Rattle.wt_markov.specs.Faults.{markov_fault, pair_count}
use Rattle.wt_markov.specs.WindowFaults.{window_fault}
use Rattle.wt_script.specs.declared.torus.RawTorus.{RawTorus}
use Rattle.wt_script.specs.TorusText.{plain_torus_part}
use Rattle.wt_session.specs.declared.partitions.PartitionFault.{PartitionFault}
use Rattle.wt_session.specs.Partitions.{partition_of}
use Rattle.wt_session.specs.Torus.{torus_fault_text}
use Rattle.wt_program.specs.declared.reply.Reply.{Reply}
use Rattle.wt_program.specs.declared.reply.Reply.TheVariants.{Answered, Refused, Limit}
use Rattle.wt_program.specs.Faults.{fault_reply}
use Rattle.wt_program.specs.Checks.{judged, reply_or}
use Rattle.wt_program.specs.Desubs.{step_text}
use Rattle.wt_program.specs.SetTexts.{set_part, IsListReply}

-- the set and the torus that the bytes say, or the first fault of the text
abbrev pub set_and_torus : List ℕ → Result (TileList × RawTorus) (TextFault What)
set_and_torus bytes = whole_text (both_parts set_part plain_torus_part) (lines bytes)

-- the chain and the torus that the bytes say, or the first fault of the text
abbrev pub chain_and_torus : List ℕ → Result (RawChain × RawTorus) (TextFault What)
chain_and_torus bytes = whole_text (both_parts cert_part plain_torus_part) (lines bytes)

-- how many pairs of regions can follow each other, along axis 1 and along axis 2
abbrev pub pairs_text : ℕ → ℕ → List ℕ
pairs_text h v = codes "pairs " ++ (decimal h ++ (codes " " ++ (decimal v ++ codes "\n")))

-- the same, and that the markers of a step are the labels beyond the window
abbrev pub window_text : ℕ → ℕ → List ℕ
window_text h v = codes "pairs " ++ (decimal h ++ (codes " " ++ (decimal v ++ codes "\nwindow\n")))

-- two regions, the second of which can follow the first, whose labels don't match
abbrev pub pair_text : Axis → ℕ → ℕ → List ℕ
pair_text axis i j =
    codes "refused pair axis " ++ (decimal (axis_number axis) ++ (codes " regions " ++ (decimal i ++ (codes " " ++ (decimal j ++ codes "\n")))))

-- a region, and a word for what is wrong with it
abbrev pub region_text : ℕ → List ℕ → List ℕ
region_text i word = codes "refused region " ++ (decimal i ++ (codes " " ++ (word ++ codes "\n")))

-- a marker that labels no region beyond the window
abbrev pub marker_text : ℕ → List ℕ
marker_text a = codes "refused marker " ++ (decimal a ++ codes "\n")

-- a golden number out of limit
abbrev pub golden_limit : Reply
golden_limit = Limit (codes "limit golden\n")

-- the first fault of a partition over a set
abbrev pub pairs_refusal : MarkovFault → Reply
pairs_refusal (pairs.Tile i) = Refused (region_text i (codes "tile"))
pairs_refusal pairs.TooLarge = golden_limit
pairs_refusal (pairs.Pair axis i j) = Refused (pair_text axis i j)

-- the first fault of its window for a step
abbrev pub window_refusal : WindowFault → Reply
window_refusal window.Side = Refused (codes "refused side\n")
window_refusal window.Half = Refused (codes "refused half\n")
window_refusal window.TooLarge = golden_limit
window_refusal (window.Outside i) = Refused (region_text i (codes "outside"))
window_refusal (window.Inside i) = Refused (region_text i (codes "inside"))
window_refusal (window.Nowhere a) = Refused (marker_text a)

-- a partition over a set: its pairs, or its first fault
abbrev pub pairs_reply : Partition → Option MarkovFault → Reply
pairs_reply p None = Answered (pairs_text (pair_count One p) (pair_count Two p))
pairs_reply p (Some fault) = pairs_refusal fault

-- a partition whose labels match: its pairs and its window for a step, or the first fault of that
abbrev pub window_reply : Partition → Option WindowFault → Reply
window_reply p None = Answered (window_text (pair_count One p) (pair_count Two p))
window_reply p (Some fault) = window_refusal fault

-- a partition over the fine set of a step: the first fault of its labels, or the reply on its window
abbrev pub marked_reply : RawStep → Partition → Option MarkovFault → Reply
marked_reply s p None = window_reply p (window_fault s p)
marked_reply s p (Some fault) = pairs_refusal fault

-- the marker step that is asked for, or that there is none of this number
abbrev pub link_reply : List ℕ → Partition → Option RawLink → Reply
link_reply step p None = Refused (step_text step)
link_reply step p (Some (Restrict s)) = Refused (step_text step)
link_reply step p (Some (Marker s)) = marked_reply s p (markov_fault s.fine.tiles p)

-- what is replied to the partition that a torus makes, or the refusal of one that makes none
abbrev pub made_reply : (Partition → Reply) → Result Partition PartitionFault → Reply
made_reply answer (Ok p) = answer p
made_reply answer (Err fault) = Refused (torus_fault_text fault)

-- the reply to a torus over the tiles of a set
abbrev pub codes_reply : RawTorus → List Tile → Reply
codes_reply torus ts = made_reply (λ p. pairs_reply p (markov_fault ts p)) (partition_of torus.sides torus.regions)

-- the reply to a torus for a step of a good chain
abbrev pub markers_reply : List ℕ → RawTorus → RawChain → Reply
markers_reply step torus c = made_reply (λ p. link_reply step p (slice_get c.steps (value_from 0 step))) (partition_of torus.sides torus.regions)

-- the reply to a text with a set: its first fault, or the refusal of a list that is no set, or the reply to its torus
abbrev pub IsReadTorusReply : Result (TileList × RawTorus) (TextFault What) → Reply → Type 0
IsReadTorusReply (Err fault) reply = reply ≡ fault_reply fault
IsReadTorusReply (Ok x) reply = IsListReply (λ ts r. r ≡ codes_reply x.1 ts) x.0 (set_fault x.0) reply

-- The reply of `markov`. The refusals in their order: the text's first fault, a set without tiles, two tiles alike, sides and moves that make no torus, the
-- first numbers that make no half-plane, the first region whose label is no tile, the first pair of regions whose labels don't match or where a number is out
-- of limit.
abbrev pub IsMarkovReply : List ℕ → Reply → Type 0
IsMarkovReply bytes reply = IsReadTorusReply (set_and_torus bytes) reply

-- the reply to a text with a certificate: its first fault, or the chain's first failing condition, or the reply to its torus
abbrev pub read_reply : List ℕ → Result (RawChain × RawTorus) (TextFault What) → Reply
read_reply step (Err fault) = fault_reply fault
read_reply step (Ok x) = reply_or (markers_reply step x.1) (judged x.0)

-- The reply of `markov K`. The refusals in their order: the text's first fault, the first failing condition of the chain, sides and moves that make no torus,
-- the first numbers that make no half-plane, a step past the last or a restrict step, those of `markov` over its fine set, and those of its window.
abbrev pub markov_step_reply : List ℕ → List ℕ → Reply
markov_step_reply step bytes = read_reply step (chain_and_torus bytes)
