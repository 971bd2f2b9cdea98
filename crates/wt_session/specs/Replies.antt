-- What a command comes to, before any limit on names and on the text.
use Rattle.std.specs.Prelude.{ℕ, List, ◌++◌, codes, Option, None, Some, Result, Ok, Err}
use Rattle.std.specs.Fmt.{decimal}
use Rattle.wt_tile.specs.declared.tile.TileList.{TileList}
use Rattle.wt_chain.specs.declared.raw.RawChain.{RawChain}
use Rattle.wt_torus.specs.declared.partition.Partition.{Partition}
use Rattle.wt_session.specs.declared.value.Value.{Value}
use Rattle.wt_session.specs.declared.value.Value.TheVariants as value
use Rattle.wt_session.specs.Sheets.{Laid}
use Rattle.wt_session.specs.Names.{Names, find}

-- an answer alone, an answer with a value that a name is bound to, or a status and the line of a refusal
pub data Reply : Type 0 where
  says : List ℕ → Reply
  binds : List ℕ → Value → List ℕ → Reply
  stops : ℕ → List ℕ → Reply

-- a line that begins with `refused`
abbrev pub refused : List ℕ → Reply
refused line = stops 1 line

-- a line that begins with `limit`
abbrev pub limit : List ℕ → Reply
limit line = stops 5 line

-- a line that begins with `spent`
abbrev pub spent : List ℕ → Reply
spent line = stops 6 line

-- a number that is no tile of a set
abbrev pub no_tile_text : ℕ → List ℕ
no_tile_text t = codes "refused tile " ++ (decimal t ++ codes "\n")

-- the refusal of such a number
abbrev pub no_tile : ℕ → Reply
no_tile t = refused (no_tile_text t)

-- a chain without a loop, where one is asked for
abbrev pub open_chain : Reply
open_chain = refused (codes "refused open chain\n")

-- a name that isn't bound
abbrev pub unknown : List ℕ → Reply
unknown n = refused (codes "refused unknown " ++ (n ++ codes "\n"))

-- a name that is bound to a value of another kind
abbrev pub wrong_kind : List ℕ → Reply
wrong_kind n = refused (codes "refused kind " ++ (n ++ codes "\n"))

-- ---- what a name is bound to, or why it can't be taken so

-- any value
abbrev pub value_in : List ℕ → Option Value → Result Value Reply
value_in n None = Err (unknown n)
value_in n (Some v) = Ok v

-- a set
abbrev pub set_in : List ℕ → Option Value → Result TileList Reply
set_in n None = Err (unknown n)
set_in n (Some (value.Set set)) = Ok set
set_in n (Some (value.Pattern p)) = Err (wrong_kind n)
set_in n (Some (value.Chain c)) = Err (wrong_kind n)
set_in n (Some (value.Partition p)) = Err (wrong_kind n)

-- a pattern
abbrev pub pattern_in : List ℕ → Option Value → Result Laid Reply
pattern_in n None = Err (unknown n)
pattern_in n (Some (value.Set set)) = Err (wrong_kind n)
pattern_in n (Some (value.Pattern p)) = Ok p
pattern_in n (Some (value.Chain c)) = Err (wrong_kind n)
pattern_in n (Some (value.Partition p)) = Err (wrong_kind n)

-- a chain
abbrev pub chain_in : List ℕ → Option Value → Result RawChain Reply
chain_in n None = Err (unknown n)
chain_in n (Some (value.Set set)) = Err (wrong_kind n)
chain_in n (Some (value.Pattern p)) = Err (wrong_kind n)
chain_in n (Some (value.Chain c)) = Ok c
chain_in n (Some (value.Partition p)) = Err (wrong_kind n)

-- a partition
abbrev pub partition_in : List ℕ → Option Value → Result Partition Reply
partition_in n None = Err (unknown n)
partition_in n (Some (value.Set set)) = Err (wrong_kind n)
partition_in n (Some (value.Pattern p)) = Err (wrong_kind n)
partition_in n (Some (value.Chain c)) = Err (wrong_kind n)
partition_in n (Some (value.Partition p)) = Ok p

-- the value of a name
abbrev pub value_named : Names → List ℕ → Result Value Reply
value_named names n = value_in n (find n names)

-- the set of a name
abbrev pub set_named : Names → List ℕ → Result TileList Reply
set_named names n = set_in n (find n names)

-- the pattern of a name
abbrev pub pattern_named : Names → List ℕ → Result Laid Reply
pattern_named names n = pattern_in n (find n names)

-- the chain of a name
abbrev pub chain_named : Names → List ℕ → Result RawChain Reply
chain_named names n = chain_in n (find n names)

-- the partition of a name
abbrev pub partition_named : Names → List ℕ → Result Partition Reply
partition_named names n = partition_in n (find n names)
