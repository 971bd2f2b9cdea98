-- Trees of a certificate, written in a line.
use Rattle.std.specs.Prelude.{◌≡◌, ℕ, zero, suc, ◌+◌, ◌≤◌, ◌<◌, ◌^◌, ◌-◌, min, Bool, true, false, ◌&&◌, nat_le, nat_lt, if◌then◌else◌, List, [], ◌∷◌, ◌++◌, Option, None, Some, Result, Ok, Err, codes, option_map}
use Rattle.wt_grid.specs.declared.axis.Axis.TheVariants.{One, Two}
use Rattle.wt_grid.specs.declared.axis.Axis.{Axis}
use Rattle.std.specs.Str.{bytes_eq}
use Rattle.std.specs.Fmt.{decimal}
use Rattle.wt_line.specs.declared.faults.What.{What}
use Rattle.wt_line.specs.declared.faults.What.TheVariants.{Tiles, Nodes, Depth, Number}
use Rattle.wt_text.specs.Words.{number, is_decimal}
use Rattle.wt_text.specs.Readers.{◌then◌, LineFault, wrong, past}
use Rattle.wt_refute.specs.Refutation.{Refutation, Branches, branch, cite, no_more, more, node_count, branch_count}
use Rattle.wt_grid.specs.declared.limits.TheConstants.{MAX_TILES}

-- how a citing node names its axis
abbrev pub axis_word : Axis → List ℕ
axis_word One = codes "c1"
axis_word Two = codes "c2"

-- how a tree is written, node by node, parents first: the cell, and then the number of children and for each child its tile and its own tree, or the axis that a citing node names
abbrev mutual
  pub tree_spelling : Refutation → List (List ℕ)
  tree_spelling (branch cell branches) = decimal cell ∷ decimal (branch_count branches) ∷ branches_spelling branches
  tree_spelling (cite cell axis) = decimal cell ∷ axis_word axis ∷ []

  pub branches_spelling : Branches → List (List ℕ)
  branches_spelling no_more = []
  branches_spelling (more tile tree others) = decimal tile ∷ (tree_spelling tree ++ branches_spelling others)

-- what stands behind a cell: a number of children, or where trees may cite, the axis of a citing node
pub data Ending : Type 0 where
  children : ℕ → Ending
  cites : Axis → Ending

-- the token after a cell, read as one of these
abbrev pub ending : Bool → List ℕ → Option Ending
ending citing t = if citing && bytes_eq t (codes "c1") then Some (cites One) else if citing && bytes_eq t (codes "c2") then Some (cites Two) else option_map children (number t)

-- there is such an ending
abbrev pub is_ending : Option Ending → Bool
is_ending None = false
is_ending (Some e) = true

-- the children that are to come
abbrev pub owed_by : Option Ending → ℕ
owed_by None = 0
owed_by (Some (children n)) = n
owed_by (Some (cites axis)) = 0

-- what is owed, saturating at the last value of u64
abbrev pub held_owed : Option Ending → Option ℕ
held_owed None = None
held_owed (Some (children n)) = Some (min n (2 ^ 64 - 1))
held_owed (Some (cites axis)) = Some 0

-- ---- the form: each node owes its children, and a line ends where nothing is owed

-- the tokens are these many children, each with a tile and a tree, and no more
abbrev pub is_forest : Bool → ℕ → List (List ℕ) → Bool
is_forest citing zero [] = true
is_forest citing zero (t ∷ ts) = false
is_forest citing (suc n) (tile ∷ cell ∷ count ∷ ts) = (is_decimal tile && is_decimal cell && is_ending (ending citing count)) && is_forest citing (n + owed_by (ending citing count)) ts
is_forest citing (suc n) ts = false

-- no number of children from 1 on stands here
abbrev pub IsNoForest : Bool → List (List ℕ) → Type 0
IsNoForest citing ts = (n : ℕ) → is_forest citing (suc n) ts ≡ false

-- the first child of these owes n, and the rest follows it
abbrev pub IsForestOf : Bool → List (List ℕ) → ℕ → List (List ℕ) → Type 0
IsForestOf citing ts owed rest = (n : ℕ) → is_forest citing (suc n) ts ≡ is_forest citing (n + owed) rest

-- the tokens are one tree
abbrev pub is_tree : Bool → List (List ℕ) → Bool
is_tree citing (cell ∷ count ∷ ts) = (is_decimal cell && is_ending (ending citing count)) && is_forest citing (owed_by (ending citing count)) ts
is_tree citing ts = false

-- ---- the limits, from left to right

-- a number of at most this size, else the limit that it passes
abbrev pub limited : ℕ → What → Option ℕ → Result ℕ (LineFault What)
limited most what None = Err wrong
limited most what (Some n) = if nat_le n most then Ok n else Err (past what)

-- a cell's number, where n nodes came before
abbrev pub cell_in : ℕ → List ℕ → Result ℕ (LineFault What)
cell_in nodes t = if nat_lt nodes 1048576 then limited 65535 Number (number t) else Err (past Nodes)

-- at most 256 children
abbrev pub ending_in : Option Ending → Result Ending (LineFault What)
ending_in None = Err wrong
ending_in (Some (children n)) = if nat_le n MAX_TILES then Ok (children n) else Err (past Tiles)
ending_in (Some (cites axis)) = Ok (cites axis)

-- the number of a tile, and the tokens behind it
abbrev pub tile_left : List (List ℕ) → Result (ℕ × List (List ℕ)) (LineFault What)
tile_left [] = Err wrong
tile_left (tile ∷ ts) = limited 65535 Number (number tile) then λ t. Ok (t, ts)

-- the cell of a node, where n nodes came before, and the tokens behind it, of which there is one
abbrev pub cell_left : ℕ → List (List ℕ) → Result (ℕ × List (List ℕ)) (LineFault What)
cell_left nodes (cell ∷ count ∷ ts) = cell_in nodes cell then λ c. Ok (c, count ∷ ts)
cell_left nodes ts = Err wrong

-- what stands after a cell, and the tokens behind it
abbrev pub ending_left : Bool → List (List ℕ) → Result (Ending × List (List ℕ)) (LineFault What)
ending_left citing [] = Err wrong
ending_left citing (count ∷ ts) = ending_in (ending citing count) then λ e. Ok (e, ts)

-- n branches
abbrev pub branches_in : (ℕ → List (List ℕ) → Result (Refutation × List (List ℕ)) (LineFault What)) → ℕ → ℕ → List (List ℕ) → Result (Branches × List (List ℕ)) (LineFault What)
branches_in read zero nodes ts = Ok (no_more, ts)
branches_in read (suc n) nodes [] = Err wrong
branches_in read (suc n) nodes (tile ∷ ts) = limited 65535 Number (number tile) then λ t. read nodes ts then λ x. branches_in read n (nodes + node_count x.0) x.1 then λ b. Ok (more t x.0 b.0, b.1)

-- the tree of a cell and what stands after it
abbrev pub grown : (ℕ → List (List ℕ) → Result (Refutation × List (List ℕ)) (LineFault What)) → ℕ → ℕ → List (List ℕ) → Ending → Result (Refutation × List (List ℕ)) (LineFault What)
grown read cell nodes ts (cites axis) = Ok (cite cell axis, ts)
grown read cell nodes ts (children n) = branches_in read n nodes ts then λ b. Ok (branch cell b.0, b.1)

-- no level is left
abbrev pub too_deep : ℕ → Result (Refutation × List (List ℕ)) (LineFault What)
too_deep nodes = if nat_lt nodes 1048576 then Err (past Depth) else Err (past Nodes)

-- a tree of at most d levels, where n nodes came before
abbrev pub tree_in : Bool → ℕ → ℕ → List (List ℕ) → Result (Refutation × List (List ℕ)) (LineFault What)
tree_in citing zero nodes ts = too_deep nodes
tree_in citing (suc levels) nodes (cell ∷ count ∷ ts) = cell_in nodes cell then λ c. ending_in (ending citing count) then λ e. grown (tree_in citing levels) c (nodes + 1) ts e
tree_in citing (suc levels) nodes ts = Err wrong

-- the tree, or the limit that it passes; a line whose form is right has one of these
abbrev pub found_tree : Result (Refutation × List (List ℕ)) (LineFault What) → Option (Result Refutation What × List (List ℕ))
found_tree (Ok x) = Some (Ok x.0, x.1)
found_tree (Err (past what)) = Some (Err what, [])
found_tree (Err wrong) = None

-- a tree to the end of the line: its form first, and then its limits, where a tree has at most 90 levels and n nodes came before
unfoldable pub tree_to_end : Bool → ℕ → List (List ℕ) → Option (Result Refutation What × List (List ℕ))
tree_to_end citing nodes ts = if is_tree citing ts then found_tree (tree_in citing 90 nodes ts) else None

-- trees within the limits: at most d levels, and at most 1,048,576 nodes with those that came before
abbrev mutual
  pub IsWritableTree : Bool → ℕ → ℕ → Refutation → Type 0
  IsWritableTree citing zero nodes tree = ⊥
  IsWritableTree citing (suc levels) nodes (branch cell branches) = (nodes < 1048576) × (cell ≤ 65535) × (branch_count branches ≤ MAX_TILES) × AreWritableBranches citing levels (nodes + 1) branches
  IsWritableTree citing (suc levels) nodes (cite cell axis) = (nodes < 1048576) × (cell ≤ 65535) × (citing ≡ true)

  pub AreWritableBranches : Bool → ℕ → ℕ → Branches → Type 0
  AreWritableBranches citing levels nodes no_more = Unit {0}
  AreWritableBranches citing levels nodes (more tile tree others) = (tile ≤ 65535) × IsWritableTree citing levels nodes tree × AreWritableBranches citing levels (nodes + node_count tree) others
