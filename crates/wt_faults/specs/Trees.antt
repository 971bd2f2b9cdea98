-- Trees in a line, with no limits: the tree that tokens spell, and its quantities.
use Rattle.std.specs.Prelude.{ℕ, zero, suc, ◌+◌, Bool, List, [], ◌∷◌, ◌++◌, length, Option, None, Some}
use Rattle.wt_grid.specs.declared.limits.TheConstants.{MAX_TILES}
use Rattle.wt_line.specs.declared.limits.TheConstants.{MOST}
use Rattle.wt_line.specs.declared.faults.What.TheVariants.{Tiles, Nodes, Depth, Number}
use Rattle.wt_text.specs.Words.{number}
use Rattle.wt_text.specs.Readers.{◌>>=◌}
use Rattle.wt_refute.specs.declared.limits.TheConstants.{MAX_NODES}
use Rattle.wt_refute.specs.Refutation.{Refutation, Branches, branch, cite, no_more, more, node_count, branch_count}
use Rattle.wt_cert.specs.Trees.{Ending, children, cites, ending}
use Rattle.wt_faults.specs.Grammars.{Quantity}
use Rattle.wt_faults.specs.Forms.{quantity}

-- ---- the tree that tokens spell: its cell and what stands behind it; for each child its tile and its own tree

-- n branches, and the tokens that are left
abbrev pub branches_said : (List (List ℕ) → Option (Refutation × List (List ℕ))) → ℕ → List (List ℕ) → Option (Branches × List (List ℕ))
branches_said read zero ts = Some (no_more, ts)
branches_said read (suc n) [] = None
branches_said read (suc n) (tile ∷ ts) = number tile >>= λ t. read ts >>= λ x. branches_said read n x.1 >>= λ b. Some (more t x.0 b.0, b.1)

-- the tree of a cell, by what stands behind the cell
abbrev pub node_said : (List (List ℕ) → Option (Refutation × List (List ℕ))) → ℕ → Ending → List (List ℕ) → Option (Refutation × List (List ℕ))
node_said read cell (cites axis) ts = Some (cite cell axis, ts)
node_said read cell (children n) ts = branches_said read n ts >>= λ b. Some (branch cell b.0, b.1)

-- a tree of at most n levels, and the tokens that are left
abbrev pub tree_said : Bool → ℕ → List (List ℕ) → Option (Refutation × List (List ℕ))
tree_said citing zero ts = None
tree_said citing (suc levels) (cell ∷ count ∷ ts) = number cell >>= λ c. ending citing count >>= λ e. node_said (tree_said citing levels) c e ts
tree_said citing (suc levels) ts = None

-- ---- its quantities, from left to right

-- a node's, at its cell: how many nodes there are with it, how deep it stands, and the cell's number
abbrev pub node_quantities : ℕ → ℕ → ℕ → List Quantity
node_quantities depth nodes cell = quantity Nodes MAX_NODES (nodes + 1) ∷ quantity Depth 90 depth ∷ quantity Number MOST cell ∷ []

-- those of a tree, at this depth and behind n nodes: a branching node also has the number of its children
abbrev mutual
  pub tree_quantities : ℕ → ℕ → Refutation → List Quantity
  tree_quantities depth nodes (branch cell branches) =
      node_quantities depth nodes cell ++ quantity Tiles MAX_TILES (branch_count branches) ∷ branches_quantities (depth + 1) (nodes + 1) branches
  tree_quantities depth nodes (cite cell axis) = node_quantities depth nodes cell

  pub branches_quantities : ℕ → ℕ → Branches → List Quantity
  branches_quantities depth nodes no_more = []
  branches_quantities depth nodes (more tile tree others) =
      quantity Number MOST tile ∷ (tree_quantities depth nodes tree ++ branches_quantities depth (nodes + node_count tree) others)

-- what was said of a tree, where no token is left
abbrev pub whole_tree : ℕ → Refutation → List (List ℕ) → Option ((Refutation × List Quantity) × List (List ℕ))
whole_tree nodes tree [] = Some ((tree, tree_quantities 1 nodes tree), [])
whole_tree nodes tree (t ∷ ts) = None

-- a tree to the end of the line, behind trees of n nodes; it has no more levels than tokens
abbrev pub a_tree : Bool → ℕ → List (List ℕ) → Option ((Refutation × List Quantity) × List (List ℕ))
a_tree citing nodes ts = tree_said citing (length ts) ts >>= λ x. whole_tree nodes x.0 x.1
