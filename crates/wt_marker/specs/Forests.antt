-- Trees that are collected, and the count of their nodes.
use Rattle.std.specs.Prelude.{ℕ, ◌+◌, ◌≡◌, ◌≤◌, ◌++◌, List, min}
use Rattle.wt_refute.specs.declared.tree.Refuted.{Refuted}
use Rattle.wt_refute.specs.declared.limits.TheConstants.{MAX_NODES}
use Rattle.wt_marker.specs.declared.forest.Forest.{Forest}

-- n nodes and m more, of which at most one beyond the limit is counted
abbrev pub with_more : ℕ → ℕ → ℕ
with_more nodes more = min (nodes + more) (MAX_NODES + 1)

-- as long as the nodes are within the limit, the forest has got these entries behind those that it had
abbrev pub HasGrownBy : List Refuted → Forest → Forest → Type 0
HasGrownBy entries old new = new.nodes ≤ MAX_NODES → new.entries.items ≡ old.entries.items ++ entries
