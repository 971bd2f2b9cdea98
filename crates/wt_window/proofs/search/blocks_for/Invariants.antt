use Rattle.std.proofs.Common.{◌+◌, ◌-◌, length}
use Rattle.wt_window.proofs.search.blocks_for.Given as goal

abbrev pub decreases-growth : goal.decreases-growth
decreases-growth l = l.cells + 1 - length l.blocks.items
