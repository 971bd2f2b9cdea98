use Rattle.std.proofs.Common.{ℕ, List}
use Rattle.wt_window.specs.Frames.{Stand, IsTiled}
use Rattle.wt_window.proofs.carry.propagate.Given as goal

abbrev pub invariant-steps : goal.invariant-steps
invariant-steps l = (g : List ℕ) → IsTiled l.tables.tiles.now l.frame.width l.frame.height g → Stand l.fn.masks g → Stand l.masks g
