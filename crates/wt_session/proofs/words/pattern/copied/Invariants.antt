use Rattle.std.proofs.Common.{◌≡◌, ◌*◌, take}
use Rattle.wt_session.proofs.words.pattern.copied.Given as goal

abbrev pub invariant-loop-y : goal.invariant-loop-y
invariant-loop-y l = l.cells.items ≡ take (l.y * l.width) l.p.cells
