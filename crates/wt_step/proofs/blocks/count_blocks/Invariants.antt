use Rattle.std.proofs.Common.{◌≡◌, ◌+◌, ◌-◌, length, false}
use Rattle.wt_step.specs.Blocks.{pairs_at, blocks_in}
use Rattle.wt_step.proofs.blocks.count_blocks.Given as goal

abbrev pub invariant-loop-line : goal.invariant-loop-line
invariant-loop-line l = l.blocks + length (blocks_in (pairs_at l.raw l.p) l.inside l.line (l.end - l.line)) ≡ length (blocks_in (pairs_at l.raw l.p) false l.from (l.end - l.from))
