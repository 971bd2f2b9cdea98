use Rattle.std.proofs.Common.{arith}
use Rattle.std.proofs.Common.{arith, false}
use Rattle.std.proofs.lemmas.List.FromFn.{fill_by_all}
use Rattle.wt_chain.specs.Tables.{grows, next_table}
use Rattle.wt_chain.proofs.growth.next_table.Goals as goal

pub returns : goal.returns
unfolding next_table
returns c = fill_by_all (grows c.args.axis c.args.link.now c.args.rows.now) c.loop-t.next 256 false c.loop-t.invariant.whole (λ k lt. c.loop-t.invariant.filled k (omega arith))
