use Rattle.std.proofs.Common.{arith, ◌^◌}
use Rattle.wt_golden.specs.Wide.{number}
use Rattle.wt_golden.proofs.Sizes.{times_whole_within}
use Rattle.wt_induce.proofs.zones.move_side.Goals as goal

pub returns-clause-small : goal.returns-clause-small
returns-clause-small c = times_whole_within (number c.twice_top.result) (number c.bottom.result) (number c.times.result) c.args.length.d (2 ^ 61) (2 ^ 30) (2 ^ 92) c.times.ensures c.bottom.ensures.value c.twice_top.ensures.small c.bottom.ensures.small (omega arith)
