use Rattle.std.proofs.Common.{arith, ◌^◌}
use Rattle.wt_golden.specs.Wide.{number}
use Rattle.wt_golden.proofs.Sizes.{times_whole_within}
use Rattle.wt_induce.specs.Zones.{twice}
use Rattle.wt_induce.proofs.zones.length_side.Goals as goal

pub returns-clause-small : goal.returns-clause-small
returns-clause-small c = times_whole_within (number c.top.result) (number c.twice_bottom.result) (number c.times.result) (twice c.args.step).d (2 ^ 30) (2 ^ 60) (2 ^ 92) c.times.ensures c.twice_bottom.ensures.value c.top.ensures.small c.twice_bottom.ensures.small (omega arith)
