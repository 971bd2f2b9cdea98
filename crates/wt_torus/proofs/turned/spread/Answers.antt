use Rattle.std.proofs.Common.{arith, ◌^◌}
use Rattle.std.specs.Prelude.{◌*ℤ◌}
use Rattle.wt_golden.specs.Wide.{number}
use Rattle.wt_golden.proofs.Sizes.{times_whole_within}
use Rattle.wt_torus.proofs.turned.spread.Goals as goal

pub returns-clause-small : goal.returns-clause-small
returns-clause-small c = times_whole_within (number c.top.result) (number c.both_bottoms.result) (number c.times.result) (c.args.g.d *ℤ c.args.h.d) (2 ^ 30) (2 ^ 60) (2 ^ 92) c.times.ensures c.both_bottoms.ensures.value c.top.ensures.small c.both_bottoms.ensures.small (omega arith)
