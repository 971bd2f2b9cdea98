use Rattle.std.proofs.Common.{arith, ◌^◌}
use Rattle.wt_golden.specs.Wide.{number}
use Rattle.wt_golden.proofs.Sizes.{minus_within}
use Rattle.wt_induce.proofs.zones.is_above.Goals as goal

pub is_positive-requires : goal.is_positive-requires
is_positive-requires c = minus_within (number c.args.x) (number c.args.y) (number c.minus.result) (2 ^ 92) (2 ^ 92) (2 ^ 120) c.minus.ensures c.requires.x c.requires.y (omega arith)
