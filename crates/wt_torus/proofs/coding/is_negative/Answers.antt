use Rattle.std.proofs.Common.{arith, ◌^◌}
use Rattle.wt_golden.specs.Wide.{number}
use Rattle.wt_golden.proofs.Sizes.{opposite_within}
use Rattle.wt_torus.proofs.coding.is_negative.Goals as goal

pub is_positive-requires : goal.is_positive-requires
is_positive-requires c = opposite_within (number c.args.x) (number c.opposite.result) (2 ^ 30) (2 ^ 120) c.opposite.ensures.value c.requires (omega arith)
