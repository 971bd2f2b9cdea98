use Rattle.std.proofs.Common.{arith}
use Rattle.std.proofs.lemmas.Int.{ints}
use Rattle.wt_golden.specs.Wide.{number}
use Rattle.wt_plane.proofs.Shifts.{three_from}
use Rattle.wt_plane.proofs.plane.moved_constant.Goals as goal

pub returns : goal.returns
returns c = three_from (number c.args.r) (number c.args.first) (number c.args.second) _ _ (omega (arith, ints)) (omega (arith, ints))
