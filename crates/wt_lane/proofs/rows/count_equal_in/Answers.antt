use Rattle.std.proofs.Common.{arith, length-take, length-drop, drop}
use lib.Lanes.{chunk}
use Rattle.wt_lane.proofs.Counts.{lanes_counted}
use Rattle.wt_lane.proofs.rows.count_equal_in.Goals as goal

pub returns : goal.returns
returns c = lanes_counted c.args.value (chunk c.args.at 8 c.args.row.now) (omega (arith, length-take 8 (drop c.args.at c.args.row.now), length-drop c.args.at c.args.row.now))
