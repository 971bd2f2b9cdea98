use Rattle.std.proofs.Common.{arith}
use Rattle.wt_write.proofs.Spaces.{one_digit}
use Rattle.wt_write.proofs.rows.put_one.Goals as goal

pub returns-clause-put : goal.returns-clause-put
returns-clause-put c = one_digit c.args.text.now c.args.len c.args.number c.requires.small (omega (arith, c.requires.room))
