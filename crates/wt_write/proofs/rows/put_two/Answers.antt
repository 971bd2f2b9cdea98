use Rattle.std.proofs.Common.{arith}
use Rattle.wt_write.proofs.Spaces.{two_digits}
use Rattle.wt_write.proofs.rows.put_two.Goals as goal

pub returns-clause-put : goal.returns-clause-put
returns-clause-put c =
    let one = c.put_one-end in
    two_digits one.new.text c.args.text.now c.args.len one.result c.args.number c.requires.large c.requires.small (omega (arith, c.requires.room, one.ensures.few, one.ensures.size)) one.ensures.put
