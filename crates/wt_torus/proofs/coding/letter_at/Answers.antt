use Rattle.std.proofs.Common.{sym}
use Rattle.wt_torus.proofs.Cells.{letter_found}
use Rattle.wt_torus.proofs.coding.letter_at.Goals as goal

pub returns-in-Ok : goal.returns-in-Ok
returns-in-Ok c =
    let e = c.in-Ok.ensures.exact in
    let f = letter_found c.args.p.now c.in-Some.x c.in-Some-y.y c.in-Ok.z c.golden.ensures c.golden-2.ensures e.0 e.1.small in
    rw (c.in-Some.is, c.in-Some-y.is, c.code_point.ensures) (sym f)
