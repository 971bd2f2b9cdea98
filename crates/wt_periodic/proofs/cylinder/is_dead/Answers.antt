use Rattle.std.proofs.Common.{arith, ◌≡◌, ◌*◌, ◌∙◌, sym, refl, take, length}
use Rattle.std.proofs.lemmas.List.{length-take-le}
use Rattle.wt_periodic.proofs.Cylinders.{dead}
use Rattle.wt_periodic.proofs.Searching.{some_of}
use Rattle.wt_periodic.proofs.cylinder.is_dead.Goals as goal

pub returns : goal.returns
returns c = λ e.
    let s = some_of c.stack.result (sym c.is_some.ensures ∙ e) in
    let size : length (take (c.args.width * 64) c.args.cells.now) ≡ c.args.width * 64 = length-take-le (c.args.width * 64) c.args.cells.now (omega arith) in
    dead c.args.along.now.tiles.now c.args.along.now.axis c.args.width (length (take (c.args.width * 64) c.args.cells.now)) c.requires.wide (omega arith) (λ g p. c.stack.ensures.none s.0 s.1 g p refl)
