use Rattle.std.proofs.Common.{List, length, get_or, sym, subst}
use Rattle.wt_tile.specs.declared.tile.Tile.{Tile}
use Rattle.wt_periodic.specs.Cylinders.{IsCylinder}
use Rattle.wt_periodic.proofs.Searching.{in_three}
use Rattle.wt_periodic.proofs.cylinder.may_stack.Goals as goal

pub returns : goal.returns
returns c = λ g p e.
    let p' = subst (λ (ts : List Tile). IsCylinder ts c.args.along.now.axis c.args.width (length c.args.filled.now) g) (sym c.requires.same) p in
    in_three _ _ _ _ _ (c.goes_on-mask.ensures g p e) (c.stacks.ensures c.args.along.now.axis g c.requires.turned p' e) (c.closes.ensures g p e) (c.and_into.ensures (get_or g c.args.at 0)) (c.and_into-2.ensures (get_or g c.args.at 0))
