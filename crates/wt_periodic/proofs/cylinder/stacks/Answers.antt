use Rattle.std.proofs.Common.{arith, ◌≡◌, ◌-◌, get_or, sym, subst}
use Rattle.wt_grid.specs.declared.axis.Axis.{Axis}
use Rattle.wt_periodic.specs.Cylinders.{IsPair}
use Rattle.wt_periodic.proofs.Searching.{agree, looked_up}
use Rattle.wt_periodic.proofs.cylinder.stacks.Goals as goal

pub returns-then-width-at : goal.returns-then-width-at
returns-then-width-at c = λ axis g turned p e.
    let q : get_or c.args.filled.now (c.args.at - c.args.width) 0 ≡ get_or g (c.args.at - c.args.width) 0 = agree c.args.filled.now g c.args.at (c.args.at - c.args.width) (omega arith) e in
    let pair : IsPair c.args.across.now.tiles.now c.args.across.now.axis (get_or g (c.args.at - c.args.width) 0) (get_or g c.args.at 0) =
    subst (λ (a : Axis). IsPair c.args.across.now.tiles.now a (get_or g (c.args.at - c.args.width) 0) (get_or g c.args.at 0)) (sym turned) (p.across c.args.at c.requires.within c.if-width-at.true) in
    looked_up c.deref.result.now c.args.across.now.ahead.items c.mask_of.result _ _ (get_or g c.args.at 0) c.deref.ensures.value q c.mask_of.ensures
    (c.args.across.now.has_ahead (get_or g (c.args.at - c.args.width) 0) (get_or g c.args.at 0) (p.tiles (c.args.at - c.args.width) (omega arith)) (p.tiles c.args.at c.requires.within) pair)
