use Rattle.std.proofs.Common.{arith, ◌≡◌, ◌-◌, get_or}
use Rattle.wt_periodic.proofs.Searching.{agree, looked_up}
use Rattle.wt_periodic.proofs.cylinder.goes_on.Goals as goal

pub returns-then-at-width-gt0 : goal.returns-then-at-width-gt0
returns-then-at-width-gt0 c = λ g p e.
    let q : get_or c.args.filled.now (c.args.at - 1) 0 ≡ get_or g (c.args.at - 1) 0 = agree c.args.filled.now g c.args.at (c.args.at - 1) (omega arith) e in
    looked_up c.deref.result.now c.args.along.now.ahead.items c.mask_of.result _ _ (get_or g c.args.at 0) c.deref.ensures.value q c.mask_of.ensures
    (c.args.along.now.has_ahead (get_or g (c.args.at - 1) 0) (get_or g c.args.at 0) (p.tiles (c.args.at - 1) (omega arith)) (p.tiles c.args.at c.requires.within) (p.along c.args.at c.requires.within c.if-at-width-gt0.true))
