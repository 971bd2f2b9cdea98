use Rattle.std.proofs.Common.{arith, ◌≡◌, ◌+◌, ◌-◌, ◌%◌, ◌∙◌, ap, ℕ, get_or}
use Rattle.wt_periodic.proofs.Searching.{agree, looked_up}
use Rattle.wt_periodic.proofs.cylinder.closes.Goals as goal

pub returns : goal.returns
returns c = λ g p e.
    let last : c.args.at % c.args.width + 1 ≡ c.args.width = omega arith in
    let some : c.args.width ≡ 1 → ⊥ = c.if-width-eq1.false in
    let place : c.args.at - (c.args.width - 1) ≡ c.args.at + 1 - c.args.width = omega arith in
    let q : get_or c.args.filled.now (c.args.at - (c.args.width - 1)) 0 ≡ get_or g (c.args.at + 1 - c.args.width) 0 = agree c.args.filled.now g c.args.at (c.args.at - (c.args.width - 1)) (omega arith) e ∙ ap (λ (k : ℕ). get_or g k 0) place in
    looked_up c.deref.result.now c.args.along.now.behind.items c.mask_of.result _ _ (get_or g c.args.at 0) c.deref.ensures.value q c.mask_of.ensures
    (c.args.along.now.has_behind (get_or g (c.args.at + 1 - c.args.width) 0) (get_or g c.args.at 0) (p.tiles (c.args.at + 1 - c.args.width) (omega arith)) (p.tiles c.args.at c.requires.within) (p.close c.args.at c.requires.within last))
