use Rattle.std.proofs.Common.{◌≡◌, ◌∙◌, min}
use Rattle.wt_chain.proofs.Later.{capped}
use Rattle.wt_chain.proofs.growth.growth_fault.Goals as goal

pub returns : goal.returns
returns c =
    let same = capped c.args.links.now c.args.renaming.now c.requires.closed c.args.turns in
    let found = c.fault_after.ensures in
    let few = c.min-few.ensures in
    let count = c.requires.counted in
    rw count (found ∙ rw (few, count) same)
