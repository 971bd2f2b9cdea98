use Rattle.std.proofs.Common.{◌≡◌, ◌∙◌}
use Rattle.wt_chain.proofs.Grown.{growth_is_fault}
use Rattle.wt_chain.proofs.growth.fault_after.Goals as goal

pub returns : goal.returns
returns c =
    let same = growth_is_fault c.args.links.now c.args.renaming.now c.args.turns c.requires.closed in
    let found = c.first_small.ensures in
    let wide = c.requires.widths in
    let high = c.requires.heights in
    let count = c.requires.counted in
    rw count (found ∙ rw (wide, high, count) same)
