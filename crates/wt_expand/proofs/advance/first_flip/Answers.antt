use Rattle.std.proofs.Common.{◌∙◌}
use Rattle.wt_expand.specs.Counters.{counter_levels, level_of}
use Rattle.wt_expand.proofs.Places.{flip_here, flip_later}
use Rattle.wt_expand.proofs.advance.first_flip.Goals as goal

pub returns-then-flips : goal.returns-then-flips
returns-then-flips c =
    let counter = c.args.counter.now in
    flip_here c.args.direction counter.renaming.now counter.block (counter_levels counter) c.args.space.now c.loop-i.i (level_of c.level.result) c.rest_at.result.now c.flips.result
    c.level.ensures c.rest_at.ensures c.flips.ensures c.if-flips.true ∙ c.loop-i.invariant

pub loop-i-preserved : goal.loop-i-preserved
loop-i-preserved c =
    let counter = c.args.counter.now in
    flip_later c.args.direction counter.renaming.now counter.block (counter_levels counter) c.args.space.now c.loop-i.i (level_of c.level.result) c.rest_at.result.now c.flips.result
    c.level.ensures c.rest_at.ensures c.flips.ensures c.if-flips.false ∙ c.loop-i.invariant
