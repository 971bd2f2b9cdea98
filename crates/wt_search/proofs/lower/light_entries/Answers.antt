use Rattle.wt_search.proofs.Lightened.{small_radius, fine_set, radii_end}
use Rattle.wt_search.proofs.lower.light_entries.Goals as goal

pub of-set-requires : goal.of-set-requires
of-set-requires c = fine_set c.args.raw.now c.requires.good

pub lower-requires-clause-radius : goal.lower-requires-clause-radius
lower-requires-clause-radius c = small_radius c.args.raw.now c.requires.good

pub returns-in-Err-clause-end : goal.returns-in-Err-clause-end
returns-in-Err-clause-end c =
    radii_end c.args.step c.args.raw.now c.args.budget c.args.nodes c.args.raw.now.radius c.loop-below.below c.loop-below.lowered.nodes c.in-Err.end
    c.loop-below-test.true c.loop-below.invariant.nodes (c.in-Err.ensures {u = tt}).end
