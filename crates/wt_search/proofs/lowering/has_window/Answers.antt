use Rattle.wt_search.proofs.Lightened.{some_found, none_found}
use Rattle.wt_search.proofs.lowering.has_window.Goals as goal

pub returns-in-Ok-Some-clause-value : goal.returns-in-Ok-Some-clause-value
returns-in-Ok-Some-clause-value c =
    some_found c.args.set.list.now.tiles c.args.round.axis c.args.pair.0 c.args.pair.1 c.args.round.radius c.args.round.budget c.in-Ok-Some.field-0 c.in-Ok-Some.field-0-0 c.in-Ok-Some.field-0-is (c.in-Ok-Some.ensures {u = tt}) c.requires.pair.fits

pub returns-in-Ok-None-clause-value : goal.returns-in-Ok-None-clause-value
returns-in-Ok-None-clause-value c =
    none_found c.args.set.list.now.tiles c.args.round.axis c.args.pair.0 c.args.pair.1 c.args.round.radius c.args.round.budget c.in-Ok-None.field-0 c.in-Ok-None.field-0-is (c.in-Ok-None.ensures {u = tt}) c.requires.pair.fits
