use Rattle.wt_search.proofs.Lightened.{as_step}
use Rattle.wt_search.proofs.lightening.light_link.Goals as goal

pub light_entries-requires-clause-good : goal.light_entries-requires-clause-good
light_entries-requires-clause-good c = as_step c.args.link.now c.in-Marker.raw c.in-Marker.is c.requires.good
