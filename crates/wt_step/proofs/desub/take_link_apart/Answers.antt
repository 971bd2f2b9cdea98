use Rattle.wt_step.proofs.Goodness.{good_step}
use Rattle.wt_step.proofs.Restricted.{good_restrict}
use Rattle.wt_step.proofs.desub.take_link_apart.Goals as goal

pub take_apart-requires-clause-good : goal.take_apart-requires-clause-good
take_apart-requires-clause-good c = good_step c.in-Marker.step.raw.now c.in-Marker.step.good

pub keep-requires-clause-good : goal.keep-requires-clause-good
keep-requires-clause-good c = good_restrict c.in-Restrict.step.raw.now c.in-Restrict.step.good
