use Rattle.wt_line.specs.Given.{left}
use Rattle.wt_cert.proofs.Heads.{cell_full}
use Rattle.wt_cert.proofs.read.trees.no_room.Goals as goal

pub returns-then-rest : goal.returns-then-rest
returns-then-rest c = cell_full c.args.nodes (left c.args.rest.more c.args.rest.line.now) c.in-Some.field-0-0.now c.in-Some.rest.more c.in-Some.rest.line.now c.requires c.in-Some.ensures.first c.if-rest.true
