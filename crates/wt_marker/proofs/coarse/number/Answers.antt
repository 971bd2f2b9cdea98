use Rattle.wt_marker.proofs.Numbered.{numbered_place}
use Rattle.wt_marker.proofs.coarse.number.Goals as goal

pub returns-in-Ok-clause-number : goal.returns-in-Ok-clause-number
returns-in-Ok-clause-number c = (numbered_place c.args.colours.now c.number.new.self c.args.edge c.in-Ok.n c.in-Ok.ensures.held c.in-Ok.ensures.added c.in-Ok.ensures.numbering c.in-Ok.ensures.numbered).0

pub returns-in-Ok-clause-seen : goal.returns-in-Ok-clause-seen
returns-in-Ok-clause-seen c = (numbered_place c.args.colours.now c.number.new.self c.args.edge c.in-Ok.n c.in-Ok.ensures.held c.in-Ok.ensures.added c.in-Ok.ensures.numbering c.in-Ok.ensures.numbered).1
