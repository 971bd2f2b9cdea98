use Rattle.std.proofs.Common.{◌≡◌, ◌<◌, length, get_or, slice_get, Some, refl}
use Rattle.std.proofs.lemmas.Option.{slice_get_read}
use Rattle.wt_chain.proofs.Good.{step_good}
use Rattle.wt_chain.proofs.accepted.Accepted.step.Goals as goal

pub new-requires : goal.new-requires
new-requires c =
    let inside : c.args.k < length c.self.inside.raw.steps = rw c.self.view_is c.requires in
    let good = step_good c.self.inside.raw c.args.k c.index-as_slice-k.result c.self.invariant inside in
    cc

pub returns : goal.returns
returns c =
    let link = c.index-as_slice-k.result in
    let read : link ≡ get_or c.args.self.now.steps c.args.k link = cc in
    let at = slice_get_read c.args.self.now.steps (length c.args.self.now.steps) c.args.k link refl c.requires read in
    cc
