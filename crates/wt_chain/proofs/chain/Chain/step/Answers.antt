use Rattle.std.proofs.Common.{◌≡◌, ◌<◌, length, get_or, slice_get, Some, refl}
use Rattle.std.proofs.lemmas.Option.{slice_get_read}
use Rattle.wt_chain.proofs.Good.{run_at}
use Rattle.wt_chain.proofs.Run.{run_from}
use Rattle.wt_chain.proofs.chain.Chain.step.Goals as goal

pub new-requires : goal.new-requires
new-requires c =
    let steps = c.self.inside.steps.items in
    let inside : c.args.k < length steps = rw c.self.view_is c.requires in
    let good = run_at steps c.args.k c.index.result.now (run_from steps c.self.invariant.good) inside in
    cc

pub returns : goal.returns
returns c =
    let link = c.index.result.now in
    let read : link ≡ get_or c.args.self.now c.args.k link = cc in
    let at = slice_get_read c.args.self.now (length c.args.self.now) c.args.k link refl c.requires read in
    cc
