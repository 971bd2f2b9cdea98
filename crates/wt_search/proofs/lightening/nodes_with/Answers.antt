use Rattle.std.proofs.Common.{◌+◌, ◌∙◌, ap, drop, sym}
use Rattle.wt_chain.specs.Limits.{nodes_with_lost}
use Rattle.wt_search.proofs.Nodes.{too_many_lost}
use Rattle.wt_search.proofs.Lightened.{front}
use Rattle.wt_search.proofs.lightening.nodes_with.Goals as goal

pub returns-in-None-clause-value : goal.returns-in-None-clause-value
returns-in-None-clause-value c =
    let f = front c.args.losses.now c.loop-lost.lost-index c.lost-item.result c.loop-lost-test.true c.lost-item.is in
    too_many_lost c.loop-lost.sum c.lost-item.result (drop (c.loop-lost.lost-index + 1) c.args.losses.now) (nodes_with_lost c.args.nodes c.args.losses.now) c.in-None.ensures
    (ap (nodes_with_lost c.loop-lost.sum) (sym f) ∙ c.loop-lost.invariant.left)
