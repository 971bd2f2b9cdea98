use Rattle.std.proofs.Common.{◌∙◌}
use Rattle.wt_markov.proofs.Edged.{window_is}
use Rattle.wt_markov.proofs.window.window_fault_at.Goals as goal

pub returns : goal.returns
returns c =
    c.label_fault.ensures
    ∙ window_is c.args.raw.now c.args.p.now c.args.i c.args.edges.now c.requires.edges c.requires.fit c.region-q.result.now c.region-q.ensures
    c.meets_side-beyond.result c.meets_side-inside.result c.is_marker-marked.result c.meets_side-beyond.ensures c.meets_side-inside.ensures c.is_marker-marked.ensures
