use Rattle.std.proofs.Common.{Bool, cond, None, Some, sym, ap, ◌∙◌}
use Rattle.wt_markov.specs.declared.fault.WindowFault.TheVariants.{Nowhere}
use Rattle.wt_markov.proofs.Edged.{nowhere_is}
use Rattle.wt_markov.proofs.window.nowhere_at.Goals as goal

pub returns-then-has_label : goal.returns-then-has_label
returns-then-has_label c =
    ap (λ (b : Bool). cond b None (Some (Nowhere c.args.marker))) (sym c.if-has_label.true)
    ∙ nowhere_is c.args.raw.now c.args.p.now c.args.edges.now c.requires c.args.marker c.as_slice.result.now c.as_slice.ensures c.has_label.result c.has_label.ensures

pub returns-else-has_label : goal.returns-else-has_label
returns-else-has_label c =
    ap (λ (b : Bool). cond b None (Some (Nowhere c.args.marker))) (sym c.if-has_label.false)
    ∙ nowhere_is c.args.raw.now c.args.p.now c.args.edges.now c.requires c.args.marker c.as_slice.result.now c.as_slice.ensures c.has_label.result c.has_label.ensures
