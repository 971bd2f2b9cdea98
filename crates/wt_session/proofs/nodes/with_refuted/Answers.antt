use Rattle.std.proofs.Common.{arith, ◌≡◌, ◌+◌, ◌∷◌, suc, drop, min, sym, ◌∙◌, ap}
use Rattle.std.proofs.Math.Seq.{drop-cons}
use Rattle.wt_chain.specs.Limits.{nodes_with}
use Rattle.wt_session.proofs.Counted.{counted}
use Rattle.wt_session.proofs.nodes.with_refuted.Goals as goal

pub loop-entry-preserved : goal.loop-entry-preserved
loop-entry-preserved c =
    let i = c.loop-entry.entry-index in
    let one : i + 1 ≡ suc i = omega arith in
    let all : drop i c.args.refuted.now ≡ c.entry-item.result ∷ drop (i + 1) c.args.refuted.now =
    drop-cons c.args.refuted.now i c.entry-item.result c.loop-entry-test.true
    ∙ (ap (λ x. x ∷ drop (suc i) c.args.refuted.now) (sym c.entry-item.is) ∙ ap (λ k. c.entry-item.result ∷ drop k c.args.refuted.now) (sym one)) in
    record {
      few = omega (arith, c.with_tree-sum.ensures);
      left = counted 1048577 c.loop-entry.sum c.with_tree-sum.result (min (nodes_with c.args.nodes c.args.refuted.now) 1048577) c.entry-item.result (drop (i + 1) c.args.refuted.now) c.with_tree-sum.ensures
          (ap (λ xs. min (nodes_with c.loop-entry.sum xs) 1048577) (sym all) ∙ c.loop-entry.invariant.left);
    }
