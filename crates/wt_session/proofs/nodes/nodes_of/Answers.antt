use Rattle.std.proofs.Common.{arith, ◌≡◌, ◌+◌, ◌∷◌, suc, drop, min, sym, ◌∙◌, ap}
use Rattle.std.proofs.Math.Seq.{drop-cons}
use Rattle.wt_chain.specs.Limits.{nodes_through}
use Rattle.wt_session.proofs.Counted.{counted_link}
use Rattle.wt_session.proofs.nodes.nodes_of.Goals as goal

pub loop-link-preserved : goal.loop-link-preserved
loop-link-preserved c =
    let i = c.loop-link.link-index in
    let one : i + 1 ≡ suc i = omega arith in
    let all : drop i c.args.links.now ≡ c.link-item.result ∷ drop (i + 1) c.args.links.now =
    drop-cons c.args.links.now i c.link-item.result c.loop-link-test.true
    ∙ (ap (λ x. x ∷ drop (suc i) c.args.links.now) (sym c.link-item.is) ∙ ap (λ k. c.link-item.result ∷ drop k c.args.links.now) (sym one)) in
    record {
      few = omega (arith, c.with_link-sum.ensures);
      left = counted_link 1048577 c.loop-link.sum c.with_link-sum.result (min (nodes_through 0 c.args.links.now) 1048577) c.link-item.result (drop (i + 1) c.args.links.now) c.with_link-sum.ensures
          (ap (λ xs. min (nodes_through c.loop-link.sum xs) 1048577) (sym all) ∙ c.loop-link.invariant.left);
    }
