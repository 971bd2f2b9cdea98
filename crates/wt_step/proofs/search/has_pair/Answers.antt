use Rattle.std.proofs.Common.{◌≡◌, ◌∙◌, ◌++◌, sym}
use Rattle.std.proofs.lemmas.List.{take-append-drop}
use Rattle.wt_grid.proofs.Order.{up, down}
use Rattle.wt_grid.specs.Pairs.{pair_before, is_this_pair}
use Rattle.wt_step.proofs.search.has_pair.Goals as goal

pub loop-front-preserved-then-pair_before : goal.loop-front-preserved-then-pair_before
loop-front-preserved-then-pair_before c =
    let whole : c.split_at.result.0.now ++ c.split_at.result.1.now ≡ c.loop-front.left.now = rw (c.split_at.ensures.front, c.split_at.ensures.back) (take-append-drop _ c.loop-front.left.now) in
    let f = up (pair_before c.args.a c.args.b) (is_this_pair c.args.a c.args.b) c.loop-front.left.now c.split_at.result.0.now c.split_at.result.1.now _ whole c.in-len1-up.len_at_least c.loop-front.invariant.split (sym c.pair_before.ensures ∙ c.if-pair_before.true) in
    record { kept = f.1 ∙ c.loop-front.invariant.kept; split = f.2 }

pub loop-front-preserved : goal.loop-front-preserved
loop-front-preserved c =
    let whole : c.split_at.result.0.now ++ c.split_at.result.1.now ≡ c.loop-front.left.now = rw (c.split_at.ensures.front, c.split_at.ensures.back) (take-append-drop _ c.loop-front.left.now) in
    let f = down (pair_before c.args.a c.args.b) (is_this_pair c.args.a c.args.b) c.loop-front.left.now c.split_at.result.0.now c.split_at.result.1.now _ whole c.in-len1-up.len_at_least c.loop-front.invariant.split (sym c.pair_before.ensures ∙ c.if-pair_before.false) (sym c.is_pair.ensures ∙ c.if-is_pair.false) in
    record { kept = f.1 ∙ c.loop-front.invariant.kept; split = f.2 }
