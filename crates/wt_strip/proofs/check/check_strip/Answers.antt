use Rattle.std.proofs.Common.{arith, ◌≡◌, ◌<◌, ℕ, List, [], slice_index_or, length, ap, ◌∙◌, subst}
use Rattle.wt_strip.specs.Exact.{layer_at}
use Rattle.wt_strip.proofs.Faults.{any_default, step_fault, step_exact, next_below, forbid}
use Rattle.wt_strip.proofs.Skips.{ascending_below}
use Rattle.wt_strip.proofs.check.check_strip.Goals as goal

pub returns-in-Err-clause-fault : goal.returns-in-Err-clause-fault
returns-in-Err-clause-fault c =
    let i = c.loop-n.invariant in
    let here : c.as_slice-cells.result.now ≡ layer_at c.args.layers.now c.loop-n.n = c.as_slice-cells.ensures ∙ c.cells-item.is ∙ any_default c.as_slice-cells-items.result.now c.loop-n.n c.cells-item.result c.loop-n-test.true ∙ ap (λ (ls : List (List ℕ)). slice_index_or ls c.loop-n.n []) c.as_slice-cells-items.ensures in
    step_fault c.args.set.list.now.tiles c.new-sides.result.tiles.now c.args.layers.now c.loop-n.n c.loop-n.below.now c.as_slice-cells.result.now c.in-Err.fault (c.new-sides.ensures ∙ c.tiles.ensures.value) here i.below (subst (λ (ls : List (List ℕ)). c.loop-n.n < length ls) c.as_slice-cells-items.ensures c.loop-n-test.true) i.shaped i.exact (c.in-Err.ensures {u = tt})

pub loop-n-preserved : goal.loop-n-preserved
loop-n-preserved c =
    let i = c.loop-n.invariant in
    let here : c.as_slice-cells.result.now ≡ layer_at c.args.layers.now c.loop-n.n = c.as_slice-cells.ensures ∙ c.cells-item.is ∙ any_default c.as_slice-cells-items.result.now c.loop-n.n c.cells-item.result c.loop-n-test.true ∙ ap (λ (ls : List (List ℕ)). slice_index_or ls c.loop-n.n []) c.as_slice-cells-items.ensures in
    record {
      shaped = i.shaped;
      exact = step_exact c.args.set.list.now.tiles c.new-sides.result.tiles.now c.args.layers.now c.loop-n.n c.loop-n.below.now c.as_slice-cells.result.now (c.new-sides.ensures ∙ c.tiles.ensures.value) here i.below i.exact (c.in_default.ensures {u = tt});
      below = next_below c.args.layers.now c.loop-n.n c.as_slice-cells.result.now here;
    }

pub returns-clause-fault : goal.returns-clause-fault
returns-clause-fault c =
    let i = c.loop-n.invariant in
    record { shape = i.shaped; layers = λ k lt. i.exact k (let a = c.loop-n-test.false in let e = ap length c.as_slice-cells-items.ensures in omega (arith, a, e, lt)) }

pub returns-clause-forbids : goal.returns-clause-forbids
returns-clause-forbids c =
    let i = c.loop-n.invariant in
    λ g. forbid c.args.set.list.now.tiles c.args.layers.now g
    (record { shape = i.shaped; layers = λ k lt. i.exact k (let a = c.loop-n-test.false in let e = ap length c.as_slice-cells-items.ensures in omega (arith, a, e, lt)) })

pub check_layer-requires-clause-ascending : goal.check_layer-requires-clause-ascending
check_layer-requires-clause-ascending c = ascending_below c.args.set.list.now.tiles c.args.layers.now c.loop-n.n c.loop-n.below.now c.loop-n.invariant.shaped c.loop-n.invariant.exact c.loop-n.invariant.below
