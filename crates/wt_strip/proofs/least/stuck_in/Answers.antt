use Rattle.std.proofs.Common.{arith, ◌-◌, ℕ, suc, List, length, refl, sym, subst}
use Rattle.wt_strip.specs.Layers.{IsInLayer}
use Rattle.wt_strip.specs.Listed.{IsLayer}
use Rattle.wt_strip.specs.Stripped.{CanRise}
use Rattle.wt_strip.proofs.Rises.{skip, keep, done, layer_under, rises_under, stays_under}
use Rattle.wt_strip.proofs.least.stuck_in.Goals.{then-not-misses+in_ok-push_row, else-not-misses}
use Rattle.wt_strip.proofs.least.stuck_in.Goals as goal

pub loop-r-preserved : goal.loop-r-preserved
loop-r-preserved c =
    let i = c.loop-r.invariant.told in
    let layer : IsLayer (IsInLayer c.args.sides.now.tiles.now c.args.w (length c.args.made.now - suc (suc c.args.m))) c.args.w c.as_slice-layer.result.now =
    layer_under c.args.sides.now.tiles.now c.args.w c.args.m (length c.args.made.now - 2 - c.args.m) c.args.made.now c.as_slice-layer.result.now c.index-made-made.result c.requires.made c.requires.inside refl c.as_slice-layer.ensures c.index-made-made.is in
    let here = c.row-p.ensures.cells in
    let inside = layer.lists.right c.loop-r.r c.loop-r-test.true in
    elim c.if-not-misses.branch [
      | then-not-misses+in_ok-push_row w ↦ record {
        told = rw w.stuck-is (keep c.args.sides.now.tiles.now c.args.w (suc c.args.m) c.loop-r.r c.as_slice-layer.result.now c.loop-r.stuck.items layer.sorted.ascending i c.row-p.result.now w.push_row.new.cells.items c.requires.wide c.loop-r-test.true here c.row-p.ensures.long
            (w.in_ok-push_row.ensures {u = tt})
            (subst (λ (q : List ℕ). CanRise c.args.sides.now.tiles.now c.args.w (suc c.args.m) q → ⊥) here
            (stays_under c.args.sides.now.tiles.now c.args.w (length c.args.made.now) c.args.m c.requires.inside c.args.above.now c.row-p.result.now c.allow_upon.new.allowed c.requires.above c.row-p.ensures.long c.allow_upon.ensures (c.misses.ensures.none w.if-not-misses.true))));
      }
      | else-not-misses w ↦ record {
        told = rw w.stuck-is (skip c.args.sides.now.tiles.now c.args.w (suc c.args.m) c.loop-r.r c.as_slice-layer.result.now c.loop-r.stuck.items layer.sorted.ascending i
            (subst (λ (q : List ℕ). CanRise c.args.sides.now.tiles.now c.args.w (suc c.args.m) q) here
            (rises_under c.args.sides.now.tiles.now c.args.w (length c.args.made.now) c.args.m c.requires.inside c.args.above.now c.row-p.result.now c.allow_upon.new.allowed c.requires.above c.row-p.ensures.long c.allow_upon.ensures
            (subst (λ (q : List ℕ). IsInLayer c.args.sides.now.tiles.now c.args.w (length c.args.made.now - suc (suc c.args.m)) q) (sym here) inside)
            (c.misses.ensures.missed w.if-not-misses.false))));
      }
    ]

pub returns : goal.returns
returns c =
    let layer : IsLayer (IsInLayer c.args.sides.now.tiles.now c.args.w (length c.args.made.now - suc (suc c.args.m))) c.args.w c.as_slice-layer.result.now =
    layer_under c.args.sides.now.tiles.now c.args.w c.args.m (length c.args.made.now - 2 - c.args.m) c.args.made.now c.as_slice-layer.result.now c.index-made-made.result c.requires.made c.requires.inside refl c.as_slice-layer.ensures c.index-made-made.is in
    done c.args.sides.now.tiles.now c.args.w (suc c.args.m) c.loop-r.r c.as_slice-layer.result.now c.loop-r.stuck.items (IsInLayer c.args.sides.now.tiles.now c.args.w (length c.args.made.now - suc (suc c.args.m))) (let a = c.loop-r-test.false in omega (arith, a)) layer c.loop-r.invariant.told
