use Rattle.std.proofs.Common.{arith, ◌≡◌, ◌-◌, ◌∙◌, List, [], ℕ, length, take, slice_index_or, refl, sym, subst}
use Rattle.std.proofs.lemmas.List.{length-take-le}
use Rattle.wt_grid.specs.Grid.{Grid}
use Rattle.wt_strip.specs.Listed.{row_at}
use Rattle.wt_strip.specs.Stripped.{AreStuckUnder, IsLeastPattern}
use Rattle.wt_strip.proofs.Faults.{any_default}
use Rattle.wt_strip.proofs.Strips.{highest_row}
use Rattle.wt_strip.proofs.Leasts.{IsBegun, is_found, next_begun, whole_pattern}
use Rattle.wt_strip.proofs.least.least_pattern.Goals as goal

pub prove-unreachable-requires : goal.prove-unreachable-requires
prove-unreachable-requires c =
    let h = length c.args.made.now in
    let m = length c.args.made.now - 1 - c.loop-y.y in
    let lt = c.loop-y-test.true in
    let long = (c.in_ok-stuck.ensures {u = tt}).0 in
    let here : c.as_slice.result.now ≡ slice_index_or c.in_ok-stuck.stuck.items m [] = c.as_slice.ensures ∙ (c.index.ensures ∙ any_default c.in_ok-stuck.stuck.items m c.index.result.now (omega (arith, lt, long))) in
    let t = subst (λ (cs : List ℕ). AreStuckUnder c.args.sides.now.tiles.now c.args.w h m cs) (sym here) ((c.in_ok-stuck.ensures {u = tt}).1 m (omega (arith, lt))) in
    is_found c.args.sides.now.tiles.now c.args.w h c.requires.wide c.loop-y.y (take c.args.w c.loop-y.row) c.loop-y.cells.items lt c.loop-y.invariant.begun m refl c.as_slice.result.now t
    (row_at c.args.w (slice_index_or c.args.made.now (length c.args.made.now - 1) []) 0) (highest_row c.args.sides.now.tiles.now c.args.w c.args.made.now c.requires.made c.requires.some) (c.next_row-found.ensures.none c.if-prove.true)

pub loop-y-preserved : goal.loop-y-preserved
loop-y-preserved c =
    let h = length c.args.made.now in
    let m = length c.args.made.now - 1 - c.loop-y.y in
    let lt = c.loop-y-test.true in
    let long = (c.in_ok-stuck.ensures {u = tt}).0 in
    let here : c.as_slice.result.now ≡ slice_index_or c.in_ok-stuck.stuck.items m [] = c.as_slice.ensures ∙ (c.index.ensures ∙ any_default c.in_ok-stuck.stuck.items m c.index.result.now (omega (arith, lt, long))) in
    let t = subst (λ (cs : List ℕ). AreStuckUnder c.args.sides.now.tiles.now c.args.w h m cs) (sym here) ((c.in_ok-stuck.ensures {u = tt}).1 m (omega (arith, lt))) in
    let n = c.next_row-found.ensures in
    let size = n.long in
    let narrow = c.requires.narrow in
    record {
      long = n.long;
      begun = next_begun c.args.sides.now.tiles.now c.args.w h c.requires.wide c.loop-y.y (take c.args.w c.loop-y.row) c.loop-y.cells.items lt c.loop-y.invariant.begun m refl c.as_slice.result.now t
          (take c.args.w c.next_row-found.new.row) c.push_row.new.cells.items (length-take-le c.args.w c.next_row-found.new.row (omega (arith, size, narrow)))
          (n.next c.if-prove.false) (n.missing c.if-prove.false) (c.in_ok-push_row.ensures {u = tt}) (n.first c.if-prove.false);
    }

pub returns : goal.returns
returns c =
    let h = length c.args.made.now in
    let over = c.loop-y-test.false in
    let most = c.loop-y.auto.y-end in
    let e : c.loop-y.y ≡ h = omega (arith, over, most) in
    subst (λ (g : Grid). IsLeastPattern c.args.sides.now.tiles.now c.args.w h g) (sym c.of.ensures)
    (whole_pattern c.args.sides.now.tiles.now c.args.w h c.requires.wide (take c.args.w c.loop-y.row) c.loop-y.cells.items c.requires.some
    (subst (λ (y : ℕ). IsBegun c.args.sides.now.tiles.now c.args.w h y (take c.args.w c.loop-y.row) c.loop-y.cells.items) e c.loop-y.invariant.begun))
