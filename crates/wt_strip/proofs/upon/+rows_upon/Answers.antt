use Rattle.std.proofs.Common.{arith, ◌≡◌, ◌+◌, ◌-◌, ◌/◌, ◌<◌, ℕ, List, subst, ◌∙◌}
use Rattle.wt_strip.specs.Listed.{IsLayer, HasMore}
use Rattle.wt_strip.specs.Merged.{IsUnion, IsUponSome}
use Rattle.wt_strip.proofs.Cells.{middle}
use Rattle.wt_strip.proofs.Nexts.{more_wider, layer_join, more_join}
use Rattle.wt_strip.proofs.upon.+rows_upon.Goals as goal

pub returns-then-high-low-eq1 : goal.returns-then-high-low-eq1
returns-then-high-low-eq1 t c =
    let some = c.requires.some in
    let e : c.args.low + 1 ≡ c.args.high = omega (arith, c.if-high-low-eq1.true, some) in
    rw e at c.rows_upon_one.ensures

pub returns-in_default : goal.returns-in_default
returns-in_default t c =
    let m = middle c.args.low c.args.high c.requires.some in
    let h : HasMore (IsUponSome c.args.sides.now.tiles.now c.args.w c.args.below.now c.args.low (c.args.low + (c.args.high - c.args.low) / 2)) c.args.w c.args.room = rw c.in_default.is at (c.in_ok-first.ensures {u = tt}) in
    more_wider c.args.sides.now.tiles.now c.args.w c.args.below.now c.args.low (c.args.low + (c.args.high - c.args.low) / 2) c.args.low c.args.high c.args.room (omega arith) (omega (arith, m.1)) h

pub returns-in_default-2 : goal.returns-in_default-2
returns-in_default-2 t c =
    let m = middle c.args.low c.args.high c.requires.some in
    let h : HasMore (IsUponSome c.args.sides.now.tiles.now c.args.w c.args.below.now (c.args.low + (c.args.high - c.args.low) / 2) c.args.high) c.args.w c.args.room = rw c.in_default-2.is at (c.in_ok-second.ensures {u = tt}) in
    more_wider c.args.sides.now.tiles.now c.args.w c.args.below.now (c.args.low + (c.args.high - c.args.low) / 2) c.args.high c.args.low c.args.high c.args.room m.0 (omega arith) h

pub returns-then-len-w : goal.returns-then-len-w
returns-then-len-w t c =
    let m = middle c.args.low c.args.high c.requires.some in
    let a : IsLayer (IsUponSome c.args.sides.now.tiles.now c.args.w c.args.below.now c.args.low (c.args.low + (c.args.high - c.args.low) / 2)) c.args.w c.in-Some.first.items = rw c.in-Some.is at (c.in_ok-first.ensures {u = tt}) in
    let b : IsLayer (IsUponSome c.args.sides.now.tiles.now c.args.w c.args.below.now (c.args.low + (c.args.high - c.args.low) / 2) c.args.high) c.args.w c.in-Some-2.second.items = rw c.in-Some-2.is at (c.in_ok-second.ensures {u = tt}) in
    let u : IsUnion c.args.w c.in-Some.first.items c.in-Some-2.second.items c.in_ok-cells.cells.items =
    subst (λ (y : List ℕ). IsUnion c.args.w c.in-Some.first.items y c.in_ok-cells.cells.items) c.deref-2.ensures.value
    (subst (λ (x : List ℕ). IsUnion c.args.w x c.deref-2.result.now c.in_ok-cells.cells.items) c.deref.ensures.value (c.in_ok-cells.ensures {u = tt})) in
    let n = c.len.ensures in
    let more = c.if-len-w.true in
    more_join c.args.sides.now.tiles.now c.args.w c.args.below.now c.args.low (c.args.low + (c.args.high - c.args.low) / 2) c.args.high c.args.room c.in-Some.first.items c.in-Some-2.second.items c.in_ok-cells.cells.items m.0 (omega (arith, m.1)) a b u (subst (λ (k : ℕ). c.args.room < k / c.args.w) (n ∙ c.in_ok-cells.cells.ok.0) more)

pub returns : goal.returns
returns t c =
    let m = middle c.args.low c.args.high c.requires.some in
    let a : IsLayer (IsUponSome c.args.sides.now.tiles.now c.args.w c.args.below.now c.args.low (c.args.low + (c.args.high - c.args.low) / 2)) c.args.w c.in-Some.first.items = rw c.in-Some.is at (c.in_ok-first.ensures {u = tt}) in
    let b : IsLayer (IsUponSome c.args.sides.now.tiles.now c.args.w c.args.below.now (c.args.low + (c.args.high - c.args.low) / 2) c.args.high) c.args.w c.in-Some-2.second.items = rw c.in-Some-2.is at (c.in_ok-second.ensures {u = tt}) in
    let u : IsUnion c.args.w c.in-Some.first.items c.in-Some-2.second.items c.in_ok-cells.cells.items =
    subst (λ (y : List ℕ). IsUnion c.args.w c.in-Some.first.items y c.in_ok-cells.cells.items) c.deref-2.ensures.value
    (subst (λ (x : List ℕ). IsUnion c.args.w x c.deref-2.result.now c.in_ok-cells.cells.items) c.deref.ensures.value (c.in_ok-cells.ensures {u = tt})) in
    layer_join c.args.sides.now.tiles.now c.args.w c.args.below.now c.args.low (c.args.low + (c.args.high - c.args.low) / 2) c.args.high c.in-Some.first.items c.in-Some-2.second.items c.in_ok-cells.cells.items m.0 (omega (arith, m.1)) a b u
