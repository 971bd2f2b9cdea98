use Rattle.std.proofs.Common.{arith, ◌≡◌, ◌/◌, ℕ, List, ap, ◌∙◌, subst}
use Rattle.wt_strip.specs.Listed.{rows_in, IsUpon, IsLayer, HasMore}
use Rattle.wt_strip.specs.Merged.{IsUponSome, AreInOrder}
use Rattle.wt_strip.proofs.Nexts.{layer_same, more_same}
use Rattle.wt_strip.proofs.Led.{none_above, led_same, some_ordered}
use Rattle.wt_strip.proofs.upon.next_layer.Goals as goal

pub returns-then-count-eq0 : goal.returns-then-count-eq0
returns-then-count-eq0 c =
    let rows : c.len.result / c.args.w ≡ rows_in c.args.w c.in_ok-leads.leads.items = ap (λ (k : ℕ). k / c.args.w) (c.len.ensures ∙ c.in_ok-leads.leads.ok.0) in
    let none = c.if-count-eq0.true in
    none_above c.args.sides.now.tiles.now c.args.w c.args.below.now c.in_ok-leads.leads.items c.new.result.items c.requires.wide c.new.ensures.items (omega (arith, rows, none)) (c.in_ok-leads.ensures {u = tt}).all

pub rows_upon-requires-clause-some : goal.rows_upon-requires-clause-some
rows_upon-requires-clause-some c =
    let rows : c.len-2.result / c.args.w ≡ rows_in c.args.w c.in_ok-leads-2.leads.items = ap (λ (k : ℕ). k / c.args.w) (c.len-2.ensures ∙ c.in_ok-leads-2.leads.ok.0) in
    let some = some_ordered c.args.w c.deref.result.now (c.len.result / c.args.w) c.in_ok-leads-2.leads.items c.if-count-eq0.false (c.in_ok-leads-2.ensures {u = tt}) in
    omega (arith, rows, some)

pub returns-in_default : goal.returns-in_default
returns-in_default c =
    let rows : c.len.result / c.args.w ≡ rows_in c.args.w c.in_ok-leads.leads.items = ap (λ (k : ℕ). k / c.args.w) (c.len.ensures ∙ c.in_ok-leads.leads.ok.0) in
    let rows2 : c.len-2.result / c.args.w ≡ rows_in c.args.w c.in_ok-leads-2.leads.items = ap (λ (k : ℕ). k / c.args.w) (c.len-2.ensures ∙ c.in_ok-leads-2.leads.ok.0) in
    let h : HasMore (IsUponSome c.args.sides.now.tiles.now c.args.w c.deref-2.result.now 0 (c.len-2.result / c.args.w)) c.args.w c.args.room = rw c.in_default.is at (c.in_ok-cells.ensures {u = tt}) in
    let o : AreInOrder c.args.w c.in_ok-leads.leads.items 0 (c.len.result / c.args.w) c.in_ok-leads-2.leads.items =
    subst (λ (cs : List ℕ). AreInOrder c.args.w cs 0 (c.len.result / c.args.w) c.in_ok-leads-2.leads.items) c.deref.ensures.value (c.in_ok-leads-2.ensures {u = tt}) in
    more_same (IsUponSome c.args.sides.now.tiles.now c.args.w c.in_ok-leads-2.leads.items 0 (c.len-2.result / c.args.w)) (IsUpon c.args.sides.now.tiles.now c.args.w 1 c.args.below.now) c.args.w c.args.room
    (led_same c.args.sides.now.tiles.now c.args.w c.args.below.now c.in_ok-leads.leads.items c.in_ok-leads-2.leads.items (c.len.result / c.args.w) (c.len-2.result / c.args.w) rows rows2 o (c.in_ok-leads.ensures {u = tt}).upon (c.in_ok-leads.ensures {u = tt}).all)
    (subst (λ (cs : List ℕ). HasMore (IsUponSome c.args.sides.now.tiles.now c.args.w cs 0 (c.len-2.result / c.args.w)) c.args.w c.args.room) c.deref-2.ensures.value h)

pub returns : goal.returns
returns c =
    let rows : c.len.result / c.args.w ≡ rows_in c.args.w c.in_ok-leads.leads.items = ap (λ (k : ℕ). k / c.args.w) (c.len.ensures ∙ c.in_ok-leads.leads.ok.0) in
    let rows2 : c.len-2.result / c.args.w ≡ rows_in c.args.w c.in_ok-leads-2.leads.items = ap (λ (k : ℕ). k / c.args.w) (c.len-2.ensures ∙ c.in_ok-leads-2.leads.ok.0) in
    let h : IsLayer (IsUponSome c.args.sides.now.tiles.now c.args.w c.deref-2.result.now 0 (c.len-2.result / c.args.w)) c.args.w c.in-Some.cells.items = rw c.in-Some.is at (c.in_ok-cells.ensures {u = tt}) in
    let o : AreInOrder c.args.w c.in_ok-leads.leads.items 0 (c.len.result / c.args.w) c.in_ok-leads-2.leads.items =
    subst (λ (cs : List ℕ). AreInOrder c.args.w cs 0 (c.len.result / c.args.w) c.in_ok-leads-2.leads.items) c.deref.ensures.value (c.in_ok-leads-2.ensures {u = tt}) in
    layer_same (IsUponSome c.args.sides.now.tiles.now c.args.w c.in_ok-leads-2.leads.items 0 (c.len-2.result / c.args.w)) (IsUpon c.args.sides.now.tiles.now c.args.w 1 c.args.below.now) c.args.w c.in-Some.cells.items
    (led_same c.args.sides.now.tiles.now c.args.w c.args.below.now c.in_ok-leads.leads.items c.in_ok-leads-2.leads.items (c.len.result / c.args.w) (c.len-2.result / c.args.w) rows rows2 o (c.in_ok-leads.ensures {u = tt}).upon (c.in_ok-leads.ensures {u = tt}).all)
    (subst (λ (cs : List ℕ). IsLayer (IsUponSome c.args.sides.now.tiles.now c.args.w cs 0 (c.len-2.result / c.args.w)) c.args.w c.in-Some.cells.items) c.deref-2.ensures.value h)
