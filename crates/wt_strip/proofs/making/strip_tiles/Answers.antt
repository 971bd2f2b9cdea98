use Rattle.std.proofs.Common.{arith, ◌≡◌, ◌+◌, ◌-◌, ◌/◌, ◌∙◌, ◌++◌, ◌∷◌, List, [], ℕ, length, ap, sym, subst}
use Rattle.wt_grid.specs.Shifts.{fill}
use Rattle.wt_strip.specs.Layers.{IsInLayer}
use Rattle.wt_strip.specs.Listed.{rows_in, IsLayer}
use Rattle.wt_strip.proofs.Strips.{one_made, empty_of}
use Rattle.wt_strip.proofs.making.strip_tiles.Goals as goal

pub returns-then-rows-eq0 : goal.returns-then-rows-eq0
returns-then-rows-eq0 c =
    let i = c.loop-n.invariant in
    let told : IsLayer (IsInLayer c.args.sides.now.tiles.now c.args.w (length c.deref.result.now)) c.args.w c.in-Some.cells.items = rw c.in-Some.is at (c.in_ok-cells.ensures {u = tt}) in
    let layer = subst (λ (ls : List (List ℕ)). IsLayer (IsInLayer c.args.sides.now.tiles.now c.args.w (length ls)) c.args.w c.in-Some.cells.items) c.deref.ensures.value told in
    let rows : c.len.result / c.args.w ≡ rows_in c.args.w c.in-Some.cells.items = ap (λ (k : ℕ). k / c.args.w) (c.len.ensures ∙ c.in-Some.cells.ok.0) in
    empty_of c.args.sides.now.tiles.now c.args.w c.requires.wide c.loop-n.made.items c.new-then-rows-eq0.result c.in-Some.cells.items c.loop-n.n c.args.limit c.requires.narrow c.requires.low c.loop-n-test.true i.count i.filled layer (sym rows ∙ c.if-rows-eq0.true)
    (c.new-then-rows-eq0.ensures ∙ (c.in_ok-push.ensures.items ∙ ap (λ (v : List ℕ). c.loop-n.made.items ++ v ∷ []) c.new.ensures))

pub loop-n-preserved : goal.loop-n-preserved
loop-n-preserved c =
    let i = c.loop-n.invariant in
    let told : IsLayer (IsInLayer c.args.sides.now.tiles.now c.args.w (length c.deref.result.now)) c.args.w c.in-Some.cells.items = rw c.in-Some.is at (c.in_ok-cells.ensures {u = tt}) in
    let layer = subst (λ (ls : List (List ℕ)). IsLayer (IsInLayer c.args.sides.now.tiles.now c.args.w (length ls)) c.args.w c.in-Some.cells.items) c.deref.ensures.value told in
    let rows : c.len.result / c.args.w ≡ rows_in c.args.w c.in-Some.cells.items = ap (λ (k : ℕ). k / c.args.w) (c.len.ensures ∙ c.in-Some.cells.ok.0) in
    let few = c.if-rows-room.false in
    let m = one_made c.args.sides.now.tiles.now c.args.w c.requires.wide c.loop-n.made.items c.push.new.self.items c.in-Some.cells.items c.loop-n.n c.loop-n.room i.filled i.count i.left layer (omega (arith, few, rows)) (λ e. c.if-rows-eq0.false (rows ∙ e))
    (c.in_ok-push.ensures.items ∙ ap (λ (v : List ℕ). c.loop-n.made.items ++ v ∷ []) c.new.ensures) in
    record {
      filled = m.0;
      count = m.1;
      left = subst (λ (k : ℕ). c.loop-n.room - k + fill (rows_in c.args.w) c.push.new.self.items ≡ 65536) (sym rows) m.2;
    }
