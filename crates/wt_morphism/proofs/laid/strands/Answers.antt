use Rattle.std.proofs.Common.{arith, ◌≡◌, ◌<◌, ◌++◌, ◌∙◌, sym, ap, List}
use Rattle.wt_grid.specs.Grid.{along}
use Rattle.wt_morphism.specs.Strands.{line_is_two, all_strands}
use Rattle.wt_morphism.proofs.Strands.{one_line, two_lines}
use Rattle.wt_morphism.proofs.laid.strands.Goals as goal

pub loop-line-preserved-then-not-line_is_two : goal.loop-line-preserved-then-not-line_is_two
loop-line-preserved-then-not-line_is_two c =
    let two = line_is_two c.args.m.now c.args.p.now in
    let n = along c.args.m.now.axis c.args.p.now in
    let lt : c.loop-line.line < n = omega (arith, c.along-line-end.ensures.value) in
    rw c.in_ok-push.ensures.items (one_line two c.loop-line.line n lt c.loop-line.lines.items (all_strands c.args.m.now c.args.p.now) c.loop-line.invariant (sym c.line_is_two.ensures ∙ c.if-not-line_is_two.true))

pub loop-line-preserved : goal.loop-line-preserved
loop-line-preserved c =
    let two = line_is_two c.args.m.now c.args.p.now in
    let n = along c.args.m.now.axis c.args.p.now in
    let lt : c.loop-line.line < n = omega (arith, c.along-line-end.ensures.value) in
    rw (c.in_ok-push-2.ensures.items, c.in_ok-push.ensures.items) (two_lines two c.loop-line.line n lt c.loop-line.lines.items (all_strands c.args.m.now c.args.p.now) c.loop-line.invariant (sym c.line_is_two.ensures ∙ c.if-not-line_is_two.false))
