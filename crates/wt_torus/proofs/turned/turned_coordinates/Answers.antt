use Rattle.std.proofs.Common.{arith, List, map, ap, ◌∙◌}
use Rattle.std.proofs.lemmas.List.{take_all}
use Rattle.wt_golden.specs.declared.wide.Wide.{Wide}
use Rattle.wt_golden.specs.Wide.{number}
use Rattle.wt_torus.proofs.Cells.{lowered_over, coordinates_are}
use Rattle.wt_torus.proofs.turned.turned_coordinates.Goals as goal

pub returns : goal.returns
returns c =
    let d = c.all_bottoms-d.result.a in
    let all = c.deref-at-items.result.now in
    let low = λ (ws : List Wide). map (lowered_over d) (map number ws) in
    c.loop-at.invariant
    ∙ (ap low (take_all c.loop-at.at-index all (omega (arith, c.loop-at-test.false)) ∙ c.deref-at-items.ensures.value)
    ∙ coordinates_are c.args.count c.args.length c.args.step c.args.start (number c.spread-wide_length.result) (number c.spread-wide_step.result) (number c.spread-wide_start.result) (number c.all_bottoms-d.result)
    (map number c.in_ok-turns.turns.items) c.spread-wide_length.ensures.value c.spread-wide_step.ensures.value c.spread-wide_start.ensures.value c.all_bottoms-d.ensures.value c.in_ok-turns.ensures)
