use Rattle.std.proofs.Common.{◌≡◌, None, Some, sym, ◌∙◌, ap}
use Rattle.std.specs.Option.{option_map}
use Rattle.wt_pattern.specs.Periods.{shifted as moved}
use Rattle.wt_pattern.proofs.PeriodFaults.{none_in, rows_in}
use Rattle.wt_pattern.proofs.periods.period_fault_in.Goals as goal

pub returns-in_err-other : goal.returns-in_err-other
returns-in_err-other c =
    let out : moved c.args.up c.args.p.now.height c.args.y ≡ None = rw c.height.ensures.value at (sym c.shifted.ensures ∙ c.in_err-other.was) in
    c.from_residual.ensures ∙ none_in c.args.right c.args.up c.args.p.now c.args.y out

pub returns-in_err-x : goal.returns-in_err-x
returns-in_err-x c =
    let there : moved c.args.up c.args.p.now.height c.args.y ≡ Some c.in_ok-other.other = rw c.height.ensures.value at (sym c.shifted.ensures ∙ c.in_ok-other.was) in
    c.from_residual-in_err-x.ensures
    ∙ sym (rows_in c.args.right c.args.up c.args.p.now c.args.y c.in_ok-other.other c.row.result.now c.row-2.result.now c.row.ensures.cells c.row-2.ensures.cells c.height.ensures.shape.grid c.requires there
    ∙ ap (option_map (λ x. (x, c.args.y))) (sym c.line_apart.ensures ∙ c.in_err-x.was))

pub returns : goal.returns
returns c =
    let there : moved c.args.up c.args.p.now.height c.args.y ≡ Some c.in_ok-other.other = rw c.height.ensures.value at (sym c.shifted.ensures ∙ c.in_ok-other.was) in
    sym (rows_in c.args.right c.args.up c.args.p.now c.args.y c.in_ok-other.other c.row.result.now c.row-2.result.now c.row.ensures.cells c.row-2.ensures.cells c.height.ensures.shape.grid c.requires there
    ∙ ap (option_map (λ x. (x, c.args.y))) (sym c.line_apart.ensures ∙ c.in_ok-x.was))
