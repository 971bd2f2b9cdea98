use Rattle.std.proofs.Common.{rules, arith, ◌+◌, ◌<◌, length, None, Some, sym, ◌∙◌}
use Rattle.wt_pattern.proofs.PeriodFaults.{none_forward, none_back, found_forward, found_back, back_within}
use Rattle.wt_pattern.proofs.periods.line_apart.Goals as goal

pub returns-then-steps-row : goal.returns-then-steps-row
returns-then-steps-row c = rw c.in-Forward.is (none_forward c.in-Forward.steps c.args.row.now c.args.other.now (omega arith))

pub returns-then-steps-row-2 : goal.returns-then-steps-row-2
returns-then-steps-row-2 c = rw c.in-Back.is (none_back c.in-Back.steps c.args.row.now c.args.other.now (omega arith))

pub overflow_add-result : goal.overflow_add-result
overflow_add-result c =
    let inside : c.in-Back.steps + c.in-Some.at < length c.args.row.now = back_within c.in-Back.steps c.args.row.now c.args.other.now c.in-Some.at (omega arith) (sym c.first_difference-in-Back.ensures ∙ c.in-Some.is) in search rules

pub returns-else-steps-row : goal.returns-else-steps-row
returns-else-steps-row c = rw c.in-Forward.is (c.first_difference.ensures ∙ found_forward c.in-Forward.steps c.args.row.now c.args.other.now c.requires (omega arith))

pub returns-in-None : goal.returns-in-None
returns-in-None c = rw c.in-Back.is (found_back c.in-Back.steps c.args.row.now c.args.other.now None c.requires (omega arith) (sym c.first_difference-in-Back.ensures ∙ c.in-None.is))

pub returns-in-Some : goal.returns-in-Some
returns-in-Some c = rw c.in-Back.is (found_back c.in-Back.steps c.args.row.now c.args.other.now (Some c.in-Some.at) c.requires (omega arith) (sym c.first_difference-in-Back.ensures ∙ c.in-Some.is))
