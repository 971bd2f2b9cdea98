use Rattle.std.proofs.Common.{rules, arith, ◌≡◌, ◌<◌, ◌≤◌, length, ◌∙◌}
use Rattle.wt_pattern.proofs.Written.{name_is, no_name}
use Rattle.wt_pattern.proofs.writing.name_of.Goals as goal

pub returns-then-number-names : goal.returns-then-number-names
returns-then-number-names c =
    let lt : c.args.number < length c.args.names.now = omega (arith, c.if-number-names.true, c.from-number.ensures) in
    c.bytes.ensures.same ∙ name_is c.args.names.now c.args.number c.index-names-number.result lt (rw c.from-number.ensures at c.index-names-number.is)

pub returns-else-number-names : goal.returns-else-number-names
returns-else-number-names c = no_name c.args.names.now c.args.number (omega (arith, c.if-number-names.false, c.from-number.ensures))
