use Rattle.std.proofs.Common.{rules, arith, ◌≡◌, ◌<◌, ◌≤◌, length, ◌∙◌}
use Rattle.wt_pattern.proofs.Written.{name_is, no_name}
use Rattle.wt_session.proofs.colours.name_of.Goals as goal

pub returns-then-number-names-clause-value : goal.returns-then-number-names-clause-value
returns-then-number-names-clause-value c =
    let lt : c.args.number < length c.args.names.now = omega (arith, c.if-number-names.true, c.from-number.ensures) in
    c.bytes.ensures.same ∙ name_is c.args.names.now c.args.number c.index-names-number.result lt (rw c.from-number.ensures at c.index-names-number.is)

pub returns-else-number-names-clause-value : goal.returns-else-number-names-clause-value
returns-else-number-names-clause-value c = no_name c.args.names.now c.args.number (omega (arith, c.if-number-names.false, c.from-number.ensures))
