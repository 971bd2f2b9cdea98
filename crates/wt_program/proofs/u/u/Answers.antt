use Rattle.std.proofs.Common.{subst}
use Rattle.wt_line.specs.declared.faults.TextFault.{TextFault}
use Rattle.wt_line.specs.Faults.{TextFails}
use Rattle.wt_program.specs.Samples.{u_read}
use Rattle.wt_program.proofs.Us.{never_syntax, never_limit, good_list}
use Rattle.wt_program.proofs.u.u.Goals as goal

pub unreachable-requires : goal.unreachable-requires
unreachable-requires c =
    never_syntax c.in-Err-Syntax.field-0-0 (subst (λ (e : TextFault). TextFails e u_read) c.in-Err-Syntax.field-0-is c.in-Err-Syntax.ensures)

pub unreachable-requires-in-Err-Limit : goal.unreachable-requires-in-Err-Limit
unreachable-requires-in-Err-Limit c =
    never_limit c.in-Err-Limit.field-0-0 c.in-Err-Limit.field-0-1 (subst (λ (e : TextFault). TextFails e u_read) c.in-Err-Limit.field-0-is c.in-Err-Limit.ensures)

pub returns-in-Ok-clause-good : goal.returns-in-Ok-clause-good
returns-in-Ok-clause-good c = good_list c.in-Ok.list c.in-Ok.ensures
