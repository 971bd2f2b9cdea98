use Rattle.std.proofs.Common.{◌≡◌, ◌≤◌, ◌+◌, length}
use Rattle.wt_line.specs.declared.faults.What.TheVariants.{Number}
use Rattle.wt_line.specs.Given.{left, room}
use Rattle.wt_text.specs.Readers.{mapped, numbers_to}
use Rattle.wt_cert.proofs.NumberLists.{led}
use Rattle.wt_cert.proofs.read.numbers.numbers_to_end.Given as goal

abbrev pub invariant-loop-rest : goal.invariant-loop-rest
invariant-loop-rest l = record {
  so_far : led (mapped (λ v. v.items) l.numbers) (numbers_to 65535 Number (left l.rest.more l.rest.line.now)) ≡ numbers_to 65535 Number (left l.fn.rest.more l.fn.rest.line.now);
  few : l.count + room l.rest.more l.rest.line.now ≤ room l.fn.rest.more l.fn.rest.line.now;
  counted : l.count + length (left l.rest.more l.rest.line.now) ≡ length (left l.fn.rest.more l.fn.rest.line.now);
}

abbrev pub decreases-loop-rest : goal.decreases-loop-rest
decreases-loop-rest l = room l.rest.more l.rest.line.now
