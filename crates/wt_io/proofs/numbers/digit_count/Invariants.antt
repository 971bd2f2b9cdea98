use Rattle.std.proofs.Common.{◌≡◌, ◌+◌, drop, length}
use Rattle.wt_io.specs.Numbers.{digits_of}
use Rattle.wt_io.proofs.numbers.digit_count.Given as goal

abbrev pub invariant-loop-count : goal.invariant-loop-count
invariant-loop-count l = l.count + length (digits_of (drop l.count l.bytes)) ≡ length (digits_of l.bytes)
