use Rattle.std.proofs.Common.{◌≡◌, ◌<◌, ◌+◌, ◌^◌, drop, length}
use Rattle.wt_text.specs.Words.{value_from}
use Rattle.wt_io.specs.Numbers.{digits_of}
use Rattle.wt_io.proofs.numbers.digits.Given as goal

abbrev pub invariant-loop-count : goal.invariant-loop-count
invariant-loop-count l = record {
  small : l.value < 2 ^ 64;
  left : value_from l.value (digits_of (drop l.count l.bytes)) ≡ value_from 0 (digits_of l.bytes);
  counted : l.count + length (digits_of (drop l.count l.bytes)) ≡ length (digits_of l.bytes);
}
