use Rattle.std.proofs.Common.{◌≡◌, ◌≤◌, ◌-◌, ◌++◌, drop, take, length, map}
use Rattle.std.specs.Fmt.{decimal}
use Rattle.wt_write.specs.Behind.{behind_spaces}
use Rattle.wt_write.proofs.rows.push_numbers.Given as goal

abbrev pub invariant-loop-at : goal.invariant-loop-at
invariant-loop-at l = record {
  within : l.at ≤ length l.numbers;
  so_far : l.out.items ++ behind_spaces (map decimal (drop l.at l.numbers)) ≡ l.fn.out.items ++ behind_spaces (map decimal l.numbers);
  longer : length l.fn.out.items ≤ length l.out.items;
  before : take (length l.fn.out.items) l.out.items ≡ l.fn.out.items;
}

abbrev pub decreases-loop-at : goal.decreases-loop-at
decreases-loop-at l = length l.numbers - l.at
