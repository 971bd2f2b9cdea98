use Rattle.std.proofs.Common.{◌≡◌, ◌++◌, ◌*◌, ◌≤◌, drop, take, map, length}
use Rattle.std.specs.Fmt.{decimal}
use Rattle.wt_write.specs.Behind.{behind_spaces}
use Rattle.wt_write.proofs.rows.put_piece.Given as goal

abbrev pub invariant-loop-number : goal.invariant-loop-number
invariant-loop-number l = record {
  put : take l.end l.text ++ behind_spaces (map decimal (drop l.number-index l.numbers)) ≡ behind_spaces (map decimal l.numbers);
  few : l.end ≤ 6 * l.number-index;
  size : length l.text ≡ 384;
}
