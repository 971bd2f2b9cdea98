use Rattle.std.proofs.Common.{◌≡◌, ◌++◌, drop, map}
use Rattle.std.specs.Fmt.{decimal}
use Rattle.wt_write.specs.Behind.{behind_spaces}
use Rattle.wt_program.proofs.sample.counts_behind.Given as goal

abbrev pub invariant-loop-count : goal.invariant-loop-count
invariant-loop-count l = l.out.items ++ behind_spaces (map decimal (drop l.count-index l.counts)) ≡ l.fn.out.items ++ behind_spaces (map decimal l.counts)
