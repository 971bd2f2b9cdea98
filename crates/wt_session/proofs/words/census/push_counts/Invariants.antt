use Rattle.std.proofs.Common.{◌≡◌, ◌++◌, drop, map, string_bytes}
use Rattle.std.specs.Fmt.{decimal}
use Rattle.wt_write.specs.Behind.{behind_spaces}
use Rattle.wt_session.proofs.words.census.push_counts.Given as goal

abbrev pub invariant-loop-count : goal.invariant-loop-count
invariant-loop-count l = string_bytes l.text ++ behind_spaces (map decimal (drop l.count-index l.counts)) ≡ string_bytes l.initial.text ++ behind_spaces (map decimal l.counts)
