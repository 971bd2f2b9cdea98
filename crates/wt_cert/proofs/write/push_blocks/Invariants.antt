use Rattle.std.proofs.Common.{◌≡◌, ◌++◌, drop}
use Rattle.wt_text.specs.Lines.{bytes_of}
use Rattle.wt_cert.specs.Spelling.{blocks_lines}
use Rattle.wt_cert.proofs.write.push_blocks.Given as goal

abbrev pub invariant-loop-k : goal.invariant-loop-k
invariant-loop-k l = l.out.items ++ bytes_of (blocks_lines l.version l.k (drop l.k l.links)) ≡ l.fn.out.items ++ bytes_of (blocks_lines l.version 0 l.links)
