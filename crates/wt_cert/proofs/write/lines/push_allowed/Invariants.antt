use Rattle.std.proofs.Common.{◌≡◌, ◌++◌, drop}
use Rattle.std.specs.List.{flat_map}
use Rattle.wt_text.specs.Lines.{bytes_of}
use Rattle.wt_text.specs.Spellings.{line_spelling}
use Rattle.wt_cert.specs.Spelling.{pair_tokens, allowed_lines}
use Rattle.wt_cert.proofs.write.lines.push_allowed.Given as goal

abbrev pub invariant-loop-pair : goal.invariant-loop-pair
invariant-loop-pair l = l.out.items ++ bytes_of (flat_map (line_spelling pair_tokens) (drop l.pair-index l.pairs)) ≡ l.fn.out.items ++ bytes_of (allowed_lines l.axis l.pairs)
