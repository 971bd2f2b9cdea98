use Rattle.std.proofs.Common.{◌≡◌, ◌++◌, drop}
use Rattle.std.specs.List.{flat_map}
use Rattle.wt_text.specs.Lines.{bytes_of}
use Rattle.wt_text.specs.Spellings.{line_spelling}
use Rattle.wt_cert.specs.Spelling.{refuted_tokens, refuted_lines}
use Rattle.wt_cert.proofs.write.lines.push_refuted.Given as goal

abbrev pub invariant-loop-entry : goal.invariant-loop-entry
invariant-loop-entry l = l.out.items ++ bytes_of (flat_map (line_spelling (refuted_tokens l.version)) (drop l.entry-index l.refuted)) ≡ l.fn.out.items ++ bytes_of (refuted_lines l.version l.refuted)
