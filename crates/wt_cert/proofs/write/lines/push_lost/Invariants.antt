use Rattle.std.proofs.Common.{◌≡◌, ◌++◌, drop}
use Rattle.std.specs.List.{flat_map}
use Rattle.wt_text.specs.Lines.{bytes_of}
use Rattle.wt_text.specs.Spellings.{line_spelling}
use Rattle.wt_cert.specs.Spelling.{lost_tokens, lost_lines}
use Rattle.wt_cert.proofs.write.lines.push_lost.Given as goal

abbrev pub invariant-loop-tile : goal.invariant-loop-tile
invariant-loop-tile l = l.out.items ++ bytes_of (flat_map (line_spelling lost_tokens) (drop l.tile-index l.lost)) ≡ l.fn.out.items ++ bytes_of (lost_lines l.lost)
