use Rattle.std.proofs.Common.{◌≡◌, ◌≤◌, ◌-◌}
use Rattle.wt_text.specs.Lines.{lines}
use Rattle.wt_text.specs.Readers.{many_parts}
use Rattle.wt_line.proofs.Turns.{with_front}
use Rattle.wt_strip.specs.StripText.{layer_part, rows_with, layers_part}
use Rattle.wt_strip.proofs.text.layers_at.Given as goal

abbrev pub invariant-loop : goal.invariant-loop
invariant-loop l = record {
  read : with_front l.layers.items (many_parts (layer_part l.w) (rows_with l.w) l.before (l.h - l.counter) (l.place.number, lines l.place.bytes.now)) ≡ layers_part l.w l.h (l.fn.place.number, lines l.fn.place.bytes.now);
  few : l.before ≤ 65536;
}
