use Rattle.std.proofs.Common.{◌≡◌, ◌-◌}
use Rattle.wt_line.specs.Left.{lines_left}
use Rattle.wt_text.specs.Readers.{one_line, many_parts}
use Rattle.wt_line.proofs.Turns.{with_front}
use Rattle.wt_pattern.specs.TileRows.{no_state}
use Rattle.wt_cert.specs.LineForms.{image_form}
use Rattle.wt_cert.proofs.read.lists.image_list.Given as goal

abbrev pub invariant-loop : goal.invariant-loop
invariant-loop l = with_front l.images.items (many_parts (λ s. one_line image_form) no_state 0 (l.count - l.counter) (lines_left l.place)) ≡ many_parts (λ s. one_line image_form) no_state 0 l.count (lines_left l.fn.place)
