use Rattle.std.proofs.Common.{◌≡◌, ◌≤◌, ◌-◌}
use Rattle.wt_line.specs.Left.{lines_left}
use Rattle.wt_text.specs.Readers.{many_parts, left_by}
use Rattle.wt_line.proofs.Turns.{with_front}
use Rattle.wt_cert.specs.Parts.{refuted_row, with_refuted}
use Rattle.wt_cert.proofs.read.lists.refuted_rows.Given as goal

abbrev pub invariant-loop : goal.invariant-loop
invariant-loop l = record {
  so_far : with_front l.list.items (many_parts (refuted_row l.version l.radius) with_refuted l.total (l.count - l.counter) (lines_left l.place)) ≡ many_parts (refuted_row l.version l.radius) with_refuted l.nodes l.count (lines_left l.fn.place);
  nodes : l.total ≡ left_by with_refuted l.nodes l.list.items;
  room : l.total ≤ 1048576;
}
