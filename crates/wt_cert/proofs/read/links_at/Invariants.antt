use Rattle.std.proofs.Common.{◌≡◌, ◌≤◌, ◌-◌}
use Rattle.wt_line.specs.Left.{lines_left}
use Rattle.wt_text.specs.Readers.{many_parts}
use Rattle.wt_line.proofs.Turns.{with_front}
use Rattle.wt_cert.specs.Parts.{next_step}
use Rattle.wt_cert.specs.Seen.{link_at_step}
use Rattle.wt_cert.proofs.read.links_at.Given as goal

abbrev pub invariant-loop-k : goal.invariant-loop-k
invariant-loop-k l = record {
  so_far : with_front l.links.items (many_parts (link_at_step l.version) next_step (l.k, l.nodes) (l.count - l.k) (lines_left l.place)) ≡ many_parts (link_at_step l.version) next_step (0, 0) l.count (lines_left l.fn.place);
  room : l.nodes ≤ 1048576;
}
