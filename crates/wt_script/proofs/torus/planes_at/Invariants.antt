use Rattle.std.proofs.Common.{◌≡◌, ◌-◌}
use Rattle.wt_line.specs.Left.{lines_left}
use Rattle.wt_text.specs.Readers.{many_parts}
use Rattle.wt_line.proofs.Turns.{with_front}
use Rattle.wt_pattern.specs.TileRows.{no_state}
use Rattle.wt_script.specs.TorusText.{plane_part, planes_part}
use Rattle.wt_script.proofs.torus.planes_at.Given as goal

abbrev pub invariant-loop : goal.invariant-loop
invariant-loop l = with_front l.planes.items (many_parts (λ s. plane_part) no_state 0 (l.count - l.counter) (lines_left l.place)) ≡ planes_part l.count (lines_left l.fn.place)
