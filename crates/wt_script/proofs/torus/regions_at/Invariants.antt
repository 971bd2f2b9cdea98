use Rattle.std.proofs.Common.{◌≡◌, ◌-◌}
use Rattle.wt_line.specs.Left.{lines_left}
use Rattle.wt_text.specs.Readers.{many_parts}
use Rattle.wt_line.proofs.Turns.{with_front}
use Rattle.wt_pattern.specs.TileRows.{no_state}
use Rattle.wt_script.specs.TorusText.{region_part, regions_part}
use Rattle.wt_script.proofs.torus.regions_at.Given as goal

abbrev pub invariant-loop : goal.invariant-loop
invariant-loop l = with_front l.regions.items (many_parts (λ s. region_part) no_state 0 (l.count - l.counter) (lines_left l.place)) ≡ regions_part l.count (lines_left l.fn.place)
