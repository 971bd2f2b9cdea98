use Rattle.std.proofs.Common.{◌≡◌, length}
use Rattle.wt_pattern.specs.Rows.{HasColours}
use Rattle.wt_pattern.proofs.neighbours.Colours.new.Given as goal

abbrev pub invariant-loop-a : goal.invariant-loop-a
invariant-loop-a l = record {
  east : length l.east ≡ 256;
  north : length l.north ≡ 256;
  west : length l.west ≡ 256;
  south : length l.south ≡ 256;
  each : HasColours l.tiles l.a l.east l.north l.west l.south;
}
