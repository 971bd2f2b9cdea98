use Rattle.std.proofs.Common.{◌≡◌, ◌-◌, ◌≤◌, ◌*◌, length}
use Rattle.wt_text.specs.Lines.{lines}
use Rattle.wt_pattern.specs.TileRows.{tile_rows}
use Rattle.wt_pattern.proofs.TileTurns.{listed, rows_left}
use Rattle.wt_pattern.proofs.rows.tiles_at.Given as goal

abbrev pub invariant-loop : goal.invariant-loop
invariant-loop l = record {
  so_far : listed l.tiles.items l.names1.items l.names2.items (rows_left (l.count - l.counter) (l.place.number, lines l.place.bytes.now)) ≡ tile_rows l.count (l.fn.place.number, lines l.fn.place.bytes.now);
  few1 : l.names1.len ≤ 2 * l.counter;
  few2 : l.names2.len ≤ 2 * l.counter;
}
