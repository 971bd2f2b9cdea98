use Rattle.std.proofs.Common.{◌≡◌, ◌≤◌, ◌++◌, drop, take, length}
use Rattle.wt_text.specs.Lines.{bytes_of}
use Rattle.wt_pattern.specs.TileRows.{rows_spelling}
use Rattle.wt_pattern.proofs.Written.{tile_lines}
use Rattle.wt_pattern.proofs.writing.push_tiles.Given as goal

abbrev pub invariant-loop-tile : goal.invariant-loop-tile
invariant-loop-tile l = record {
  so_far : l.out.items ++ bytes_of (tile_lines l.list.names1 l.list.names2 (drop l.tile-index l.list.tiles)) ≡ l.fn.out.items ++ bytes_of (rows_spelling l.list);
  longer : length l.fn.out.items ≤ length l.out.items;
  before : take (length l.fn.out.items) l.out.items ≡ l.fn.out.items;
}
