use Rattle.std.proofs.Common.{◌≡◌, ◌≤◌, length, take}
use Rattle.std.specs.List.{flat_map}
use Rattle.wt_expand.specs.WordTables.{words_below}
use Rattle.wt_expand.proofs.words.lay_words.Given as goal

abbrev pub invariant-loop-tile : goal.invariant-loop-tile
invariant-loop-tile l = record {
  laid : take l.len l.row ≡ take (length l.row) (flat_map (words_below l.counter l.k l.space) (take l.tile-index l.above));
  within : l.len ≤ length l.row;
  room : length l.row ≡ length l.initial.row;
}
