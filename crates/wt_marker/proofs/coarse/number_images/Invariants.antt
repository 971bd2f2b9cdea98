use Rattle.std.proofs.Common.{◌≡◌, ◌≤◌, ◌+◌, ◌++◌, [], true, length, drop, map}
use Rattle.std.specs.List.{list_all}
use Rattle.wt_marker.specs.Coarse.{edges_of, is_joined, number_tiles, all1, all2}
use Rattle.wt_marker.proofs.coarse.number_images.Given as goal

abbrev pub invariant-loop-image : goal.invariant-loop-image
invariant-loop-image l = record {
  tiles : l.out.items ++ number_tiles l.colours1 l.colours2 (map (edges_of l.tiles l.axis) (drop l.image-index l.images)) ≡ number_tiles [] [] (map (edges_of l.tiles l.axis) l.images);
  seen1 : all1 l.colours1 (map (edges_of l.tiles l.axis) (drop l.image-index l.images)) ≡ all1 [] (map (edges_of l.tiles l.axis) l.images);
  seen2 : all2 l.colours2 (map (edges_of l.tiles l.axis) (drop l.image-index l.images)) ≡ all2 [] (map (edges_of l.tiles l.axis) l.images);
  few1 : length l.colours1 ≤ l.image-index + l.image-index;
  few2 : length l.colours2 ≤ l.image-index + l.image-index;
  joined : list_all (is_joined l.tiles l.axis) (drop l.image-index l.images) ≡ true;
}
