use Rattle.std.proofs.Common.{◌≡◌, ◌++◌, drop}
use Rattle.std.specs.List.{flat_map}
use Rattle.wt_text.specs.Lines.{bytes_of}
use Rattle.wt_strip.specs.StripText.{layer_lines}
use Rattle.wt_strip.proofs.text.push_layers.Given as goal

abbrev pub invariant-loop-cells : goal.invariant-loop-cells
invariant-loop-cells l = l.out.items ++ bytes_of (flat_map (layer_lines l.w) (drop l.cells-index l.layers)) ≡ l.fn.out.items ++ bytes_of (flat_map (layer_lines l.w) l.layers)
