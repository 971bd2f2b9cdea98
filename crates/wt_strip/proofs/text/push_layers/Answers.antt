use Rattle.std.proofs.Common.{◌++◌}
use Rattle.std.specs.List.{flat_map}
use Rattle.wt_text.specs.Lines.{bytes_of}
use Rattle.wt_strip.specs.StripText.{layer_lines}
use Rattle.wt_strip.proofs.Written.{layers_written}
use Rattle.wt_strip.proofs.text.push_layers.Goals as goal

pub loop-cells-preserved : goal.loop-cells-preserved
loop-cells-preserved c =
    layers_written c.args.w c.args.layers.now c.loop-cells.cells-index c.cells-item.result c.as_slice.result.now c.loop-cells.out.items c.push_layer.new.out.items (c.args.out.now.items ++ bytes_of (flat_map (layer_lines c.args.w) c.args.layers.now)) c.loop-cells-test.true c.cells-item.is c.as_slice.ensures
    (c.in_ok-push_layer.ensures {u = tt}) c.loop-cells.invariant
