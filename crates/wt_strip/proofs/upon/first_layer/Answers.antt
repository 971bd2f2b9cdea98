use Rattle.std.proofs.Common.{◌≡◌, length}
use Rattle.wt_strip.specs.Layers.{IsRow}
use Rattle.wt_strip.specs.Walks.{IsWay}
use Rattle.wt_strip.proofs.Nexts.{layer_same, more_same, all_rows}
use Rattle.wt_strip.proofs.upon.first_layer.Goals as goal

pub returns-then-done : goal.returns-then-done
returns-then-done c =
    layer_same (λ q. (length q ≡ c.args.w) × IsWay c.args.sides.now.tiles.now c.all_allowed-allowed.result c.args.w q) (IsRow c.args.sides.now.tiles.now c.args.w) c.args.w c.in_ok-cells.cells.items
    (all_rows c.args.sides.now.tiles.now c.args.w c.all_allowed-allowed.result c.requires.narrow c.all_allowed-allowed.ensures)
    (record { sorted = (c.in_ok-cells.ensures {u = tt}).sorted; lists = (c.in_ok-cells.ensures {u = tt}).all c.if-done.true })

pub returns-else-done : goal.returns-else-done
returns-else-done c =
    more_same (λ q. (length q ≡ c.args.w) × IsWay c.args.sides.now.tiles.now c.all_allowed-allowed.result c.args.w q) (IsRow c.args.sides.now.tiles.now c.args.w) c.args.w c.args.room
    (all_rows c.args.sides.now.tiles.now c.args.w c.all_allowed-allowed.result c.requires.narrow c.all_allowed-allowed.ensures)
    (c.in_ok-cells.cells.items, (c.in_ok-cells.ensures {u = tt}).sorted, (c.in_ok-cells.ensures {u = tt}).right, (c.in_ok-cells.ensures {u = tt}).more c.if-done.false)
