use Rattle.std.proofs.Common.{◌≡◌, ◌*◌, length, ap, ◌∙◌}
use Rattle.wt_grid.proofs.Bridge.{length-listed}
use Rattle.wt_step.specs.Blocks.{kept_cell}
use Rattle.wt_step.proofs.keep.kept_pattern.Goals as goal

pub of-requires : goal.of-requires
of-requires c =
    let size : length c.in_ok-cells.cells.items ≡ c.args.width * c.args.height =
    ap length (c.in_ok-cells.ensures {u = tt}) ∙ length-listed (c.args.width * c.args.height) (kept_cell c.args.raw.now c.args.p.now c.args.places.now c.args.width) in
    record { grid = record { wide = c.requires.wide; high = c.requires.high; whole = size }; wide = c.requires.narrow; high = c.requires.low }
