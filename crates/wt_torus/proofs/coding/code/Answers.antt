use Rattle.std.proofs.Common.{◌*◌, length, ap, ◌∙◌}
use Rattle.wt_grid.proofs.Bridge.{length-listed}
use Rattle.wt_torus.proofs.coding.code.Goals as goal

pub of-requires : goal.of-requires
of-requires c = record {
  grid = record { wide = c.requires.wide.0; high = c.requires.high.0; whole = ap length c.in_ok-cells.ensures.cells ∙ length-listed (c.args.w * c.args.h) _ };
  wide = c.requires.wide.1;
  high = c.requires.high.1;
}
