use Rattle.std.proofs.Common.{◌≡◌, ◌*◌, length, ap, ◌∙◌}
use Rattle.wt_grid.proofs.Bridge.{length-listed}
use Rattle.wt_step.specs.Blocks.{coarse_cell, width_of, height_of}
use Rattle.wt_step.proofs.Sized.{width_some, width_few, height_some, height_few}
use Rattle.wt_step.proofs.apart.coarse_pattern.Goals as goal

pub of-requires : goal.of-requires
of-requires c =
    let axis = c.args.raw.now.axis in
    let n = length c.args.blocks.now in
    let m = c.args.across in
    let w : c.width_of-width.result ≡ width_of axis n m = c.width_of-width.ensures in
    let h : c.height_of-height.result ≡ height_of axis n m = c.height_of-height.ensures in
    let size : length c.in_ok-cells.cells.items ≡ c.width_of-width.result * c.height_of-height.result =
    ap length (c.in_ok-cells.ensures {u = tt})
    ∙ length-listed (c.width_of-width.result * c.height_of-height.result)
    (coarse_cell c.args.raw.now c.args.p.now c.args.index.now.singles.items c.args.index.now.pairs.items c.args.blocks.now c.width_of-width.result) in
    record {
      grid = record { wide = rw w (width_some axis n m c.requires.some_blocks c.requires.some); high = rw h (height_some axis n m c.requires.some_blocks c.requires.some); whole = size };
      wide = rw w (width_few axis n m c.requires.few_blocks c.requires.few);
      high = rw h (height_few axis n m c.requires.few_blocks c.requires.few);
    }
