use Rattle.std.proofs.Common.{◌≡◌, ◌∙◌}
use Rattle.wt_morphism.proofs.Cells.{long_image}
use Rattle.wt_morphism.proofs.laid.image_shape.Goals as goal

pub returns-in-One-clause-wide : goal.returns-in-One-clause-wide
returns-in-One-clause-wide c = c.count_lines-long.ensures.value ∙ (long_image c.args.m.now c.args.p.now c.requires.grid).0 c.in-One.is

pub returns-in-Two-clause-high : goal.returns-in-Two-clause-high
returns-in-Two-clause-high c = c.count_lines-long.ensures.value ∙ (long_image c.args.m.now c.args.p.now c.requires.grid).1 c.in-Two.is
