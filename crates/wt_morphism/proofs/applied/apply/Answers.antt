use Rattle.std.proofs.Common.{◌≡◌, ℕ, List, ◌∙◌, ap}
use Rattle.wt_grid.specs.Grid.{Grid}
use Rattle.wt_morphism.proofs.Cells.{laid_as}
use Rattle.wt_morphism.proofs.applied.apply.Goals as goal

pub returns-in-Ok-clause-image : goal.returns-in-Ok-clause-image
returns-in-Ok-clause-image c =
    let w = c.image_shape-width.result.0 in
    let h = c.image_shape-width.result.1 in
    let whole = laid_as c.args.m.now c.args.p.now w h c.image_shape-width.ensures.wide c.image_shape-width.ensures.high in
    c.of.ensures ∙ (ap (λ (cells : List ℕ). record { width = w; height = h; cells = cells }) c.in-Ok.ensures.cells ∙ whole)
