use Rattle.std.proofs.Common.{refl, sym, ap, ◌∙◌}
use Rattle.wt_golden.specs.Whole.{opposite}
use Rattle.wt_grid.specs.declared.axis.Axis.TheVariants.{One, Two}
use Rattle.wt_induce.proofs.Points.{beneath_direction}
use Rattle.wt_induce.proofs.zones.beneath.Goals as goal

pub of-requires-clause-direction : goal.of-requires-clause-direction
of-requires-clause-direction c = λ z. beneath_direction One c.args.f c.bottom.ensures.above
    (ap opposite (sym c.bottom.ensures.value) ∙ (sym c.opposite.ensures.value ∙ z.0), refl)

pub of-requires-in-Two-clause-direction : goal.of-requires-in-Two-clause-direction
of-requires-in-Two-clause-direction c = λ z. beneath_direction Two c.args.f c.bottom-in-Two.ensures.above
    (refl, ap opposite (sym c.bottom-in-Two.ensures.value) ∙ (sym c.opposite-in-Two.ensures.value ∙ z.1))
