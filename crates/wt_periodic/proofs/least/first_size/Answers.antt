use Rattle.std.proofs.Common.{arith, ◌*◌, inl, inr}
use Rattle.std.proofs.lemmas.Bool.{cases_lt}
use Rattle.wt_grid.specs.declared.axis.Axis.TheVariants.{One, Two}
use Rattle.wt_periodic.proofs.Sizes.{some_cells}
use Rattle.wt_periodic.proofs.least.first_size.Goals as goal

pub loop-area-init : goal.loop-area-init
loop-area-init c = record {
  none = λ m n s lt. absurd (let few = some_cells m n s.wide s.high in omega (arith, few, lt));
  widths = c.unmarked-widths.ensures c.args.rounds.now.tables.tiles.now One;
  heights = c.unmarked-heights.ensures c.args.rounds.now.tables.tiles.now Two;
}

pub loop-area-preserved : goal.loop-area-preserved
loop-area-preserved c = record {
  none = λ m n s lt. elim (cases_lt (m * n) c.loop-area.area) [
    | inl l ↦ c.loop-area.invariant.none m n s l
    | inr ge ↦ c.of_area.ensures.nothing c.in-Nothing.is m n s (omega arith)
  ];
  widths = c.mark_length.ensures.widths;
  heights = c.mark_length.ensures.heights;
}
