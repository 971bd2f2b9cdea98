use Rattle.std.proofs.Common.{arith, ◌≡◌, ◌+◌, ℕ, get_or, refl, sym, ap, ◌∙◌}
use Rattle.std.proofs.lemmas.List.{get_or-replicate}
use Rattle.wt_check.specs.Powers.{unit}
use Rattle.wt_program.proofs.Counted.{units_none, units_front, units_more}
use Rattle.wt_program.proofs.sample.count_tiles.Goals as goal

pub loop-cell-init : goal.loop-cell-init
loop-cell-init c = record {
  whole = refl;
  counted = λ u lt. get_or-replicate 256 u 0 0 lt ∙ sym (units_none u c.args.cells.now);
}

pub count_one-requires-clause-tile : goal.count_one-requires-clause-tile
count_one-requires-clause-tile c = c.requires c.loop-cell.cell-index

pub count_one-requires-clause-room : goal.count_one-requires-clause-room
count_one-requires-clause-room c = λ u lt.
    let a = c.loop-cell.invariant.counted u lt in
    let b = units_front u c.loop-cell.cell-index c.args.cells.now in
    omega (arith, a, b, c.loop-cell-test.true)

pub loop-cell-preserved : goal.loop-cell-preserved
loop-cell-preserved c = record {
  whole = omega arith;
  counted = λ u lt.
      c.count_one.ensures u lt
      ∙ (ap (λ (n : ℕ). n + unit u (get_or c.args.cells.now c.loop-cell.cell-index 0)) (c.loop-cell.invariant.counted u lt)
      ∙ sym (units_more u c.args.cells.now c.loop-cell.cell-index c.loop-cell-test.true));
}
