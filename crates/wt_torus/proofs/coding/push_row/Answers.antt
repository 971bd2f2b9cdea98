use Rattle.std.proofs.Common.{arith, length, slice_index_or, None, refl, sym, ◌∙◌}
use Rattle.std.proofs.lemmas.Grind.{common_steps}
use Rattle.wt_grid.proofs.First.{first_more}
use Rattle.wt_torus.specs.Cells.{place_fault, place_label}
use Rattle.wt_torus.proofs.Cells.{listed_on}
use Rattle.wt_torus.proofs.coding.push_row.Goals as goal

pub returns-in_err-push_cell-clause-fault : goal.returns-in_err-push_cell-clause-fault
returns-in_err-push_cell-clause-fault c =
    let y = slice_index_or c.args.ys.now c.args.j None in
    let more = first_more (place_fault c.args.p.now c.args.xs.now y c.args.j) c.loop-i.i (length c.args.xs.now) c.loop-i-test.true in
    grind (arith, common_steps)

pub loop-i-preserved : goal.loop-i-preserved
loop-i-preserved c =
    let y = slice_index_or c.args.ys.now c.args.j None in
    let more = first_more (place_fault c.args.p.now c.args.xs.now y c.args.j) c.loop-i.i (length c.args.xs.now) c.loop-i-test.true in record {
      cells = listed_on c.args.cells.now.items c.loop-i.cells.items c.push_cell.new.cells.items (place_label c.args.p.now c.args.xs.now y) c.loop-i.i c.loop-i.invariant.cells c.in_ok-push_cell.ensures.ok;
      none = sym (more ∙ (rw c.in_ok-push_cell.ensures.fault refl)) ∙ c.loop-i.invariant.none;
    }
