use Rattle.std.proofs.Common.{arith, ℕ, List, ◌++◌, length, slice_index_or, None, refl, ap, sym, ◌∙◌}
use Rattle.std.proofs.lemmas.Grind.{common_steps}
use Rattle.wt_grid.specs.Grid.{listed}
use Rattle.wt_grid.proofs.First.{first_more}
use Rattle.wt_torus.specs.Cells.{line_fault, place_label}
use Rattle.wt_torus.proofs.Cells.{row_on}
use Rattle.wt_torus.proofs.coding.labels.Goals as goal

pub returns-in_err-push_row-clause-fault : goal.returns-in_err-push_row-clause-fault
returns-in_err-push_row-clause-fault c =
    let more = first_more (line_fault c.args.p.now c.args.xs.now c.args.ys.now) c.loop-j.j (length c.args.ys.now) c.loop-j-test.true in
    grind (arith, common_steps)

pub loop-j-preserved : goal.loop-j-preserved
loop-j-preserved c =
    let xs = c.args.xs.now in
    let ys = c.args.ys.now in
    let more = first_more (line_fault c.args.p.now xs ys) c.loop-j.j (length ys) c.loop-j-test.true in record {
      cells = c.in_ok-push_row.ensures.ok ∙ (ap (λ (zs : List ℕ). zs ++ listed (length xs) (place_label c.args.p.now xs (slice_index_or ys c.loop-j.j None))) c.loop-j.invariant.cells ∙ row_on c.args.p.now xs ys (length xs) c.loop-j.j);
      none = sym (more ∙ (rw c.in_ok-push_row.ensures.fault refl)) ∙ c.loop-j.invariant.none;
    }
