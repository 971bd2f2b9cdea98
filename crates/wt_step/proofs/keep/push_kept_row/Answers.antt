use Rattle.std.proofs.Common.{rules, ◌≡◌, ◌++◌, ◌∙◌, ℕ, List, length, subst}
use Rattle.std.specs.Prelude.{OnOk}
use Rattle.wt_grid.specs.Grid.{listed}
use Rattle.wt_step.specs.Blocks.{kept_in}
use Rattle.wt_step.proofs.CoarseRows.{kept_row}
use Rattle.wt_step.proofs.keep.push_kept_row.Goals as goal

pub returns-clause-cells : goal.returns-clause-cells
returns-clause-cells c =
    let s = c.args.raw.now in
    let p = c.args.p.now in
    let made : c.look_up.new.out ≡ listed (length c.args.row.now) (kept_in s p c.args.places.now c.args.y) =
    c.look_up.ensures ∙ kept_row s p c.args.places.now c.row_from.result.now c.args.y (length c.args.row.now) c.requires.size c.requires.row (rw c.from-radius.ensures at c.row_from.ensures.cells) in
    let plain : OnOk c.extend_from_slice.result (c.extend_from_slice.new.self.items ≡ c.args.cells.now.items ++ c.look_up.new.out) = search rules in
    subst (λ (l : List ℕ). OnOk c.extend_from_slice.result (c.extend_from_slice.new.self.items ≡ c.args.cells.now.items ++ l)) made plain
