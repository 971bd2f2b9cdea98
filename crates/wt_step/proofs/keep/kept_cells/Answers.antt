use Rattle.std.proofs.Common.{rules, ◌≡◌, ◌∙◌, ap, ℕ, length}
use Rattle.wt_grid.specs.Grid.{listed}
use Rattle.wt_step.specs.Blocks.{kept_tile, kept_in}
use Rattle.wt_step.proofs.CoarseRows.{row_more, front_length}
use Rattle.wt_step.proofs.keep.kept_cells.Goals as goal

pub loop-y-preserved : goal.loop-y-preserved
loop-y-preserved c =
    let s = c.args.raw.now in
    let p = c.args.p.now in
    let places = c.args.places.now in
    let old : length c.deref_mut.result.now ≡ c.args.width = ap length c.deref_mut.ensures.value ∙ c.loop-y.invariant.size in
    let len : c.loop-y.row.len ≡ c.args.width = search rules in
    record {
      done = row_more c.args.width c.loop-y.y (kept_tile s p places) c.loop-y.cells.items c.push_kept_row.new.cells.items
          (listed (length c.deref_mut.result.now) (kept_in s p places c.loop-y.y)) c.loop-y.invariant.done
          (ap (λ (n : ℕ). listed n (kept_in s p places c.loop-y.y)) old) (c.in_ok-push_kept_row.ensures {u = tt}).cells;
      size = rw len (front_length c.args.width c.push_kept_row.new.row _ (c.push_kept_row.ensures.size ∙ old));
    }
