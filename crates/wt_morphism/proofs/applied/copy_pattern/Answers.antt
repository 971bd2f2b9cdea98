use Rattle.std.proofs.Common.{◌≡◌, ◌+◌, ◌*◌, ◌++◌, take, ℕ, List, ◌∙◌, ap, sym}
use Rattle.std.specs.Prelude.{slice_range}
use Rattle.wt_morphism.proofs.Cells.{copied_more}
use Rattle.wt_morphism.proofs.applied.copy_pattern.Goals as goal

pub loop-y-preserved : goal.loop-y-preserved
loop-y-preserved c =
    let cells = c.args.p.now.cells in
    let w = c.width-width.result in
    let y = c.loop-y.y in
    c.in_ok-extend_from_slice.ensures.items
    ∙ (ap (λ (xs : List ℕ). xs ++ c.row.result.now) c.loop-y.invariant
    ∙ (ap (λ (xs : List ℕ). take (y * w) cells ++ xs) c.row.ensures.cells
    ∙ (ap (λ (k : ℕ). take (y * w) cells ++ slice_range cells (y * k) (y * k + k)) (sym c.width-width.ensures.value)
    ∙ copied_more cells w y)))
