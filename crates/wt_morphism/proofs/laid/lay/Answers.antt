use Rattle.std.proofs.Common.{arith, ◌≡◌, ◌<◌, ◌+◌, ◌*◌, ◌++◌, ℕ, List, length, ◌∙◌, ap, sym}
use Rattle.wt_grid.specs.Grid.{listed}
use Rattle.wt_morphism.specs.declared.laid.Strand.{Strand}
use Rattle.wt_morphism.specs.Strands.{laid_index, laid_row, all_strands}
use Rattle.wt_grid.proofs.Bridge.{length-listed}
use Rattle.wt_morphism.proofs.Cells.{rows_more, laid_part}
use Rattle.wt_morphism.proofs.laid.lay.Goals as goal

pub loop-y-preserved : goal.loop-y-preserved
loop-y-preserved c =
    let m = c.args.m.now in
    let p = c.args.p.now in
    c.in_ok-lay_row.ensures
    ∙ (ap (λ (ss : List Strand). c.loop-y.cells.items ++ listed c.args.w (laid_row m p ss c.loop-y.y)) c.deref.ensures.value
    ∙ (ap (λ (xs : List ℕ). xs ++ listed c.args.w (laid_row m p c.in_ok-lines.lines.items c.loop-y.y)) c.loop-y.invariant
    ∙ rows_more m p c.in_ok-lines.lines.items c.args.w c.loop-y.y))

pub returns-clause-cells : goal.returns-clause-cells
returns-clause-cells c =
    let m = c.args.m.now in
    let p = c.args.p.now in
    let last : c.loop-y.y ≡ c.args.h = omega (arith, c.loop-y-test.false) in
    c.loop-y.invariant
    ∙ (ap (λ (ss : List Strand). listed (c.loop-y.y * c.args.w) (laid_index m p ss c.args.w)) c.in_ok-lines.ensures
    ∙ (ap (λ (y : ℕ). listed (y * c.args.w) (laid_index m p (all_strands m p) c.args.w)) last
    ∙ laid_part m p c.requires.shape.grid c.args.w c.args.h c.requires.some c.requires.wide c.requires.high))

pub returns-clause-shape : goal.returns-clause-shape
returns-clause-shape c =
    let last : c.loop-y.y ≡ c.args.h = omega (arith, c.loop-y-test.false) in
    let e : c.args.h * c.args.w ≡ c.args.w * c.args.h = grind arith in
    let n : length c.loop-y.cells.items ≡ c.loop-y.y * c.args.w = ap length c.loop-y.invariant ∙ length-listed (c.loop-y.y * c.args.w) _ in
    record {
      grid = record { wide = c.requires.some; high = c.requires.rows; whole = n ∙ (ap (λ (y : ℕ). y * c.args.w) last ∙ e) };
      wide = c.requires.low;
      high = c.requires.few;
    }
