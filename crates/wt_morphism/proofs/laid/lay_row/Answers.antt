use Rattle.std.proofs.Common.{arith, ◌≡◌, ◌<◌, ◌+◌, ◌++◌, [], ◌∷◌, ◌∙◌, ap, sym, append_assoc}
use Rattle.wt_grid.specs.Grid.{listed}
use Rattle.wt_morphism.specs.Strands.{laid_row}
use Rattle.wt_morphism.proofs.Cells.{turned_within, listed_more}
use Rattle.wt_morphism.proofs.laid.lay_row.Goals as goal

pub laid_cell-requires-clause-line : goal.laid_cell-requires-clause-line
laid_cell-requires-clause-line c = rw c.requires.lines (turned_within c.args.m.now c.args.p.now c.requires.shape.grid c.loop-x.x c.args.y (omega (arith, c.loop-x-test.true, c.requires.wide)) c.requires.high).0

pub laid_cell-requires-clause-cell : goal.laid_cell-requires-clause-cell
laid_cell-requires-clause-cell c = (turned_within c.args.m.now c.args.p.now c.requires.shape.grid c.loop-x.x c.args.y (omega (arith, c.loop-x-test.true, c.requires.wide)) c.requires.high).1

pub loop-x-preserved : goal.loop-x-preserved
loop-x-preserved c =
    let f = laid_row c.args.m.now c.args.p.now c.args.lines.now c.args.y in
    rw (c.in_ok-push.ensures.items, c.loop-x.invariant, listed_more c.loop-x.x f, c.laid_cell.ensures) (append_assoc c.args.cells.now.items (listed c.loop-x.x f) (f c.loop-x.x ∷ []))
