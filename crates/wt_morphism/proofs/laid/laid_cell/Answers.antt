use Rattle.std.proofs.Common.{arith, ◌≡◌, ◌<◌, ◌+◌, ℕ, subst}
use Rattle.wt_grid.specs.Grid.{along}
use Rattle.wt_morphism.specs.Strands.{strands, line_is_two, strand_at, line_and_place}
use Rattle.wt_morphism.proofs.Cells.{strands_within}
use Rattle.wt_morphism.proofs.laid.laid_cell.Goals as goal

pub at-tile-requires-clause-line : goal.at-tile-requires-clause-line
at-tile-requires-clause-line c =
    let n = along c.args.m.now.axis c.args.p.now in
    let two = line_is_two c.args.m.now c.args.p.now in
    let i = (line_and_place c.args.m.now.axis c.args.x c.args.y).0 in
    let r = strands_within two 0 n i (rw (← c.requires.lines) c.requires.line) in
    rw (c.line_and_place-line.ensures, c.requires.lines) (subst (λ (k : ℕ). (strand_at (strands two 0 n) i).line < k) (let z : 0 + n ≡ n = omega arith in z) r)
