use Rattle.std.proofs.Common.{rules, arith, ◌≡◌, ◌≤◌, ◌+◌, ◌∙◌, length}
use Rattle.wt_grid.specs.Grid.{listed}
use Rattle.wt_step.specs.Blocks.{block_in}
use Rattle.wt_step.proofs.CoarseRows.{core_room, across_row}
use Rattle.wt_step.proofs.cells.across_blocks.Goals as goal

pub overflow_add-radius : goal.overflow_add-radius
overflow_add-radius c =
    let s = c.requires.good.radius in
    let r : c.from-radius.result ≡ c.args.raw.now.radius = c.from-radius.ensures in
    let few : c.from-radius.result + c.args.y ≤ 8192 = omega (arith, s, r, c.requires.low) in
    search rules

pub row_from-row-requires-clause-column : goal.row_from-row-requires-clause-column
row_from-row-requires-clause-column c =
    let room = core_room c.args.raw.now.axis c.args.raw.now.radius c.args.p.now c.requires.long (omega (arith, c.requires.row)) in
    let wide = room.0 in
    omega (arith, c.from-radius.ensures, wide)

pub returns : goal.returns
returns c =
    let s = c.args.raw.now in
    let p = c.args.p.now in
    let ones = c.args.index.now.singles.items in
    let twos = c.args.index.now.pairs.items in
    let made : c.look_up_blocks.new.out ≡ listed (length c.args.out.now) (block_in (length s.fine.tiles) ones twos c.row_from-row.result.now c.args.blocks.now) =
    rw c.count_tiles.ensures.value at c.look_up_blocks.ensures in
    made ∙ across_row s p ones twos c.requires.axis c.row_from-row.result.now c.args.blocks.now c.args.y (length c.args.out.now) c.requires.size c.requires.within c.requires.row
    (rw c.from-radius.ensures at c.row_from-row.ensures.cells)
