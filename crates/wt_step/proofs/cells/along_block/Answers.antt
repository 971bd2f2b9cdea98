use Rattle.std.proofs.Common.{arith, ◌≡◌, ◌+◌, ◌∙◌, length, ap, true, false, ℕ}
use Rattle.wt_grid.specs.Grid.{listed, cell}
use Rattle.wt_step.specs.Blocks.{block_at, found_at, pair_found_at}
use Rattle.wt_step.proofs.CoarseRows.{core_room, single_row, double_row}
use Rattle.wt_step.proofs.cells.along_block.Goals as goal

pub row_from-low-requires-clause-column : goal.row_from-low-requires-clause-column
row_from-low-requires-clause-column c =
    let room = core_room c.args.raw.now.axis c.args.raw.now.radius c.args.p.now c.requires.long c.requires.wide in
    let wide = room.0 in
    omega (arith, c.from-radius.ensures, wide)

pub row_from-high-requires-clause-column : goal.row_from-high-requires-clause-column
row_from-high-requires-clause-column c =
    let room = core_room c.args.raw.now.axis c.args.raw.now.radius c.args.p.now c.requires.long c.requires.wide in
    let wide = room.0 in
    omega (arith, c.from-radius.ensures, wide)

pub returns-then-block : goal.returns-then-block
returns-then-block c =
    let s = c.args.raw.now in
    let p = c.args.p.now in
    let ones = c.args.index.now.singles.items in
    let twos = c.args.index.now.pairs.items in
    let b = block_at c.args.blocks.now c.args.y in
    let next : s.radius + b.line + 1 ≡ s.radius + (b.line + 1) = omega arith in
    let made : c.look_up_pairs.new.out ≡ listed (length c.args.out.now) (pair_found_at twos (length s.fine.tiles) c.row_from-low.result.now c.row_from-high.result.now) =
    rw (c.deref.ensures.value, c.count_tiles.ensures.value) at c.look_up_pairs.ensures in
    let double : b.double ≡ true = rw c.block_at-block.ensures at c.if-block.true in
    made ∙ double_row s p ones twos c.requires.axis c.args.blocks.now c.args.y (length c.args.out.now) c.requires.size c.requires.within c.requires.row c.row_from-low.result.now
    (rw (c.from-radius.ensures, c.from.ensures, c.block_at-block.ensures) at c.row_from-low.ensures.cells) double c.row_from-high.result.now
    (λ k lt. (rw (c.from-radius.ensures, c.from.ensures, c.block_at-block.ensures) at c.row_from-high.ensures.cells) k lt ∙ ap (λ (y : ℕ). cell p (s.radius + k) y) next)

pub returns-else-block : goal.returns-else-block
returns-else-block c =
    let s = c.args.raw.now in
    let p = c.args.p.now in
    let ones = c.args.index.now.singles.items in
    let twos = c.args.index.now.pairs.items in
    let b = block_at c.args.blocks.now c.args.y in
    let made : c.look_up.new.out ≡ listed (length c.args.out.now) (found_at ones c.row_from-low.result.now) = rw c.deref-else-block.ensures.value at c.look_up.ensures in
    let single : b.double ≡ false = rw c.block_at-block.ensures at c.if-block.false in
    made ∙ single_row s p ones twos c.requires.axis c.args.blocks.now c.args.y (length c.args.out.now) c.requires.size c.requires.within c.requires.row c.row_from-low.result.now
    (rw (c.from-radius.ensures, c.from.ensures, c.block_at-block.ensures) at c.row_from-low.ensures.cells) single
