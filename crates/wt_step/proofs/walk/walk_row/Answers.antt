use Rattle.std.proofs.Common.{arith, ◌≡◌, ◌-◌, length, sym}
use Rattle.wt_step.proofs.Passed.{next_row}
use Rattle.wt_step.proofs.walk.walk_row.Goals as goal

pub returns : goal.returns
returns c =
    let s = c.args.raw.now in
    let end : c.loop-b.b ≡ length s.fine.tiles = omega (arith, c.count_tiles-b-end.ensures.value, c.loop-b-test.false, c.loop-b.auto.b-end) in
    let none : length s.fine.tiles - c.loop-b.b ≡ 0 = omega (arith, end) in
    (sym (rw none at c.loop-b.invariant.first), next_row s c.args.axis c.args.a c.loop-b.places c.requires.shaped (rw end at c.loop-b.invariant.placed))
