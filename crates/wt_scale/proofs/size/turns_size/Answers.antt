use Rattle.std.proofs.Common.{◌≡◌, ◌<◌, ◌^◌}
use Rattle.wt_scale.specs.Sizes.{size_from}
use Rattle.wt_scale.proofs.SizeLaws.{one_turn, all_turned}
use Rattle.wt_scale.proofs.size.turns_size.Goals as goal

pub loop-turn-preserved : goal.loop-turn-preserved
loop-turn-preserved c =
    let loop = c.args.links.now in
    let paid : (size_from loop c.loop-turn.size < 2 ^ 128) × (c.in_ok-size.size ≡ size_from loop c.loop-turn.size) = rw c.in_ok-size.was at c.size_from.ensures in
    let left = one_turn loop c.args.turns c.loop-turn.turn c.loop-turn.size c.args.side c.loop-turn-test.true c.loop-turn.invariant.left in
    record {
      small = rw paid.1 paid.0;
      left = rw paid.1 left;
    }

pub returns : goal.returns
returns c =
    let same = all_turned c.args.links.now c.args.turns c.loop-turn.turn c.loop-turn.size c.args.side c.loop-turn-test.false c.loop-turn.invariant.left in
    (rw same at c.loop-turn.invariant.small, same)
