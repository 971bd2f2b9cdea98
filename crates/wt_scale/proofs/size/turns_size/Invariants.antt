use Rattle.std.proofs.Common.{◌≡◌, ◌<◌, ◌-◌, ◌^◌}
use Rattle.wt_scale.specs.Sizes.{turns_size}
use Rattle.wt_scale.proofs.size.turns_size.Given as goal

abbrev pub invariant-loop-turn : goal.invariant-loop-turn
invariant-loop-turn l = record {
  small : l.size < 2 ^ 128;
  left : turns_size l.links (l.turns - l.turn) l.size ≡ turns_size l.links l.turns l.side;
}
