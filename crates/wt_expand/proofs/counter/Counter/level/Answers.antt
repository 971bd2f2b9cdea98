use Rattle.std.proofs.Common.{arith, length, ◌<◌, ◌-◌}
use Rattle.std.proofs.Math.Nat.{mod-lt}
use Rattle.std.proofs.lemmas.Option.{slice_get-get_or}
use Rattle.wt_expand.proofs.Levels.{level_before, level_in_loop, length_levels}
use Rattle.wt_expand.proofs.counter.Counter.level.Goals as goal

pub returns-then-i-self : goal.returns-then-i-self
returns-then-i-self c =
    let counter = c.args.self.now in
    level_before counter.steps.now counter.start counter.turns c.args.i _ (omega (arith, counter.inside)) c.if-i-self.true
    (slice_get-get_or counter.steps.now c.args.i c.index-self-i.result (omega (arith, counter.inside, c.if-i-self.true)))

pub returns : goal.returns
returns c =
    let counter = c.args.self.now in
    let l = length_levels counter.steps.now counter.start counter.turns (omega (arith, counter.inside)) in
    let some : 0 < length counter.steps.now - counter.start = omega (arith, counter.inside) in
    let m = mod-lt (c.args.i - counter.start) some in
    level_in_loop counter.steps.now counter.start counter.turns c.args.i _ counter.inside (omega (arith, c.if-i-self.false)) (omega (arith, l, c.requires))
    (slice_get-get_or counter.steps.now _ c.index-self-self.result (omega (arith, counter.inside, m)))
