use Rattle.std.proofs.Common.{arith, sym, ◌∙◌, ap}
use Rattle.wt_chain.specs.Turns.{axis_of}
use Rattle.wt_expand.specs.Counters.{counter_levels, level_of}
use Rattle.wt_expand.specs.WordTables.{times}
use Rattle.wt_expand.proofs.Joined.{longer}
use Rattle.wt_expand.proofs.words.low_for.Goals as goal

pub loop-i-preserved : goal.loop-i-preserved
loop-i-preserved c =
    record {
      longest = c.longest_above-next.ensures ∙ ap (times (axis_of c.level.result.link.now)) c.loop-i.invariant.longest
          ∙ sym (longer (counter_levels c.args.counter.now) c.loop-i.i (level_of c.level.result) c.level.ensures);
      short = omega (arith, c.if-next-most.false, c.min-most.ensures);
    }
