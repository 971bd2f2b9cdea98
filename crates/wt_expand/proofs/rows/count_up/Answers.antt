use Rattle.std.proofs.Common.{arith, ◌∙◌}
use Rattle.wt_expand.proofs.Facts.{one_up}
use Rattle.wt_expand.proofs.rows.count_up.Goals as goal

pub advance-requires-clause-fits : goal.advance-requires-clause-fits
advance-requires-clause-fits c = c.loop-y.invariant.at_row.fits

pub loop-y-preserved : goal.loop-y-preserved
loop-y-preserved c =
    let test = c.loop-y-test.true in
    record {
      at_row = one_up 0 c.args.w c.args.counter.now c.loop-y.space c.advance.new.space c.loop-y.y c.args.h c.advance.result c.loop-y.invariant.at_row test c.requires.rows c.advance.ensures.advanced c.advance.ensures.last;
      inside = omega (arith, test);
      size = c.advance.ensures.size ∙ c.loop-y.invariant.size;
    }
