use Rattle.std.proofs.Common.{◌∙◌}
use Rattle.wt_program.proofs.Groups.{one_more}
use Rattle.wt_program.proofs.numerals.Numerals.new.Goals as goal

pub loop-number-preserved : goal.loop-number-preserved
loop-number-preserved c = record {
  size = c.set_numeral.ensures.size ∙ c.loop-number.invariant.size;
  count = c.set_numeral.ensures.count ∙ c.loop-number.invariant.count;
  each = one_more c.loop-number.bytes c.set_numeral.new.bytes c.loop-number.lens c.set_numeral.new.lens c.loop-number.number
      c.set_numeral.ensures.before c.set_numeral.ensures.others c.set_numeral.ensures.set c.loop-number.invariant.each;
}
