use Rattle.std.proofs.Common.{refl}
use Rattle.wt_line.proofs.Digits.{digits_short, token_cut, token_other}
use Rattle.wt_line.proofs.numbers.behind_digits.Goals as goal

pub returns-then-line-count-ne32-clause-first : goal.returns-then-line-count-ne32-clause-first
returns-then-line-count-ne32-clause-first c = token_other c.args.line.now c.args.count c.requires (digits_short c.args.line.now c.args.count c.requires c.if-count-line.false) c.if-line-count-ne32.true

pub returns-clause-first : goal.returns-clause-first
returns-clause-first c = token_cut c.args.line.now _ c.args.count c.requires (digits_short c.args.line.now c.args.count c.requires c.if-count-line.false) c.if-line-count-ne32.false refl
