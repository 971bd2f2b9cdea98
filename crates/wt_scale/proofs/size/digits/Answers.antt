use Rattle.wt_scale.proofs.Digits.{digits_between}
use Rattle.wt_scale.proofs.size.digits.Goals as goal

pub returns-else-m-eq0-clause-value : goal.returns-else-m-eq0-clause-value
returns-else-m-eq0-clause-value c = digits_between c.args.m c.ilog2.result c.ilog2.ensures.power_le c.ilog2.ensures.next_power_gt
