use Rattle.wt_golden.proofs.Order.{sign_says, positive_never_both, positive_not_zero, positive_plus, positive_times, positive_whole, has_whole}
use Rattle.wt_golden.proofs.laws.golden_order.Goals as goal

pub returns : goal.returns
returns c = record {
  signs = sign_says;
  one = positive_never_both;
  zero = positive_not_zero;
  sums = positive_plus;
  products = positive_times;
  whole = positive_whole;
  inverse = λ x p. let w = has_whole x p in (w.factor, w.number, w.factor_above, w.number_above, w.is);
}
