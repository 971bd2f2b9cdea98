use Rattle.wt_golden.proofs.FractionOrder.{equal_same, greater_is, less_is, order_nought, greater_through, greater_sums, greater_products}
use Rattle.wt_golden.proofs.laws.fraction_order.Goals as goal

pub returns : goal.returns
returns c = record {
  equal = equal_same;
  greater = greater_is;
  less = less_is;
  zero = order_nought;
  through = greater_through;
  sums = greater_sums;
  products = greater_products;
}
