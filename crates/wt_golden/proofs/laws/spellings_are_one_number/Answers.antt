use Rattle.wt_golden.proofs.FractionOrder.{sum_spelling, product_spelling, order_spelling}
use Rattle.wt_golden.proofs.laws.spellings_are_one_number.Goals as goal

pub returns : goal.returns
returns c = record { sums = sum_spelling; products = product_spelling; orders = λ f g h k p q. order_spelling f g h k p.first q.first p.second q.second p.same q.same }
