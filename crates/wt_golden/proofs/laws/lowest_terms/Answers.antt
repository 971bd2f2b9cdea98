use Rattle.wt_golden.proofs.Canonical.{lowest_same, one_lowest}
use Rattle.wt_golden.proofs.Lowest.{lowest_above, lowest_apart}
use Rattle.wt_golden.proofs.laws.lowest_terms.Goals as goal

pub returns : goal.returns
returns c = record { same = λ f h. lowest_same f; above = lowest_above; apart = λ f k above all. lowest_apart f k above all.a all.b all.d; one = one_lowest }
