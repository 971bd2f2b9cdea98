use Rattle.wt_step.proofs.GoodLinks.{good_link, no_link_fault}
use Rattle.wt_step.proofs.laws.good_links.Goals as goal

pub returns-clause-good : goal.returns-clause-good
returns-clause-good c = good_link

pub returns-clause-back : goal.returns-clause-back
returns-clause-back c = no_link_fault
