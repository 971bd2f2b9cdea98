use Rattle.wt_search.proofs.Lightened.{small_radius, in_order, few_fine}
use Rattle.wt_search.proofs.lower.unasked.Goals as goal

pub list_refuted-requires-clause-radius : goal.list_refuted-requires-clause-radius
list_refuted-requires-clause-radius c = small_radius c.args.raw.now c.requires.good

pub list_refuted-requires-clause-in_order : goal.list_refuted-requires-clause-in_order
list_refuted-requires-clause-in_order c = in_order c.args.raw.now c.requires.good

pub list_refuted-requires-clause-few : goal.list_refuted-requires-clause-few
list_refuted-requires-clause-few c = few_fine c.args.raw.now c.requires.good

pub list_refuted-requires-2-clause-radius : goal.list_refuted-requires-2-clause-radius
list_refuted-requires-2-clause-radius c = small_radius c.args.raw.now c.requires.good

pub list_refuted-requires-2-clause-in_order : goal.list_refuted-requires-2-clause-in_order
list_refuted-requires-2-clause-in_order c = in_order c.args.raw.now c.requires.good

pub list_refuted-requires-2-clause-few : goal.list_refuted-requires-2-clause-few
list_refuted-requires-2-clause-few c = few_fine c.args.raw.now c.requires.good
