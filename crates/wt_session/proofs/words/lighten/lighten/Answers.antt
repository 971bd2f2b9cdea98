use Rattle.wt_session.proofs.Lightened.{few}
use Rattle.wt_session.proofs.words.lighten.lighten.Goals as goal

pub nodes_text-requires : goal.nodes_text-requires
nodes_text-requires c = few c.in_ok-chain.chain c.in-Ok.light c.args.budget c.lighten.result c.in-Ok.is c.lighten.ensures
