use Rattle.wt_chain.proofs.chain.Chain.push_step.Goals as goal

pub push_next-requires : goal.push_next-requires
push_next-requires c =
    let fault = c.in-None.ensures in
    let steps = c.deref.ensures.value in
    let view = c.self.view_is in
    cc
