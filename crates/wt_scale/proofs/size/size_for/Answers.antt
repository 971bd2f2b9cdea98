use Rattle.wt_chain.proofs.Goodness.{good}
use Rattle.wt_scale.proofs.SizeLaws.{start_inside}
use Rattle.wt_scale.proofs.size.size_for.Goals as goal

pub size_up_to-requires : goal.size_up_to-requires
size_up_to-requires c =
    let chain = c.raw-chain.result.now in
    let inside = start_inside chain (good chain (rw c.raw-chain.ensures.value c.raw-chain.ensures.good)) c.in-Loop.start c.in-Loop.expansion c.in-Loop.renaming c.in-Loop.is in
    record { inside = rw c.as_slice.ensures inside }
