use Rattle.std.proofs.Common.{◌≡◌, ◌++◌, ◌∙◌, ap, List, subst}
use Rattle.wt_grid.specs.Answers.{FailsByOr}
use Rattle.wt_grid.specs.Order.{first_in}
use Rattle.wt_plane.specs.HalfPlanes.{Half}
use Rattle.wt_induce.specs.declared.fault.InduceFault.TheVariants.{OutOfMemory}
use Rattle.wt_induce.specs.Backs.{back_fault}
use Rattle.wt_induce.proofs.backs.keep_region.Goals as goal

pub returns-clause-fault : goal.returns-clause-fault
returns-clause-fault c =
    let front : c.deref.result.now ≡ c.args.p.now.region.planes ++ c.args.zone.now = c.deref.ensures.value ∙ (c.in_ok-front.ensures ∙ ap (λ (hs : List Half). hs ++ c.args.zone.now) c.as_slice.ensures) in
    subst (λ (hs : List Half). FailsByOr c.keep_pairs.result (first_in (back_fault hs c.args.p.now.label) c.args.backs.now) OutOfMemory) front c.keep_pairs.ensures.fault
