use Rattle.std.proofs.Common.{◌≡◌, ◌++◌, ◌∷◌, [], None, ap, ◌∙◌}
use Rattle.wt_chain.specs.Chains.{push_fault}
use Rattle.wt_chain.proofs.Open.{more_open}
use Rattle.wt_chain.proofs.chain.Chain.push_next.Goals as goal

pub invariant_of-self-in-Ok : goal.invariant_of-self-in-Ok
invariant_of-self-in-Ok c =
    let steps = c.self.inside.steps.items in
    let link = c.into_raw-raw.result in
    let pushed : c.push.new.self.items ≡ steps ++ link ∷ [] = (c.in-Ok.ensures {u = tt}).items ∙ ap (λ xs. xs ++ link ∷ []) c.reserve.ensures.items in
    let view = c.self.view_is in
    let same = c.into_raw-raw.ensures.same in
    let right = c.requires in
    let fault : push_fault steps link ≡ None = rw (view, same) right in
    rw (pushed, c.next_version-self-inside.ensures) (more_open steps c.self.inside.version link c.self.invariant fault c.into_raw-raw.ensures.good)
