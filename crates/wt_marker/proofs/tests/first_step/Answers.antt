use Rattle.std.proofs.Common.{◌∙◌, ap, subst, ℕ, List, Contains, map}
use Rattle.wt_marker.proofs.Callers.{listed_plan}
use Rattle.wt_marker.proofs.tests.first_step.Goals as goal

pub derive_step-requires-clause-plan : goal.derive_step-requires-clause-plan
derive_step-requires-clause-plan c =
    listed_plan c.args.set.list.now c.args.axis c.args.side c.args.radius c.in-Some.class.now _ _ (c.in_ok-one.ensures {u = tt}) (c.in_ok-two.ensures {u = tt})
    (subst (λ (cs : List (List ℕ)). Contains cs c.in-Some.class.now) (ap (map (λ v. v.items)) c.as_slice.ensures.value ∙ c.in_ok-classes.ensures {u = tt}) (c.in-Some.ensures {u = tt}))
