use Rattle.std.proofs.Common.{◌≡◌, ◌∙◌, sym, ap, subst, inr, map, slice_get, List, ℕ}
use Rattle.std.specs.Prelude.{IfOk, Ok}
use Rattle.wt_window.specs.Surrounded.{allowed}
use Rattle.wt_search.specs.Asked.{asked, IsSpent}
use Rattle.wt_search.proofs.Levels.{step_none, step_by, err_by, first_contained}
use Rattle.wt_search.proofs.level.level_step.Goals as goal

pub returns-in-None-clause-err : goal.returns-in-None-clause-err
returns-in-None-clause-err c =
    let s = asked c.args.axes.now c.args.side c.args.radius c.args.budget in
    let none = ap (λ (xs : List (List ℕ)). slice_get xs 0) (sym c.in-Ok-marker_classes.ensures) ∙ (ap (λ xs. slice_get (map (λ v. v.items) xs) 0) (sym c.deref.ensures.value) ∙ sym c.in-None.ensures) in
    inr (inr (step_none s c.args.level c.args.set.list.now c.axis_of-axis.result (allowed c.in-Ok.tables.0) (allowed c.in-Ok.tables.1) c.axis_of-axis.ensures (c.in-Ok.ensures {u = tt}).one (c.in-Ok.ensures {u = tt}).two none))

pub step_of-requires-clause-kept : goal.step_of-requires-clause-kept
step_of-requires-clause-kept c =
    let some = ap (λ (xs : List (List ℕ)). slice_get xs 0) (sym c.in-Ok-marker_classes.ensures) ∙ (ap (λ xs. slice_get (map (λ v. v.items) xs) 0) (sym c.deref.ensures.value) ∙ sym c.in-Some.ensures) in
    first_contained _ c.in-Some.class.now some

pub returns-clause-ok : goal.returns-clause-ok
returns-clause-ok c =
    let s = asked c.args.axes.now c.args.side c.args.radius c.args.budget in
    let some = ap (λ (xs : List (List ℕ)). slice_get xs 0) (sym c.in-Ok-marker_classes.ensures) ∙ (ap (λ xs. slice_get (map (λ v. v.items) xs) 0) (sym c.deref.ensures.value) ∙ sym c.in-Some.ensures) in
    let same = step_by s c.args.level c.args.set.list.now c.axis_of-axis.result (allowed c.in-Ok.tables.0) (allowed c.in-Ok.tables.1) c.axis_of-axis.ensures (c.in-Ok.ensures {u = tt}).one (c.in-Ok.ensures {u = tt}).two c.in-Some.class.now some in
    subst (λ w. IfOk c.step_of.result (λ step. w ≡ Ok step)) (sym same) c.step_of.ensures.ok

pub returns-clause-err : goal.returns-clause-err
returns-clause-err c =
    let s = asked c.args.axes.now c.args.side c.args.radius c.args.budget in
    let some = ap (λ (xs : List (List ℕ)). slice_get xs 0) (sym c.in-Ok-marker_classes.ensures) ∙ (ap (λ xs. slice_get (map (λ v. v.items) xs) 0) (sym c.deref.ensures.value) ∙ sym c.in-Some.ensures) in
    let same = step_by s c.args.level c.args.set.list.now c.axis_of-axis.result (allowed c.in-Ok.tables.0) (allowed c.in-Ok.tables.1) c.axis_of-axis.ensures (c.in-Ok.ensures {u = tt}).one (c.in-Ok.ensures {u = tt}).two c.in-Some.class.now some in
    err_by c.step_of.result (IsSpent c.args.set.list.now.tiles c.args.radius c.args.budget c.args.level) _ _ same c.step_of.ensures.err
