use Rattle.std.proofs.Common.{arith, ◌≡◌, ◌<◌, ◌-◌, ◌+◌, ◌^◌, ℕ, suc, length, sym, ap, ◌∙◌}
use Rattle.wt_line.specs.Given.{left}
use Rattle.wt_cert.specs.Trees.{is_tree, is_forest}
use Rattle.wt_cert.proofs.TreeForms.{held_same, none_owed}
use Rattle.wt_cert.proofs.read.forms.tree_form.Goals as goal

pub loop-owed-preserved : goal.loop-owed-preserved
loop-owed-preserved c =
    let few : length (left c.in-Some-next_child.after.more c.in-Some-next_child.after.line.now) < 2 ^ 64 - 1 = c.in-Some-next_child.ensures.few in
    let k : suc (c.loop-owed.owed - 1) ≡ c.loop-owed.owed = omega (arith, c.loop-owed-test.true) in
    let so_far : is_forest c.args.citing c.loop-owed.owed (left c.loop-owed.rest.more c.loop-owed.rest.line.now) ≡ is_tree c.args.citing (left c.args.rest.more c.args.rest.line.now) = c.loop-owed.invariant in
    held_same c.args.citing c.saturating_add-owed.result (c.loop-owed.owed - 1 + c.in-Some-next_child.more) (left c.in-Some-next_child.after.more c.in-Some-next_child.after.line.now) few (omega (arith, c.saturating_add-owed.ensures))
    ∙ sym (c.in-Some-next_child.ensures.form (c.loop-owed.owed - 1))
    ∙ ap (λ (n : ℕ). is_forest c.args.citing n (left c.loop-owed.rest.more c.loop-owed.rest.line.now)) k
    ∙ so_far

pub returns : goal.returns
returns c =
    let zero : c.loop-owed.owed ≡ 0 = omega (arith, c.loop-owed-test.false) in
    none_owed c.args.citing c.loop-owed.rest.more c.loop-owed.rest.line.now
    ∙ ap (λ (n : ℕ). is_forest c.args.citing n (left c.loop-owed.rest.more c.loop-owed.rest.line.now)) (sym zero)
    ∙ c.loop-owed.invariant
