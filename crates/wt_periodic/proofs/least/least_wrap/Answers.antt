use Rattle.std.proofs.Common.{arith, ℕ, List, ◌∙◌, sym, subst}
use Rattle.wt_pattern.specs.Shape.{IsShape}
use Rattle.wt_periodic.proofs.Sizes.{wrap_shape}
use Rattle.wt_periodic.proofs.Ends.{answers_spent, answers_zero, answers_none}
use Rattle.wt_periodic.proofs.least.least_wrap.Goals as goal

pub returns-then-budget-eq0 : goal.returns-then-budget-eq0
returns-then-budget-eq0 c = answers_zero c.args.set.list.now.tiles c.args.limit c.args.budget c.requires.low c.if-budget-eq0.true

pub returns-in-Spent : goal.returns-in-Spent
returns-in-Spent c = answers_spent c.in-Ok.rounds.tables.tiles.now _ c.args.limit c.args.budget c.in-Spent.size.width c.in-Spent.size.height (c.in-Ok.ensures {u = tt} ∙ c.tiles.ensures.value) (c.first_size.ensures.spent c.in-Spent.size c.in-Spent.is)

pub returns-in-Nothing : goal.returns-in-Nothing
returns-in-Nothing c = answers_none c.in-Ok.rounds.tables.tiles.now _ c.args.limit c.args.budget (c.in-Ok.ensures {u = tt} ∙ c.tiles.ensures.value) (omega arith) (c.first_size.ensures.nothing c.in-Nothing.is)

pub of-requires : goal.of-requires
of-requires c =
    let p = (c.first_size.ensures.wrap c.in-Wrap.size c.in-Wrap.is).1 in
    subst (λ (l : List ℕ). IsShape (record { width = c.in-Wrap.size.width; height = c.in-Wrap.size.height; cells = l })) (sym (c.in-Ok-from_slice.ensures {u = tt}).items)
    (wrap_shape c.in-Ok.rounds.tables.tiles.now c.args.limit (record { width = c.in-Wrap.size.width; height = c.in-Wrap.size.height; cells = _ }) c.requires.high p)
