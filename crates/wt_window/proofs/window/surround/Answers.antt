use Rattle.std.proofs.Common.{◌≡◌, ◌∙◌, List, sym, subst}
use Rattle.wt_tile.specs.declared.tile.Tile.{Tile}
use Rattle.wt_window.specs.Outcomes.{MayAnswerWindow}
use Rattle.wt_window.proofs.Outcomes.{unmatched, at_zero}
use Rattle.wt_window.proofs.window.surround.Goals as goal

pub returns-then-not-matches : goal.returns-then-not-matches
returns-then-not-matches c = unmatched c.args.set.list.now.tiles c.args.axis c.args.a c.args.b c.args.radius c.args.budget (sym c.matches.ensures ∙ c.if-not-matches.true)

pub returns-then-budget-eq0 : goal.returns-then-budget-eq0
returns-then-budget-eq0 c = at_zero c.args.set.list.now.tiles c.args.axis c.args.a c.args.b c.args.radius c.args.budget (sym c.matches.ensures ∙ c.if-not-matches.false) c.if-budget-eq0.true

pub returns : goal.returns
returns c =
    let e : c.in-Ok.tables.tiles.now ≡ c.args.set.list.now.tiles = c.in-Ok.ensures ∙ c.tiles.ensures.value in
    subst (λ (ts : List Tile). MayAnswerWindow ts c.args.axis c.args.a c.args.b c.args.radius c.args.budget c.least_window.result) e c.least_window.ensures
