use Rattle.std.proofs.Common.{◌≡◌, ◌∙◌, List, subst}
use Rattle.wt_tile.specs.declared.tile.Tile.{Tile}
use Rattle.wt_window.specs.Outcomes.{MayAnswerTable}
use Rattle.wt_window.proofs.domino_table.dominoes.Goals as goal

pub returns : goal.returns
returns c =
    let e : c.in-Ok.tables.tiles.now ≡ c.args.set.list.now.tiles = c.in-Ok.ensures ∙ c.tiles.ensures.value in
    subst (λ (ts : List Tile). MayAnswerTable ts c.args.axis c.args.radius c.args.budget c.table_with.result) e c.table_with.ensures
