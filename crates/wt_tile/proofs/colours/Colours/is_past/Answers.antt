use Rattle.std.proofs.Common.{sym, ◌∙◌, ap, ◌≡◌, List, length, Bool}
use Rattle.std.specs.List.{list_any}
use Rattle.wt_tile.specs.declared.fusion.Edge.{Edge}
use Rattle.wt_tile.specs.contracts.fusion.EdgePartialEq.TheImpl.{eq-value}
use Rattle.wt_tile.proofs.Numbering.{past}
use Rattle.wt_tile.proofs.colours.Colours.is_past.Goals as goal

pub returns-then-len-eq-MAX_COLOURS : goal.returns-then-len-eq-MAX_COLOURS
returns-then-len-eq-MAX_COLOURS c =
    let v : c.self.inside.edges.keys ≡ c.args.self.now = c.self.view_is in
    let l = c.len.ensures.len in
    past c.args.self.now c.args.edge c.contains.result (sym (ap length v) ∙ sym l ∙ c.if-len-eq-MAX_COLOURS.true) (c.contains.ensures ∙ ap (list_any (eq-value.it c.args.edge)) v)
