use Rattle.std.proofs.Common.{◌∙◌, ap}
use Rattle.wt_grid.specs.declared.axis.Axis.TheVariants.{One, Two}
use Rattle.wt_tile.specs.declared.tile.TileList.{TileList}
use Rattle.wt_refute.specs.Entries.{ascends}
use Rattle.wt_search.proofs.LightEntries.{entries_ascend}
use Rattle.wt_search.proofs.Lightened.{joined_of}
use Rattle.wt_search.proofs.lower.lower.Goals as goal

pub ask_all-requires-clause-pairs : goal.ask_all-requires-clause-pairs
ask_all-requires-clause-pairs c =
    joined_of c.args.raw.now c.requires.good One c.args.below c.args.set.list.now.tiles c.deref-2.result.now (ap (λ (l : TileList). l.tiles) c.requires.set) (c.deref-2.ensures.value ∙ c.requires.come.one)

pub ask_all-requires-clause-in_order : goal.ask_all-requires-clause-in_order
ask_all-requires-clause-in_order c = ap ascends (c.deref.ensures.value ∙ c.requires.come.entries) ∙ entries_ascend c.args.raw.now c.args.below

pub ask_all-requires-2-clause-pairs : goal.ask_all-requires-2-clause-pairs
ask_all-requires-2-clause-pairs c =
    joined_of c.args.raw.now c.requires.good Two c.args.below c.args.set.list.now.tiles c.deref-4.result.now (ap (λ (l : TileList). l.tiles) c.requires.set) (c.deref-4.ensures.value ∙ c.requires.come.two)

pub ask_all-requires-2-clause-in_order : goal.ask_all-requires-2-clause-in_order
ask_all-requires-2-clause-in_order c = ap ascends (c.deref-3.ensures.value ∙ c.requires.come.entries) ∙ entries_ascend c.args.raw.now c.args.below
