use Rattle.std.proofs.Common.{refl, ◌∙◌, take}
use Rattle.std.proofs.lemmas.List.{get_or-set_same, take-set}
use Rattle.wt_window.specs.Frames.{frame_window}
use Rattle.wt_window.proofs.Searched.{begun_next, placed_stand, front_same, last_same}
use Rattle.wt_window.proofs.search.fill.Goals as goal

pub returns-clause-begun : goal.returns-clause-begun
returns-clause-begun c = begun_next c.args.tables.now.tiles.now (frame_window c.args.frame.now) c.args.filled.now (take c.args.at c.args.filled.now) c.args.at c.args.tile c.requires.within refl c.requires.begun c.requires.next

pub returns-clause-whole : goal.returns-clause-whole
returns-clause-whole c = λ g p e.
    placed_stand g c.args.masks.now _ c.args.at c.args.tile c.place.ensures.same c.place.ensures.alone
    (last_same g _ c.args.at e ∙ get_or-set_same c.args.filled.now c.args.at c.args.tile 0 c.requires.within)
    (c.requires.whole g p (front_same g _ c.args.at e ∙ take-set c.args.filled.now c.args.at c.args.tile))
