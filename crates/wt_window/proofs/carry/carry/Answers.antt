use Rattle.std.proofs.Common.{sym, ◌∙◌}
use Rattle.wt_window.specs.Frames.{frame_window}
use Rattle.wt_window.proofs.Carried.{carried, none_left}
use Rattle.wt_window.proofs.carry.carry.Goals as goal

pub returns-clause-kept : goal.returns-clause-kept
returns-clause-kept c = λ g p s. carried c.args.tables.now.tiles.now (frame_window c.args.frame.now) g _ _ _ c.args.way c.args.cell c.in-Some.to c.requires.frame.wide c.requires.low c.beside-2.ensures (sym c.beside.ensures ∙ c.in-Some.is) c.narrow.ensures.others c.narrow.ensures.kept p s

pub returns-clause-nothing : goal.returns-clause-nothing
returns-clause-nothing c = λ e g p s. none_left c.args.tables.now.tiles.now (frame_window c.args.frame.now) g _ c.args.way c.args.cell c.in-Some.to c.args.tables.now.few c.requires.frame.wide c.requires.low (sym c.beside.ensures ∙ c.in-Some.is) (c.narrow.ensures.nothing e) p
    (carried c.args.tables.now.tiles.now (frame_window c.args.frame.now) g _ _ _ c.args.way c.args.cell c.in-Some.to c.requires.frame.wide c.requires.low c.beside-2.ensures (sym c.beside.ensures ∙ c.in-Some.is) c.narrow.ensures.others c.narrow.ensures.kept p s)
