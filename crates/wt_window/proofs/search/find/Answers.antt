use Rattle.std.proofs.Common.{sym, subst, length}
use Rattle.wt_window.specs.Trials.{Window}
use Rattle.wt_window.specs.Frames.{IsFrame, frame_window}
use Rattle.wt_window.proofs.Found.{window_frame, least_found, none_found}
use Rattle.wt_window.proofs.search.find.Goals as goal

pub find_in-requires-clause-frame : goal.find_in-requires-clause-frame
find_in-requires-clause-frame c = subst (λ (w : Window). IsFrame (length c.args.tables.now.tiles.now) w) (sym c.frame_of-frame.ensures)
    (window_frame c.args.axis c.args.a c.args.b c.args.radius (length c.args.tables.now.tiles.now) c.requires.radius c.requires.first c.requires.second)

pub returns-clause-window : goal.returns-clause-window
returns-clause-window c = λ e. least_found c.args.tables.now.tiles.now c.args.axis c.args.a c.args.b c.args.radius (frame_window c.frame_of-frame.result) c.find_in.new.filled c.frame_of-frame.ensures (c.find_in.ensures.window e) (c.find_in.ensures.least e)

pub returns-clause-nothing : goal.returns-clause-nothing
returns-clause-nothing c = λ left e. none_found c.args.tables.now.tiles.now c.args.axis c.args.a c.args.b c.args.radius (frame_window c.frame_of-frame.result) c.frame_of-frame.ensures (c.find_in.ensures.nothing left e)
