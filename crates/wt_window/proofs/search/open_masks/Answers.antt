use Rattle.std.proofs.Common.{sym, subst}
use Rattle.wt_window.specs.Trials.{Window}
use Rattle.wt_window.specs.Frames.{IsBox, IsTiled}
use Rattle.wt_window.proofs.Found.{all_stand, window_box}
use Rattle.wt_window.proofs.search.open_masks.Goals as goal

pub propagate-requires : goal.propagate-requires
propagate-requires c = record { frame = subst (λ (w : Window). IsBox w.width w.height) (sym c.frame_of-frame.ensures) (window_box c.args.axis c.args.radius c.requires) }

pub returns : goal.returns
returns c = λ g p.
    let box = subst (λ (w : Window). IsBox w.width w.height) (sym c.frame_of-frame.ensures) (window_box c.args.axis c.args.radius c.requires) in
    let there = subst (λ (w : Window). IsTiled c.args.tables.now.tiles.now w.width w.height g) (sym c.frame_of-frame.ensures) p in
    c.propagate.ensures.kept g there (all_stand c.args.tables.now.tiles.now c.frame_of-frame.result.width c.frame_of-frame.result.height g c.args.tables.now.all c.args.tables.now.whole box.few there)
