use Rattle.std.proofs.Common.{◌/◌, ℕ, subst}
use Rattle.wt_periodic.specs.Wraps.{HasNoWrapOf}
use Rattle.wt_periodic.proofs.Sizes.{divides, height_of, next_width}
use Rattle.wt_periodic.proofs.least.of_area.Goals as goal

pub loop-width-preserved-then-area-width-ne0 : goal.loop-width-preserved-then-area-width-ne0
loop-width-preserved-then-area-width-ne0 c = next_width (HasNoWrapOf c.args.rounds.now.tables.tiles.now) c.args.limit c.args.area c.loop-width.width c.loop-width.invariant
    (λ n s e. absurd (c.if-area-width-ne0.true (divides c.loop-width.width n c.args.area e)))

pub loop-width-preserved : goal.loop-width-preserved
loop-width-preserved c = next_width (HasNoWrapOf c.args.rounds.now.tables.tiles.now) c.args.limit c.args.area c.loop-width.width c.loop-width.invariant
    (λ n s e. subst (λ (k : ℕ). HasNoWrapOf c.args.rounds.now.tables.tiles.now c.loop-width.width k) (height_of c.loop-width.width n c.args.area s.wide e) (c.find.ensures.nothing c.in-Nothing.left c.in-Nothing.is))

pub loop-width-preserved-then-widths-width : goal.loop-width-preserved-then-widths-width
loop-width-preserved-then-widths-width c = next_width (HasNoWrapOf c.args.rounds.now.tables.tiles.now) c.args.limit c.args.area c.loop-width.width c.loop-width.invariant
    (λ n s e. c.requires.widths c.loop-width.width c.if-widths-width.true n)

pub loop-width-preserved-then-heights-height : goal.loop-width-preserved-then-heights-height
loop-width-preserved-then-heights-height c = next_width (HasNoWrapOf c.args.rounds.now.tables.tiles.now) c.args.limit c.args.area c.loop-width.width c.loop-width.invariant
    (λ n s e. subst (λ (k : ℕ). HasNoWrapOf c.args.rounds.now.tables.tiles.now c.loop-width.width k) (height_of c.loop-width.width n c.args.area s.wide e)
    (c.requires.heights (c.args.area / c.loop-width.width) c.if-heights-height.true c.loop-width.width))
