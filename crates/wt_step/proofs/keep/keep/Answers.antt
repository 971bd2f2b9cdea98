use Rattle.std.proofs.Common.{◌≡◌, sym, subst}
use Rattle.wt_grid.specs.Grid.{Grid, grid_of}
use Rattle.wt_grid.specs.Parts.{core}
use Rattle.wt_pattern.specs.Patterns.{IsPattern}
use Rattle.wt_step.specs.Meaning.{IsRestriction}
use Rattle.wt_step.specs.Blocks.{kept_tile}
use Rattle.wt_step.proofs.Placed.{placed_kept}
use Rattle.wt_step.proofs.keep.keep.Goals as goal

pub returns-clause-kept : goal.returns-clause-kept
returns-clause-kept c =
    let s = c.args.raw.now in
    let p = c.args.p.now in
    let e : c.in_ok-pattern.pattern ≡ grid_of (core s.radius p).width (core s.radius p).height (kept_tile s p c.in_ok-places.places.items) =
    rw (c.core_lines-width.ensures.value, c.core_across-height.ensures.value, c.deref.ensures.value) at (c.in_ok-pattern.ensures {u = tt}) in
    subst (λ (q : Grid). IsRestriction s p q) (sym e) (placed_kept s c.requires.good p c.requires.pattern c.requires.wide c.requires.high c.in_ok-places.places.items (c.in_ok-places.ensures {u = tt})).0

pub returns-clause-valid : goal.returns-clause-valid
returns-clause-valid c =
    let s = c.args.raw.now in
    let p = c.args.p.now in
    let e : c.in_ok-pattern.pattern ≡ grid_of (core s.radius p).width (core s.radius p).height (kept_tile s p c.in_ok-places.places.items) =
    rw (c.core_lines-width.ensures.value, c.core_across-height.ensures.value, c.deref.ensures.value) at (c.in_ok-pattern.ensures {u = tt}) in
    subst (λ (q : Grid). IsPattern s.coarse.tiles q) (sym e) (placed_kept s c.requires.good p c.requires.pattern c.requires.wide c.requires.high c.in_ok-places.places.items (c.in_ok-places.ensures {u = tt})).1
