-- What a good step of either kind does to sizes, periods and runs of cells.
use Rattle.std.specs.Prelude.{ℕ, ◌+◌, ◌*◌, ◌≤◌, Bool, true, false, List, ◌∷◌}
use Rattle.wt_grid.specs.Axes.{same_axis}
use Rattle.wt_chain.specs.Growth.{is_along}
use Rattle.wt_grid.specs.declared.axis.Axis.TheVariants.{One, Two}
use Rattle.wt_grid.specs.declared.axis.Axis.{Axis}
use Rattle.wt_pattern.specs.Patterns.{IsPattern}
use Rattle.wt_grid.specs.Grid.{Grid}
use Rattle.wt_grid.specs.Shifts.{HasVector}
use Rattle.wt_grid.specs.Widths.{Stage}
use Rattle.wt_grid.specs.Traces.{IsStageOf, IsTraced}
use Rattle.wt_step.specs.declared.raw.RawLink.{RawLink}
use Rattle.wt_step.specs.declared.raw.RawLink.TheVariants.{Marker, Restrict}
use Rattle.wt_step.specs.Links.{coarse_of}
use Rattle.wt_step.specs.Meaning.{pieces_of}
use Rattle.wt_step.specs.Coarse.{IsDesubstitution}

-- the side that a rectangle needs so that its coarse one has this side: margins and cuts are paid
abbrev pub side_below : RawLink → ℕ → ℕ
side_below (Marker s) side = 2 * side + 2 * s.radius + 2
side_below (Restrict s) side = side + 2 * s.radius

-- The coarse pattern of a pattern with a period: it is as large as is asked, and has a period no longer, of which each part is at least half as long, and a restrict step's is the same; and its runs of cells stand for the runs of cells below, at every place.
pub record HasCoarsePeriod (l : RawLink) (p : Grid) (side : ℕ) (opposed : Bool) (dx dy : ℕ) : Type 0 where
  pub coarse : Grid
  pub image : IsDesubstitution l p coarse
  pub pattern : IsPattern (coarse_of l).tiles coarse
  pub wide : side ≤ coarse.width
  pub high : side ≤ coarse.height
  pub right : ℕ
  pub up : ℕ
  pub vector : HasVector One opposed right up coarse
  pub right_shorter : right ≤ dx
  pub up_shorter : up ≤ dy
  pub right_half : dx ≤ right + right
  pub up_half : dy ≤ up + up
  pub right_runs : (s : Stage) (ss : List Stage) (d : ℕ) → IsStageOf (is_along One l) (pieces_of l) s → IsTraced One ss d p dx → IsTraced One (s ∷ ss) d coarse right
  pub up_runs : (s : Stage) (ss : List Stage) (d : ℕ) → IsStageOf (is_along Two l) (pieces_of l) s → IsTraced Two ss d p dy → IsTraced Two (s ∷ ss) d coarse up

-- the rectangle pays for the margin and the cuts of a step, and leaves this side
abbrev pub HasSideLeft : RawLink → Grid → ℕ → Type 0
HasSideLeft l p side = (side_below l side ≤ p.width) × (side_below l side ≤ p.height)

-- each period of a rectangle has become one of a coarse pattern of any side that the rectangle pays for, and that is two more than the period is long
abbrev pub HasCoarsePeriods : RawLink → Grid → Type 0
HasCoarsePeriods l p = (side : ℕ) (opposed : Bool) (dx dy : ℕ) → HasSideLeft l p side → dx + 2 ≤ side → dy + 2 ≤ side
    → HasVector One opposed dx dy p → HasCoarsePeriod l p side opposed dx dy
