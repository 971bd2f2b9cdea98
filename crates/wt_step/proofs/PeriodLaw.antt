-- A period of a valid pattern is a period of its coarse pattern.
use Rattle.std.proofs.Common.{arith, ◌≤◌, ◌<◌, ◌+◌, ℕ, Bool, true, false, cond, sym, subst}
use Rattle.wt_grid.specs.Axes.{other}
use Rattle.wt_grid.specs.declared.axis.Axis.{Axis}
use Rattle.wt_pattern.specs.Patterns.{IsPattern}
use Rattle.wt_grid.specs.Grid.{Grid, IsGrid, along, across}
use Rattle.wt_grid.specs.Parts.{core}
use Rattle.wt_grid.specs.Lines.{IsGood}
use Rattle.wt_grid.specs.Cuts.{step_table}
use Rattle.wt_grid.specs.Shifts.{HasVector}
use Rattle.wt_grid.proofs.CarriedGrids.{core_repeated, carried_grid}
use Rattle.wt_step.specs.declared.raw.RawStep.{RawStep}
use Rattle.wt_step.specs.Words.{allows, is_marker}
use Rattle.wt_step.specs.Good.{IsGoodStep}
use Rattle.wt_step.specs.Meaning.{allowing, pieces, IsMarkerDesubstitution}
use Rattle.wt_step.specs.Carried.{IsCarried}
use Rattle.wt_step.proofs.Cores.{core_allowed}
use Rattle.wt_step.proofs.Tables.{good_table}

pub lead : (opposed : Bool) (e n : ℕ) → e < n → 0 < n → cond opposed e 0 < n
lead true e n lt le = lt
lead false e n lt le = le

pub lag : (opposed : Bool) (e n : ℕ) → e < n → 0 < n → cond opposed 0 e < n
lag true e n lt le = le
lag false e n lt le = lt

-- the table of a good step, said with the axes of rectangles
pub the_table : (s : RawStep) → IsGoodStep s → IsGood (step_table s.side (allowing s s.axis) (allowing s (other s.axis)) (is_marker s) (pieces s))
the_table s g =
    (good_table s g)

pub carried : (s : RawStep) → IsGoodStep s → (p q : Grid) → IsPattern s.fine.tiles p → IsGrid q → IsMarkerDesubstitution s p q → (opposed : Bool) (d e : ℕ)
    → d + 3 ≤ along s.axis (core s.radius p) → e < across s.axis (core s.radius p) → HasVector s.axis opposed d e p → (n : ℕ) × IsCarried s opposed d e n q
carried s g p q v iq i opposed d e la lc h =
    let a = s.axis in
    let c = core s.radius p in
    let k = carried_grid a s.side (allowing s) (is_marker s) (pieces s) (the_table s g) c q d (cond opposed e 0) (cond opposed 0 e)
    (core_allowed s g p v.1 v.2) iq i la (lead opposed e (across a c) lc (omega arith)) (lag opposed e (across a c) lc (omega arith))
    (core_repeated a s.radius d (cond opposed e 0) (cond opposed 0 e) p h) in
    (k.0, record { vector = k.1.repeated; filled = k.1.filled; few = k.1.few; shorter = k.1.shorter; half = k.1.doubled })
