-- A rectangle without a fault round its border wraps round.
use Rattle.std.proofs.Common.{◌≡◌, ℕ, ◌<◌, List, None, Some, Bool, true, false, not, if◌then◌else◌, refl}
use Rattle.wt_grid.specs.declared.axis.Axis.TheVariants.{One, Two}
use Rattle.wt_tile.specs.declared.tile.Tile.{Tile}
use Rattle.wt_tile.specs.Matching.{matches}
use Rattle.wt_grid.specs.Grid.{Grid, cell}
use Rattle.wt_pattern.specs.declared.fault.Fault.{Fault}
use Rattle.wt_pattern.proofs.FaultLaws.{each_none, none_each}
use Rattle.wt_periodic.specs.Wraps.{cell_right, cell_above, IsWrap, wrap_fault_at, wrap_fault_in, first_wrap_fault}

both_match : (a b : Bool) (f g : Fault) → (if not a then Some f else if not b then Some g else None) ≡ None → (a ≡ true) × (b ≡ true)
both_match true true f g e = (refl, refl)
both_match true false f g e = absurd (cc)
both_match false b f g e = absurd (cc)

pub is_wrap : (ts : List Tile) (g : Grid) → first_wrap_fault ts g ≡ None → IsWrap ts g
is_wrap ts g e = record { right = λ x y lx ly. (here x y lx ly).0; above = λ x y lx ly. (here x y lx ly).1 }
  where
    here : (x y : ℕ) → x < g.width → y < g.height → (matches ts One (cell g x y) (cell_right g x y) ≡ true) × (matches ts Two (cell g x y) (cell_above g x y) ≡ true)
    here x y lx ly = both_match (matches ts One (cell g x y) (cell_right g x y)) (matches ts Two (cell g x y) (cell_above g x y)) _ _
        (each_none (wrap_fault_at ts g y) g.width (each_none (wrap_fault_in ts g) g.height e y ly) x lx)

pub no_wrap_fault : (ts : List Tile) (g : Grid) → IsWrap ts g → first_wrap_fault ts g ≡ None
no_wrap_fault ts g w = none_each (wrap_fault_in ts g) g.height (λ y ly. none_each (wrap_fault_at ts g y) g.width (λ x lx.
    rw (w.right x y lx ly, w.above x y lx ly) refl))
