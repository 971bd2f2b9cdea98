-- Scaffolding: the zones of an axis, as the code keeps them.
use Rattle.std.specs.Prelude.{◌≡◌, not, true, None}
use Rattle.wt_grid.specs.declared.axis.Axis.{Axis}
use Rattle.wt_torus.specs.Boxes.{Rotation}
use Rattle.wt_induce.specs.declared.zones.Zones.{Zones}
use Rattle.wt_induce.specs.declared.zones.Frame.{Frame}
use Rattle.wt_induce.specs.Zones.{frame_on, zone}
use Rattle.wt_induce.specs.Faults.{zones_fit, zones_fault}

-- the window of the axis, its zone of single returns and its zone of double ones
pub record IsZones (axis : Axis) (r : Rotation) (z : Zones) : Type 0 where
  pub frame : z.frame ≡ frame_on axis r
  pub single : z.single ≡ zone axis (frame_on axis r) (frame_on axis r).single_below
  pub double : z.double ≡ zone axis (frame_on axis r) (not (frame_on axis r).single_below)

-- the window, its zone of single returns and its zone of double ones, where these are within limits
abbrev pub AreZones : Axis → Frame → Zones → Type 0
AreZones axis w z =
    (z.frame ≡ w) × (z.single ≡ zone axis w w.single_below) × (z.double ≡ zone axis w (not w.single_below)) × (zones_fit axis w ≡ true)

-- the zones of the axis, where they can be had
abbrev pub IsZonesWithin : Axis → Rotation → Zones → Type 0
IsZonesWithin axis r z = IsZones axis r z × (zones_fault axis r ≡ None)
