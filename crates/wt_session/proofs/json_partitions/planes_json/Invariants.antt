use Rattle.std.proofs.Common.{◌≡◌, ◌++◌, map, drop}
use Rattle.serde_json.specs.View.{view}
use Rattle.wt_session.specs.Json.{plane_json}
use Rattle.wt_session.proofs.json_partitions.planes_json.Given as goal

abbrev pub invariant-loop-plane : goal.invariant-loop-plane
invariant-loop-plane l = map view l.items.items ++ map plane_json (drop l.plane-index l.planes) ≡ map plane_json l.planes
