use Rattle.std.proofs.Common.{◌≡◌, ◌++◌, map, drop}
use Rattle.serde_json.specs.View.{view}
use Rattle.wt_session.specs.Json.{region_json}
use Rattle.wt_session.proofs.json_partitions.regions_json.Given as goal

abbrev pub invariant-loop-r : goal.invariant-loop-r
invariant-loop-r l = map view l.items.items ++ map region_json (drop l.r-index l.regions) ≡ map region_json l.regions
