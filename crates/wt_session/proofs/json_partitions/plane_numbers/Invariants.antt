use Rattle.std.proofs.Common.{◌≡◌, ◌++◌, map, drop}
use Rattle.serde_json.specs.View.{view}
use Rattle.wt_session.specs.Json.{signed}
use Rattle.wt_session.proofs.json_partitions.plane_numbers.Given as goal

abbrev pub invariant-loop-number : goal.invariant-loop-number
invariant-loop-number l = map view l.items.items ++ map signed (drop l.number-index l.numbers) ≡ map signed l.numbers
