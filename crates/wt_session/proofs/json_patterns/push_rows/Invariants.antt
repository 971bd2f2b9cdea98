use Rattle.std.proofs.Common.{◌≡◌, ◌++◌, ◌-◌, nat_lt, false}
use Rattle.serde_json.specs.View.{items_of}
use Rattle.serde_json.specs.Written.{items_text}
use Rattle.wt_session.specs.Json.{rows_json}
use Rattle.wt_session.proofs.json_patterns.push_rows.Given as goal

abbrev pub invariant-loop-y : goal.invariant-loop-y
invariant-loop-y l = l.out.items ++ items_text (nat_lt 0 l.y) (items_of (rows_json l.p l.y (l.p.height - l.y))) ≡ l.initial.out.items ++ items_text false (items_of (rows_json l.p 0 l.p.height))
