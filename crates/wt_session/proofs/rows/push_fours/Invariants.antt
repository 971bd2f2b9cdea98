use Rattle.std.proofs.Common.{◌≡◌, ◌++◌, drop}
use Rattle.wt_session.specs.Rows.{rows_text}
use Rattle.wt_session.proofs.rows.push_fours.Given as goal

abbrev pub invariant-loop-four : goal.invariant-loop-four
invariant-loop-four l = l.out.items ++ rows_text (drop l.four-index l.fours) ≡ l.initial.out.items ++ rows_text l.fours
