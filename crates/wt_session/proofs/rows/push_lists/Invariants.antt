use Rattle.std.proofs.Common.{◌≡◌, ◌++◌, drop, map}
use Rattle.wt_session.specs.Rows.{rows_text}
use Rattle.wt_session.proofs.rows.push_lists.Given as goal

abbrev pub invariant-loop-list : goal.invariant-loop-list
invariant-loop-list l = l.out.items ++ rows_text (map (λ x. x.items) (drop l.list-index l.lists)) ≡ l.initial.out.items ++ rows_text (map (λ x. x.items) l.lists)
