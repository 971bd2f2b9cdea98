use Rattle.std.proofs.Common.{◌≡◌, drop}
use Rattle.std.specs.List.{list_all}
use Rattle.wt_chain.specs.Versions.{is_plain}
use Rattle.wt_chain.proofs.version.are_plain.Given as goal

abbrev pub invariant-loop-entry : goal.invariant-loop-entry
invariant-loop-entry l = list_all (is_plain l.radius) (drop l.entry-index l.refuted) ≡ list_all (is_plain l.radius) l.refuted
