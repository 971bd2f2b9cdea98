use Rattle.std.proofs.Common.{◌≡◌, drop}
use Rattle.std.specs.List.{list_all}
use Rattle.wt_chain.specs.Versions.{is_first_version}
use Rattle.wt_chain.proofs.version.are_first_version.Given as goal

abbrev pub invariant-loop-link : goal.invariant-loop-link
invariant-loop-link l = list_all is_first_version (drop l.link-index l.links) ≡ list_all is_first_version l.links
