use Rattle.std.specs.Prelude.{◌≡◌, ◌&&◌, ◌++◌, drop, nat_eq}
use Rattle.std.specs.List.{list_any}
use Rattle.wt_markov.specs.Follow.{meets}
use Rattle.wt_markov.proofs.window.has_label.Given as goal

abbrev pub invariant-loop-q : goal.invariant-loop-q
invariant-loop-q l =
    list_any (λ q. nat_eq q.label l.label && meets (q.region.planes ++ l.side)) (drop l.q-index l.regions)
    ≡ list_any (λ q. nat_eq q.label l.label && meets (q.region.planes ++ l.side)) l.regions
