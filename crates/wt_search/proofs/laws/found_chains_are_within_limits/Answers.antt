use Rattle.wt_search.proofs.Small.{small_found}
use Rattle.wt_search.proofs.Sound.{sound_found}
use Rattle.wt_search.proofs.laws.found_chains_are_within_limits.Goals as goal

pub returns : goal.returns
returns c = λ s set levels chain f.
    let small = small_found s set levels chain f.found in
    record { steps = (sound_found s set f.radius f.good levels chain f.few f.found).2; nodes = small.nodes; end = small.end }
