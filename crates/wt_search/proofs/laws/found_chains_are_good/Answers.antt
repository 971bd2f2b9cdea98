use Rattle.wt_search.proofs.Sound.{sound_found}
use Rattle.wt_search.proofs.laws.found_chains_are_good.Goals as goal

pub returns : goal.returns
returns c = λ s set levels chain f.
    let sound = sound_found s set f.radius f.good levels chain f.few f.found in
    (sound.0, sound.1)
