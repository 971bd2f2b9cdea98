-- There is no fault exactly where the condition holds.
use Rattle.std.proofs.Common.{◌≡◌, Bool, true, false, None, refl}
use Rattle.wt_grid.specs.Unless.{unless}

pub holds : {A : Type 0} (b : Bool) (fault : A) → unless b fault ≡ None → b ≡ true
holds true fault e = refl
holds false fault e = absurd cc

pub fits : {A : Type 0} (b : Bool) (fault : A) → b ≡ true → unless b fault ≡ None
fits b fault e = rw e refl
