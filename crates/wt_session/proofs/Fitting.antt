-- The first command of a script is within its limits.
use Rattle.std.proofs.Common.{arith, ◌<◌, List, [], ◌∷◌, length, get_or}
use Rattle.wt_script.specs.declared.word.Command.{Command}
use Rattle.wt_script.specs.Fits.{Fits, AllFitting}

pub first_fits : (cs : List Command) (d : Command) → 0 < length cs → AllFitting cs → Fits (get_or cs 0 d).word
first_fits [] d lt fits = absurd (omega (arith, lt))
first_fits (c ∷ cs) d lt fits = fits.0
