-- What is left of a line.
use Rattle.std.proofs.Common.{◌≡◌, ℕ, Bool, true, false, List, [], ◌∷◌}
use Rattle.wt_text.specs.Words.{tokens}
use Rattle.wt_text.specs.Spellings.{IsNotEmpty}
use Rattle.wt_text.proofs.Split.{some_tokens}
use Rattle.wt_line.specs.declared.faults.LineFault.TheVariants.{Wrong}
use Rattle.wt_line.specs.Given.{left}
use Rattle.wt_line.specs.Faults.{IsWrong}

pub more_is_wrong : (more : Bool) (line : List ℕ) → more ≡ true → IsWrong Wrong (left more line)
more_is_wrong false line e = absurd cc
more_is_wrong true line e = go (tokens line) (some_tokens line)
  where
    go : (ts : List (List ℕ)) → IsNotEmpty ts → IsWrong Wrong ts
    go [] s = absurd s
    go (t ∷ ts) s = tt
