-- Texts without a newline.
use Rattle.std.proofs.Common.{◌≢◌, ℕ, List, [], ◌∷◌, refl, sym, subst}
use Rattle.std.specs.Prelude.{All}
use Rattle.wt_text.specs.Lines.{lines}
use Rattle.wt_line.specs.Faults.{NoLine}
use Rattle.wt_io.proofs.Cuts.{last_line}

pub no_line : (bytes : List ℕ) → All (λ x. x ≢ 10) bytes → NoLine (lines bytes)
no_line [] h = tt
no_line (b ∷ bs) h = subst NoLine (sym (last_line b bs h)) refl
