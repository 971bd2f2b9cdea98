-- An image of one tile or of two.
use Rattle.std.proofs.Common.{◌≡◌, ℕ, Bool, true, false, List, [], ◌∷◌, Option, Some, Result, refl}
use Rattle.wt_grid.specs.declared.image.Image.TheVariants.{One as Single}
use Rattle.wt_grid.specs.declared.image.Image.{Image}
use Rattle.wt_line.specs.declared.faults.What.{What}
use Rattle.wt_line.specs.Given.{left}
use Rattle.wt_text.specs.Words.{tokens}
use Rattle.wt_text.specs.Spellings.{IsNotEmpty}
use Rattle.wt_text.specs.Readers.{◌>>=◌, pair, mapped}
use Rattle.wt_text.proofs.Split.{some_tokens}
use Rattle.wt_line.specs.Limits.{small}
use Rattle.wt_cert.specs.LineForms.{image_of, image_behind}

pub one_image : (u : Result ℕ What) (more : Bool) (line : List ℕ) → more ≡ false → image_behind u (left more line) ≡ Some (mapped Single u, [])
one_image u true line e = absurd cc
one_image u false line e = refl

abbrev pub second_image : Result ℕ What → List (List ℕ) → Option (Result Image What × List (List ℕ))
second_image u ts = small ts >>= λ v. Some (mapped image_of (pair u v.0), v.1)

pub two_images : (u : Result ℕ What) (more : Bool) (line : List ℕ) → more ≡ true → image_behind u (left more line) ≡ second_image u (left more line)
two_images u false line e = absurd cc
two_images u true line e = go (tokens line) (some_tokens line)
  where
    go : (ts : List (List ℕ)) → IsNotEmpty ts → image_behind u ts ≡ second_image u ts
    go [] s = absurd s
    go (t ∷ ts) s = refl
