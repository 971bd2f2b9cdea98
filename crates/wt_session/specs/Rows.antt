-- Numbers in lines.
use Rattle.std.specs.Prelude.{ℕ, List, ◌∷◌, [], ◌++◌, map, codes}
use Rattle.std.specs.List.{flat_map}
use Rattle.std.specs.Fmt.{decimal}
use Rattle.wt_text.specs.Words.{spaced}
use Rattle.wt_write.specs.Behind.{behind_spaces}

-- numbers with a space between each two, in a line
abbrev pub row_text : List ℕ → List ℕ
row_text ns = spaced (map decimal ns) ++ 10 ∷ []

-- each list in a line of its own
abbrev pub rows_text : List (List ℕ) → List ℕ
rows_text = flat_map row_text

-- numbers behind a word, in a line
abbrev pub numbers_text : List ℕ → List ℕ → List ℕ
numbers_text word ns = word ++ (behind_spaces (map decimal ns) ++ codes "\n")
