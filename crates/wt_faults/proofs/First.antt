-- The first fault of a text over its grammar, found line by line.
use Rattle.std.proofs.Common.{ℕ, ◌+◌, List, [], ◌∷◌, Option, Some, None, true, ◌&&◌, ◌≡◌, cond}
use Rattle.wt_line.specs.declared.faults.What.{What}
use Rattle.wt_text.specs.Words.{tokens}
use Rattle.wt_text.specs.Lines.{Line}
use Rattle.wt_text.specs.Readers.{TextFault, syntax_at, limit_at}
use Rattle.wt_faults.specs.Grammars.{Grammar, ends, line, first_past}

-- the limit that line n passes, or what comes of the lines behind it
abbrev pub past_or : ℕ → Option What → Option (TextFault What) → Option (TextFault What)
past_or n None later = later
past_or n (Some what) later = Some (limit_at what n)

-- the first fault of these lines, of which the first is line n
abbrev pub first_fault : Grammar → ℕ → List Line → Option (TextFault What)
first_fault ends n [] = None
first_fault ends n (l ∷ ls) = Some (syntax_at n)
first_fault (line fits tells next) n [] = Some (syntax_at n)
first_fault (line fits tells next) n (l ∷ ls) =
    cond (l.ended && fits (tokens l.text)) (past_or n (first_past (tells (tokens l.text))) (first_fault (next (tokens l.text)) (n + 1) ls)) (Some (syntax_at n))

-- each form of the grammar has a line, so that a text can always be carried on
abbrev pub IsOpen : Grammar → Type 0
IsOpen ends = Unit {0}
IsOpen (line fits tells next) = ((l : Line) × (l.ended ≡ true) × (fits (tokens l.text) ≡ true)) × ((ts : List (List ℕ)) → fits ts ≡ true → IsOpen (next ts))
