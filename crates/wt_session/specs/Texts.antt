-- Lines that a script's commands and the program's words both answer.
use Rattle.std.specs.Prelude.{ℕ, Bool, List, ◌++◌, codes}
use Rattle.std.specs.Fmt.{decimal}
use Rattle.wt_grid.specs.Axes.{axis_number}
use Rattle.wt_grid.specs.Grid.{Grid, cell}
use Rattle.wt_text.specs.Lines.{bytes_of}
use Rattle.wt_line.specs.declared.faults.What.{What}
use Rattle.wt_line.specs.Limits.{limit_word}
use Rattle.wt_pattern.specs.declared.fault.Fault.{Fault}
use Rattle.wt_pattern.specs.PatternRows.{pattern_lines}
use Rattle.wt_expand.specs.Rows.{bit}

-- a text that is malformed at this line
abbrev pub syntax_text : ℕ → List ℕ
syntax_text n = codes "refused syntax line " ++ (decimal n ++ codes "\n")

-- a text that passes a limit at this line
abbrev pub limit_text : What → ℕ → List ℕ
limit_text what n = codes "limit " ++ (limit_word what ++ (codes " line " ++ (decimal n ++ codes "\n")))

-- two equal tiles, by their numbers
abbrev pub repeated_text : ℕ → ℕ → List ℕ
repeated_text i j = codes "refused repeated " ++ (decimal i ++ (codes " " ++ (decimal j ++ codes "\n")))

-- a cell that is no tile of the set: its number, and its column and row
abbrev pub stranger_text : Grid → ℕ × ℕ → List ℕ
stranger_text p at = codes "refused tile " ++ (decimal (cell p at.0 at.1) ++ (codes " at " ++ (decimal at.0 ++ (codes " " ++ (decimal at.1 ++ codes "\n")))))

-- neighbours that don't match: along which axis, and the column and row of the first of the two
abbrev pub not_valid_text : Fault → List ℕ
not_valid_text f = codes "refused not valid axis " ++ (decimal (axis_number f.axis) ++ (codes " at " ++ (decimal f.x ++ (codes " " ++ (decimal f.y ++ codes "\n")))))

-- the coarse pattern, whether a border line was cut off on its low and on its high side, and its rows, the top one first
abbrev pub coarse_text : Grid → Bool → Bool → List ℕ
coarse_text q low high =
    codes "coarse " ++ (decimal q.width ++ (codes " " ++ (decimal q.height ++ (codes "\ncut " ++ (decimal (bit low) ++ (codes " " ++ (decimal (bit high) ++ (codes "\n" ++ bytes_of (pattern_lines q)))))))))
