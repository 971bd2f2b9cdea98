-- A script: commands, and between them lines that are skipped.
use Rattle.std.specs.Prelude.{ℕ, zero, suc, ◌+◌, Bool, true, ◌&&◌, nat_eq, if◌then◌else◌, List, [], ◌∷◌, length, Option, None, Some, Result, Ok, Err}
use Rattle.wt_line.specs.declared.faults.What.{What}
use Rattle.wt_script.specs.declared.word.Word.{Word}
use Rattle.wt_script.specs.declared.word.Command.{Command}
use Rattle.wt_text.specs.Lines.{Line, lines}
use Rattle.wt_text.specs.Readers.{◌then◌, TextFault, syntax_at}
use Rattle.wt_script.specs.Parts.{kind_at, part_of}

-- an empty line, or one that begins with `#`
abbrev pub is_remark : List ℕ → Bool
is_remark [] = true
is_remark (b ∷ bs) = nat_eq b 35

-- such a line is skipped where it has its newline
abbrev pub is_skipped : Line → Bool
is_skipped l = l.ended && is_remark l.text

-- a command, and the number of the line where it begins
abbrev pub command_at : ℕ → Word × (ℕ × List Line) → Result (Option Command × (ℕ × List Line)) (TextFault What)
command_at n x = Ok (Some (record { line = n; word = x.0 }), x.1)

-- a line that is skipped, or a command with its own lines
abbrev pub piece_at : ℕ → List Line → Result (Option Command × (ℕ × List Line)) (TextFault What)
piece_at n [] = Err (syntax_at n)
piece_at n (l ∷ ls) = if is_skipped l then Ok (None, (n + 1, ls)) else (part_of (kind_at (l ∷ ls)) (n, l ∷ ls) then command_at n)

-- the command of a piece before those behind it; a line that is skipped leaves nothing
abbrev pub in_front : Option Command → List Command → List Command
in_front None cs = cs
in_front (Some c) cs = c ∷ cs

-- n pieces at most, one after the other to the end of the text.
abbrev pub pieces : ℕ → ℕ → List Line → Result (List Command) (TextFault What)
pieces most n [] = Ok []
pieces zero n (l ∷ ls) = Err (syntax_at n)
pieces (suc most) n (l ∷ ls) = piece_at n (l ∷ ls) then λ x. pieces most x.1.0 x.1.1 then λ cs. Ok (in_front x.0 cs)

-- The commands of the lines from number n on. A piece has a line at least, so there are no more pieces than lines.
abbrev pub commands_from : ℕ → List Line → Result (List Command) (TextFault What)
commands_from n ls = pieces (length ls) n ls

-- the commands of a script, or its first fault
abbrev pub script : List ℕ → Result (List Command) (TextFault What)
script bytes = commands_from 1 (lines bytes)
