-- What the answers of the code say of what is read.
use Rattle.std.specs.Prelude.{◌≡◌, ℕ, true, false, List, [], ◌∷◌, Option, None, Some, Result, Ok, Err}
use Rattle.wt_line.specs.declared.faults.What.{What}
use Rattle.wt_line.specs.declared.faults.LineFault.{LineFault}
use Rattle.wt_line.specs.declared.faults.LineFault.TheVariants.{Wrong, Past, OutOfMemory}
use Rattle.wt_line.specs.declared.faults.TextFault.{TextFault}
use Rattle.wt_line.specs.declared.faults.TextFault.TheVariants as text
use Rattle.wt_text.specs.Lines.{Line}
use Rattle.wt_text.specs.Readers as words

-- tokens that can't be read
abbrev pub NotRead : {Y : Type 0} → LineFault → Option Y → Type 0
NotRead Wrong read = read ≡ None
NotRead (Past what) read = ⊥
NotRead OutOfMemory read = Unit {0}

-- what the reader of tokens answers
abbrev pub ReadsTokens : {X Y : Type 0} → (X → Y) → Result X LineFault → Option Y → Type 0
ReadsTokens view (Ok x) read = read ≡ Some (view x)
ReadsTokens view (Err e) read = NotRead e read

-- a line is wrong that goes on
abbrev pub IsWrong : LineFault → List (List ℕ) → Type 0
IsWrong Wrong (t ∷ ts) = Unit {0}
IsWrong Wrong [] = ⊥
IsWrong (Past what) ts = ⊥
IsWrong OutOfMemory ts = ⊥

-- a line that can't be read
abbrev pub LineFails : {Y : Type 0} → LineFault → Result Y (words.LineFault What) → Type 0
LineFails Wrong read = read ≡ Err words.wrong
LineFails (Past what) read = read ≡ Err (words.past what)
LineFails OutOfMemory read = Unit {0}

-- what the reader of a line answers
abbrev pub ReadsLine : {X Y : Type 0} → (X → Y) → Result X LineFault → Result Y (words.LineFault What) → Type 0
ReadsLine view (Ok x) read = read ≡ Ok (view x)
ReadsLine view (Err e) read = LineFails e read

-- a text that can't be read
abbrev pub TextFails : {Y : Type 0} → TextFault → Result Y (words.TextFault What) → Type 0
TextFails (text.Syntax n) read = read ≡ Err (words.syntax_at n)
TextFails (text.Limit what n) read = read ≡ Err (words.limit_at what n)
TextFails text.OutOfMemory read = Unit {0}

-- what the reader of a text answers
abbrev pub ReadsText : {X Y : Type 0} → (X → Y) → Result X TextFault → Result Y (words.TextFault What) → Type 0
ReadsText view (Ok x) read = read ≡ Ok (view x)
ReadsText view (Err e) read = TextFails e read

-- what was read of the line with this number
abbrev pub at_line : {X : Type 0} → ℕ → Result X LineFault → Result X TextFault
at_line n (Ok x) = Ok x
at_line n (Err Wrong) = Err (text.Syntax n)
at_line n (Err (Past what)) = Err (text.Limit what n)
at_line n (Err OutOfMemory) = Err text.OutOfMemory

-- a line with these bytes, which a newline ends
abbrev pub ended_line : List ℕ → Line
ended_line text = record { text = text; ended = true }

-- no line that is ended
abbrev pub NoLine : List Line → Type 0
NoLine [] = Unit {0}
NoLine (l ∷ ls) = l.ended ≡ false

-- a syntax fault at line n, where no line is left that is ended
abbrev pub IsSyntax : ℕ → TextFault → List Line → Type 0
IsSyntax n (text.Syntax m) ls = (m ≡ n) × NoLine ls
IsSyntax n (text.Limit what m) ls = ⊥
IsSyntax n text.OutOfMemory ls = ⊥

-- the text goes on where it was to end
abbrev pub IsMore : ℕ → TextFault → List Line → Type 0
IsMore n (text.Syntax m) (l ∷ ls) = m ≡ n
IsMore n (text.Syntax m) [] = ⊥
IsMore n (text.Limit what m) ls = ⊥
IsMore n text.OutOfMemory ls = ⊥
