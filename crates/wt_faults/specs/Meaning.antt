-- What a fault says of a text, over its grammar: no reader is named here.
use Rattle.std.specs.Prelude.{◌≡◌, ℕ, ◌+◌, List, [], ◌∷◌, ◌++◌, length, None, Some, Result, Ok, Err}
use Rattle.wt_line.specs.declared.faults.What.{What}
use Rattle.wt_text.specs.Lines.{Line}
use Rattle.wt_text.specs.Readers.{TextFault, syntax_at, limit_at}
use Rattle.wt_faults.specs.Grammars.{Grammar, IsText, behind_line, passed_by}

-- some lines can be carried on to a text of the grammar
abbrev pub CanGoOn : Grammar → List Line → Type 0
CanGoOn g front = (rest : List Line) × IsText g (front ++ rest)

-- how a text may go on behind some lines
abbrev pub behind_lines : Grammar → List Line → Grammar
behind_lines g [] = g
behind_lines g (l ∷ ls) = behind_lines (behind_line g l) ls

-- no line of these passes a limit
abbrev pub IsWithin : Grammar → List Line → Type 0
IsWithin g [] = Unit {0}
IsWithin g (l ∷ ls) = (passed_by g l ≡ None) × IsWithin (behind_line g l) ls

-- with the next line these lines can't be carried on; or no line is left, and they are no text
abbrev pub StopsAt : Grammar → List Line → List Line → Type 0
StopsAt g front [] = IsText g front → ⊥
StopsAt g front (l ∷ ls) = CanGoOn g (front ++ l ∷ []) → ⊥

-- Line n is wrong.
pub record IsSyntaxFault (g : Grammar) (n : ℕ) (text : List Line) : Type 0 where
  -- the lines before it, and those from it on
  pub front : List Line
  pub back : List Line
  pub split : text ≡ front ++ back
  pub number : n ≡ length front + 1
  -- the lines before it can be carried on, and none of them passes a limit
  pub begins : CanGoOn g front
  pub within : IsWithin g front
  -- with line n they can't
  pub stops : StopsAt g front back

-- Line n has a right form, and passes a limit.
pub record IsLimitFault (g : Grammar) (what : What) (n : ℕ) (text : List Line) : Type 0 where
  -- the lines before it, the line, and those behind it
  pub front : List Line
  pub line : Line
  pub back : List Line
  pub split : text ≡ front ++ line ∷ back
  pub number : n ≡ length front + 1
  -- no line before it passes a limit
  pub within : IsWithin g front
  -- with line n they can be carried on
  pub begins : CanGoOn g (front ++ line ∷ [])
  -- the leftmost quantity of line n that passes its limit passes this one
  pub passes : passed_by (behind_lines g front) line ≡ Some what

-- the first fault of a text, by its kind
abbrev pub IsFaultOf : Grammar → List Line → TextFault What → Type 0
IsFaultOf g text (syntax_at n) = IsSyntaxFault g n text
IsFaultOf g text (limit_at what n) = IsLimitFault g what n text

-- A reader of texts has the faults of this grammar.
pub record HasFaultsOf {A : Type 0} (g : Grammar) (reader : List Line → Result A (TextFault What)) : Type 0 where
  -- it names the first fault
  pub told : (text : List Line) (fault : TextFault What) → reader text ≡ Err fault → IsFaultOf g text fault
  -- and of each text that has one
  pub found : (text : List Line) (fault : TextFault What) → IsFaultOf g text fault → reader text ≡ Err fault
  -- what it reads is a text of the grammar within its limits
  pub reads : (text : List Line) (x : A) → reader text ≡ Ok x → IsText g text × IsWithin g text
  -- and it reads each of these
  pub all : (text : List Line) → IsText g text → IsWithin g text → (x : A) × (reader text ≡ Ok x)
