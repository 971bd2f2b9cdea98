-- Grammars of texts, line by line, with no limits on numbers and counts; and the quantities of a line, each with its limit.
use Rattle.std.specs.Prelude.{◌≡◌, ℕ, zero, suc, Bool, true, false, nat_le, if◌then◌else◌, List, [], ◌∷◌, Option, None, Some}
use Rattle.wt_line.specs.declared.faults.What.{What}
use Rattle.wt_text.specs.Words.{tokens}
use Rattle.wt_text.specs.Lines.{Line}

-- how much a line tells of something, and the most that is within its limit
pub record Quantity : Type 0 where
  pub what : What
  pub most : ℕ
  pub size : ℕ

-- the first of some quantities that passes its limit
abbrev pub first_past : List Quantity → Option What
first_past [] = None
first_past (q ∷ qs) = if nat_le q.size q.most then first_past qs else Some q.what

-- How a text may go on: it ends here, or a line comes. The tokens of the line say whether it has the right form, which
-- quantities it tells, from left to right, and how the text may go on behind it.
pub data Grammar : Type 0 where
  ends : Grammar
  line : (List (List ℕ) → Bool) → (List (List ℕ) → List Quantity) → (List (List ℕ) → Grammar) → Grammar

-- the lines are a text: each has the right form, and a newline ends it
abbrev pub IsText : Grammar → List Line → Type 0
IsText ends [] = Unit {0}
IsText ends (l ∷ ls) = ⊥
IsText (line fits tells next) [] = ⊥
IsText (line fits tells next) (l ∷ ls) = (l.ended ≡ true) × (fits (tokens l.text) ≡ true) × IsText (next (tokens l.text)) ls

-- how a text may go on behind a line
abbrev pub behind_line : Grammar → Line → Grammar
behind_line ends l = ends
behind_line (line fits tells next) l = next (tokens l.text)

-- the limit that the next line passes: that of its leftmost quantity that passes one
abbrev pub passed_by : Grammar → Line → Option What
passed_by ends l = None
passed_by (line fits tells next) l = first_past (tells (tokens l.text))

-- ---- lines of a form

-- what a line of some form says, with its quantities; other lines have not this form
abbrev pub has_form : {A : Type 0} → Option (A × List Quantity) → Bool
has_form None = false
has_form (Some x) = true

-- the quantities of a line of this form
abbrev pub quantities : {A : Type 0} → Option (A × List Quantity) → List Quantity
quantities None = []
quantities (Some x) = x.1

-- how a text goes on behind a line of this form, by what the line says
abbrev pub going_on : {A : Type 0} → (A → Grammar) → Option (A × List Quantity) → Grammar
going_on next None = ends
going_on next (Some x) = next x.0

-- a line of a form, and then what goes by the line
abbrev pub one : {A : Type 0} → (List (List ℕ) → Option (A × List Quantity)) → (A → Grammar) → Grammar
one form next = line (λ ts. has_form (form ts)) (λ ts. quantities (form ts)) (λ ts. going_on next (form ts))

-- n parts one after the other, and then what goes by them
abbrev pub many : {A : Type 0} → ((A → Grammar) → Grammar) → ℕ → (List A → Grammar) → Grammar
many part zero next = next []
many part (suc n) next = part (λ x. many part n (λ xs. next (x ∷ xs)))

-- n parts, each of which goes by what those before it have left, and then what goes by them
abbrev pub many_in_turn : {A S : Type 0} → (S → (A → Grammar) → Grammar) → (S → A → S) → S → ℕ → (List A → Grammar) → Grammar
many_in_turn part left s zero next = next []
many_in_turn part left s (suc n) next = part s (λ x. many_in_turn part left (left s x) n (λ xs. next (x ∷ xs)))
