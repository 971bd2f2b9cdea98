-- Readers of lines and of texts, and what they are put together from.
use Rattle.std.specs.Prelude.{◌≡◌, ℕ, zero, suc, ◌+◌, Bool, true, false, nat_le, nat_eq, if◌then◌else◌, List, [], ◌∷◌, ◌++◌, length, Option, None, Some, Result, Ok, Err}
use Rattle.std.specs.Str.{bytes_eq}
use Rattle.std.specs.Fmt.{decimal}
use Rattle.wt_text.specs.Words.{tokens, number}
use Rattle.wt_text.specs.Lines.{Line}

infixl 10 ◌>>=◌
-- What is read next, where something was read.
abbrev pub ◌>>=◌ : {A B : Type 0} → Option A → (A → Option B) → Option B
(Some x) >>= f = f x
None >>= f = None

infixl 10 ◌then◌
-- What is read next, where nothing was wrong.
abbrev pub ◌then◌ : {A B E : Type 0} → Result A E → (A → Result B E) → Result B E
(Ok x) then f = f x
(Err e) then f = Err e

-- ---- in a line: a reader gives a value within its limits, or the limit that is passed first, and the tokens that are left

-- values side by side: the limit that is passed on the left comes first
abbrev pub pair : {W A B : Type 0} → Result A W → Result B W → Result (A × B) W
pair (Ok a) (Ok b) = Ok (a, b)
pair (Ok a) (Err w) = Err w
pair (Err w) b = Err w

-- a word
abbrev pub after : List ℕ → List (List ℕ) → Option (List (List ℕ))
after w [] = None
after w (t ∷ ts) = if bytes_eq t w then Some ts else None

-- a number within its limit, or the limit that it passes
abbrev pub within : {W : Type 0} → ℕ → W → ℕ → Result ℕ W
within most what n = if nat_le n most then Ok n else Err what

-- a number with a limit
abbrev pub number_to : {W : Type 0} → ℕ → W → List (List ℕ) → Option (Result ℕ W × List (List ℕ))
number_to most what [] = None
number_to most what (t ∷ ts) = number t >>= λ n. Some (within most what n, ts)

-- one of two words
abbrev pub either_word : {W A : Type 0} → List ℕ → A → List ℕ → A → List (List ℕ) → Option (Result A W × List (List ℕ))
either_word v a w b [] = None
either_word v a w b (t ∷ ts) = if bytes_eq t v then Some (Ok a, ts) else if bytes_eq t w then Some (Ok b, ts) else None

-- a word, and then a value
unfoldable pub value_behind : {W A : Type 0} → List ℕ → (List (List ℕ) → Option (Result A W × List (List ℕ))) → List (List ℕ) → Option (Result A W × List (List ℕ))
value_behind w read ts = after w ts >>= read

-- no token, where the value is known
abbrev pub given : {W A : Type 0} → A → List (List ℕ) → Option (Result A W × List (List ℕ))
given x ts = Some (Ok x, ts)

-- a value within its limits, seen as one of another kind
abbrev pub mapped : {W A B : Type 0} → (A → B) → Result A W → Result B W
mapped f (Ok a) = Ok (f a)
mapped f (Err w) = Err w

-- a value seen as one of another kind
abbrev pub seen_value : {W A B : Type 0} → (A → B) → Option (Result A W × List (List ℕ)) → Option (Result B W × List (List ℕ))
seen_value to r = r >>= λ x. Some (mapped to x.0, x.1)

-- a value of one kind, or of another
pub data Either (A B : Type 0) : Type 0 where
  first : A → Either A B
  second : B → Either A B

-- one of two words, each with a value of its own behind it
abbrev pub either_behind : {W A B : Type 0} → List ℕ → (List (List ℕ) → Option (Result A W × List (List ℕ))) → List ℕ → (List (List ℕ) → Option (Result B W × List (List ℕ))) → List (List ℕ) → Option (Result (Either A B) W × List (List ℕ))
either_behind v ra w rb [] = None
either_behind v ra w rb (t ∷ ts) = if bytes_eq t v then seen_value first (ra ts) else if bytes_eq t w then seen_value second (rb ts) else None

-- one value, and then another
unfoldable pub both : {W A B : Type 0} → (List (List ℕ) → Option (Result A W × List (List ℕ))) → (List (List ℕ) → Option (Result B W × List (List ℕ))) → List (List ℕ) → Option (Result (A × B) W × List (List ℕ))
both ra rb ts = ra ts >>= λ a. rb a.1 >>= λ b. Some (pair a.0 b.0, b.1)

-- a value in front of others
abbrev pub value_in_front : {W A : Type 0} → Result A W → Result (List A) W → Result (List A) W
value_in_front (Ok a) (Ok as') = Ok (a ∷ as')
value_in_front (Ok a) (Err w) = Err w
value_in_front (Err w) r = Err w

-- a count in front of what it counts
abbrev pub counted : {W A : Type 0} → Result ℕ W → Result A W → Result A W
counted (Ok n) r = r
counted (Err w) r = Err w

-- numbers to the end of the line
abbrev pub numbers_to : {W : Type 0} → ℕ → W → List (List ℕ) → Option (Result (List ℕ) W)
numbers_to most what [] = Some (Ok [])
numbers_to most what (t ∷ ts) = number t >>= λ n. numbers_to most what ts >>= λ ns. Some (value_in_front (within most what n) ns)

-- a count, and n numbers to the end of the line
abbrev pub counted_numbers : {W : Type 0} → ℕ → W → ℕ → W → List (List ℕ) → Option (Result (List ℕ) W × List (List ℕ))
counted_numbers many kind most what [] = None
counted_numbers many kind most what (t ∷ ts) = number t >>= λ n. if nat_eq (length ts) n then (numbers_to most what ts >>= λ ns. Some (counted (within many kind n) ns, [])) else None

-- ---- a line, whole

-- What is wrong with a line: its form, or a limit that it passes.
pub data LineFault (W : Type 0) : Type 0 where
  wrong : LineFault W
  past : W → LineFault W

-- a value within its limits, where no token is left
abbrev pub judged : {W A : Type 0} → Result A W → List (List ℕ) → Result A (LineFault W)
judged (Ok a) [] = Ok a
judged (Err w) [] = Err (past w)
judged r (t ∷ ts) = Err wrong

-- what was read of a line, where that is the whole line
abbrev pub judge : {W A : Type 0} → Option (Result A W × List (List ℕ)) → Result A (LineFault W)
judge None = Err wrong
judge (Some x) = judged x.0 x.1

-- the line's form first, then its limits from left to right
unfoldable pub whole : {W A : Type 0} → (List (List ℕ) → Option (Result A W × List (List ℕ))) → List (List ℕ) → Result A (LineFault W)
whole read ts = judge (read ts)

-- ---- a text: the number of the next line, and the lines that are left

-- What is wrong with a text, at the number of its first such line, counted from 1.
pub data TextFault (W : Type 0) : Type 0 where
  syntax_at : ℕ → TextFault W
  limit_at : W → ℕ → TextFault W

-- the fault of a line, at its number
abbrev pub faulty : {W : Type 0} → ℕ → LineFault W → TextFault W
faulty n wrong = syntax_at n
faulty n (past w) = limit_at w n

-- what a line gave, and the lines behind it
abbrev pub line_read : {W A : Type 0} → ℕ → List Line → Result A (LineFault W) → Result (A × (ℕ × List Line)) (TextFault W)
line_read n ls (Ok a) = Ok (a, (n + 1, ls))
line_read n ls (Err e) = Err (faulty n e)

-- the next line, which a newline ends
abbrev pub line_at : {W A : Type 0} → (List (List ℕ) → Result A (LineFault W)) → ℕ → List Line → Result (A × (ℕ × List Line)) (TextFault W)
line_at read n [] = Err (syntax_at n)
line_at read n (l ∷ ls) = if l.ended then line_read n ls (read (tokens l.text)) else Err (syntax_at n)

-- one line
unfoldable pub one_line : {W A : Type 0} → (List (List ℕ) → Result A (LineFault W)) → (ℕ × List Line) → Result (A × (ℕ × List Line)) (TextFault W)
one_line read p = line_at read p.0 p.1

-- one part, and then another
unfoldable pub both_parts : {W A B : Type 0} → (ℕ × List Line → Result (A × (ℕ × List Line)) (TextFault W)) → (ℕ × List Line → Result (B × (ℕ × List Line)) (TextFault W)) → ℕ × List Line → Result ((A × B) × (ℕ × List Line)) (TextFault W)
both_parts ra rb p = ra p then λ a. rb a.1 then λ b. Ok ((a.0, b.0), b.1)

-- n parts, each read by what the parts before have left
abbrev pub many_parts : {W A S : Type 0} → (S → ℕ × List Line → Result (A × (ℕ × List Line)) (TextFault W)) → (S → A → S) → S → ℕ → ℕ × List Line → Result (List A × (ℕ × List Line)) (TextFault W)
many_parts read next s zero p = Ok ([], p)
many_parts read next s (suc n) p = read s p then λ a. many_parts read next (next s a.0) n a.1 then λ as'. Ok (a.0 ∷ as'.0, as'.1)

-- the state that parts have left
abbrev pub left_by : {A S : Type 0} → (S → A → S) → S → List A → S
left_by next s [] = s
left_by next s (x ∷ xs) = left_by next (next s x) xs

-- a count, and n parts
unfoldable pub counted_parts : {W A S : Type 0} → (ℕ × List Line → Result (ℕ × (ℕ × List Line)) (TextFault W)) → (S → ℕ × List Line → Result (A × (ℕ × List Line)) (TextFault W)) → (S → A → S) → S → ℕ × List Line → Result (List A × (ℕ × List Line)) (TextFault W)
counted_parts count read next s p = count p then λ n. many_parts read next s n.0 n.1

-- the text ends here
abbrev pub ended_here : {W A : Type 0} → A → ℕ → List Line → Result A (TextFault W)
ended_here a n [] = Ok a
ended_here a n (l ∷ ls) = Err (syntax_at n)

-- a part that is the whole text
unfoldable pub whole_text : {W A : Type 0} → (ℕ × List Line → Result (A × (ℕ × List Line)) (TextFault W)) → List Line → Result A (TextFault W)
whole_text read ls = read (1, ls) then λ x. ended_here x.0 x.1.0 x.1.1

-- a part seen as a value of another kind
unfoldable pub seen_as : {W A B : Type 0} → (A → B) → (ℕ × List Line → Result (A × (ℕ × List Line)) (TextFault W)) → ℕ × List Line → Result (B × (ℕ × List Line)) (TextFault W)
seen_as to read p = read p then λ x. Ok (to x.0, x.1)

-- one part, and then another that goes by the first
unfoldable pub part_by : {W A B : Type 0} → (ℕ × List Line → Result (A × (ℕ × List Line)) (TextFault W)) → (A → ℕ × List Line → Result (B × (ℕ × List Line)) (TextFault W)) → ℕ × List Line → Result ((A × B) × (ℕ × List Line)) (TextFault W)
part_by ra rb p = ra p then λ a. rb a.0 a.1 then λ b. Ok ((a.0, b.0), b.1)

-- one part, and then what stands behind it, which goes by the first and holds it
unfoldable pub part_behind : {W A B : Type 0} → (ℕ × List Line → Result (A × (ℕ × List Line)) (TextFault W)) → (A → ℕ × List Line → Result (B × (ℕ × List Line)) (TextFault W)) → ℕ × List Line → Result (B × (ℕ × List Line)) (TextFault W)
part_behind ra rb p = ra p then λ a. rb a.0 a.1

-- no line, where the value is known
abbrev pub no_part : {W A : Type 0} → A → ℕ × List Line → Result (A × (ℕ × List Line)) (TextFault W)
no_part x p = Ok (x, p)
