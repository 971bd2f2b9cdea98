-- The forms of lines, token by token: what the first tokens say, with their quantities, and the tokens that are left.
use Rattle.std.specs.Prelude.{ℕ, zero, suc, nat_eq, if◌then◌else◌, List, [], ◌∷◌, ◌++◌, length, Option, None, Some}
use Rattle.std.specs.Str.{bytes_eq}
use Rattle.wt_line.specs.declared.faults.What.{What}
use Rattle.wt_text.specs.Words.{number}
use Rattle.wt_text.specs.Readers.{◌>>=◌, after, Either, first, second}
use Rattle.wt_names.specs.Rows.{is_name}
use Rattle.wt_faults.specs.Grammars.{Quantity}

-- a quantity with its limit
abbrev pub quantity : What → ℕ → ℕ → Quantity
quantity what most n = record { what = what; most = most; size = n }

-- a number of any size, with its limit
abbrev pub a_number : ℕ → What → List (List ℕ) → Option ((ℕ × List Quantity) × List (List ℕ))
a_number most what [] = None
a_number most what (t ∷ ts) = number t >>= λ n. Some ((n, quantity what most n ∷ []), ts)

-- a number that isn't 0
abbrev pub a_number_from_one : ℕ → What → List (List ℕ) → Option ((ℕ × List Quantity) × List (List ℕ))
a_number_from_one most what [] = None
a_number_from_one most what (t ∷ ts) = number t >>= λ n. if nat_eq n 0 then None else Some ((n, quantity what most n ∷ []), ts)

-- a name
abbrev pub a_name : List (List ℕ) → Option ((List ℕ × List Quantity) × List (List ℕ))
a_name [] = None
a_name (t ∷ ts) = if is_name t then Some ((t, []), ts) else None

-- a word, and then what stands behind it
abbrev pub behind_word : {A : Type 0} → List ℕ → (List (List ℕ) → Option ((A × List Quantity) × List (List ℕ))) → List (List ℕ) → Option ((A × List Quantity) × List (List ℕ))
behind_word w form ts = after w ts >>= form

-- two things with the quantities of both, and the tokens that are left
abbrev pub joined : {A B : Type 0} → A × List Quantity → (B × List Quantity) × List (List ℕ) → ((A × B) × List Quantity) × List (List ℕ)
joined a b = (((a.0, b.0.0), a.1 ++ b.0.1), b.1)

-- one thing, and then another
abbrev pub two : {A B : Type 0} → (List (List ℕ) → Option ((A × List Quantity) × List (List ℕ))) → (List (List ℕ) → Option ((B × List Quantity) × List (List ℕ))) → List (List ℕ) → Option (((A × B) × List Quantity) × List (List ℕ))
two fa fb ts = fa ts >>= λ a. fb a.1 >>= λ b. Some (joined a.0 b)

-- a thing in front of others
abbrev pub led : {A : Type 0} → A × List Quantity → (List A × List Quantity) × List (List ℕ) → (List A × List Quantity) × List (List ℕ)
led a b = ((a.0 ∷ b.0.0, a.1 ++ b.0.1), b.1)

-- n things
abbrev pub so_many : {A : Type 0} → (List (List ℕ) → Option ((A × List Quantity) × List (List ℕ))) → ℕ → List (List ℕ) → Option ((List A × List Quantity) × List (List ℕ))
so_many form zero ts = Some (([], []), ts)
so_many form (suc n) ts = form ts >>= λ a. so_many form n a.1 >>= λ b. Some (led a.0 b)

-- what was said, where no token is left
abbrev pub no_more : {A : Type 0} → A → List (List ℕ) → Option A
no_more x [] = Some x
no_more x (t ∷ ts) = None

-- a line that says this, and no more
abbrev pub alone : {A : Type 0} → (List (List ℕ) → Option ((A × List Quantity) × List (List ℕ))) → List (List ℕ) → Option (A × List Quantity)
alone form ts = form ts >>= λ x. no_more x.0 x.1

-- the token of a number that is known, and then what stands behind it
abbrev pub this_number : {A : Type 0} → ℕ → (List (List ℕ) → Option ((A × List Quantity) × List (List ℕ))) → List (List ℕ) → Option ((A × List Quantity) × List (List ℕ))
this_number k form [] = None
this_number k form (t ∷ ts) = number t >>= λ n. if nat_eq n k then form ts else None

-- one of two words
abbrev pub a_word : {A : Type 0} → List ℕ → A → List ℕ → A → List (List ℕ) → Option ((A × List Quantity) × List (List ℕ))
a_word v a w b [] = None
a_word v a w b (t ∷ ts) = if bytes_eq t v then Some ((a, []), ts) else if bytes_eq t w then Some ((b, []), ts) else None

-- no token, where it is known what is said
abbrev pub known : {A : Type 0} → A → List (List ℕ) → Option ((A × List Quantity) × List (List ℕ))
known x ts = Some ((x, []), ts)

-- what was said, seen as a thing of another kind
abbrev pub as_said : {A B : Type 0} → (A → B) → (A × List Quantity) × List (List ℕ) → (B × List Quantity) × List (List ℕ)
as_said to x = ((to x.0.0, x.0.1), x.1)

-- a thing, seen as one of another kind
abbrev pub seen : {A B : Type 0} → (A → B) → (List (List ℕ) → Option ((A × List Quantity) × List (List ℕ))) → List (List ℕ) → Option ((B × List Quantity) × List (List ℕ))
seen to form ts = form ts >>= λ x. Some (as_said to x)

-- one of two words, each with a thing of its own behind it
abbrev pub either_of : {A B : Type 0} → List ℕ → (List (List ℕ) → Option ((A × List Quantity) × List (List ℕ))) → List ℕ → (List (List ℕ) → Option ((B × List Quantity) × List (List ℕ))) → List (List ℕ) → Option ((Either A B × List Quantity) × List (List ℕ))
either_of v fa w fb [] = None
either_of v fa w fb (t ∷ ts) = if bytes_eq t v then seen first fa ts else if bytes_eq t w then seen second fb ts else None

-- numbers to the end of the line
abbrev pub numbers : ℕ → What → List (List ℕ) → Option (List ℕ × List Quantity)
numbers most what [] = Some ([], [])
numbers most what (t ∷ ts) = number t >>= λ n. numbers most what ts >>= λ x. Some (n ∷ x.0, quantity what most n ∷ x.1)

-- a count, and n numbers to the end of the line
abbrev pub counted_list : ℕ → What → ℕ → What → List (List ℕ) → Option ((List ℕ × List Quantity) × List (List ℕ))
counted_list many kind most what [] = None
counted_list many kind most what (t ∷ ts) = number t >>= λ n. if nat_eq (length ts) n then (numbers most what ts >>= λ x. Some ((x.0, quantity kind many n ∷ x.1), [])) else None
