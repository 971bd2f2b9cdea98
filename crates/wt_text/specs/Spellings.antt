-- How values are written, token by token and line by line.
use Rattle.std.specs.Prelude.{◌≡◌, ℕ, ◌≤◌, List, [], ◌∷◌, ◌++◌, length, map, false, nat_eq}
use Rattle.std.specs.Fmt.{decimal}
use Rattle.wt_text.specs.Lines.{Line, line_of}

-- a token has no space and no newline
abbrev pub IsClean : List ℕ → Type 0
IsClean [] = Unit {0}
IsClean (b ∷ bs) = (nat_eq b 32 ≡ false) × (nat_eq b 10 ≡ false) × IsClean bs

-- each element is so
abbrev pub AllFit : {A : Type 0} → (A → Type 0) → List A → Type 0
AllFit P [] = Unit {0}
AllFit P (x ∷ xs) = P x × AllFit P xs

-- the list has an element
abbrev pub IsNotEmpty : {A : Type 0} → List A → Type 0
IsNotEmpty [] = ⊥
IsNotEmpty (x ∷ xs) = Unit {0}

-- a number in decimal digits
abbrev pub number_spelling : ℕ → List (List ℕ)
number_spelling n = decimal n ∷ []

-- a word, and then a value
abbrev pub behind_spelling : {A : Type 0} → List ℕ → (A → List (List ℕ)) → A → List (List ℕ)
behind_spelling w spell x = w ∷ spell x

-- one value, and then another
abbrev pub both_spelling : {A B C : Type 0} → (A → List C) → (B → List C) → A × B → List C
both_spelling sa sb x = sa x.0 ++ sb x.1

-- how many numbers there are, and then the numbers
abbrev pub counted_spelling : List ℕ → List (List ℕ)
counted_spelling ns = decimal (length ns) ∷ map decimal ns

-- a value in a line of its own
abbrev pub line_spelling : {A : Type 0} → (A → List (List ℕ)) → A → List Line
line_spelling spell x = line_of (spell x) ∷ []

-- each value fits what those before it have left
abbrev pub FitInTurn : {A S : Type 0} → (S → A → Type 0) → (S → A → S) → S → List A → Type 0
FitInTurn Fits next s [] = Unit {0}
FitInTurn Fits next s (x ∷ xs) = Fits s x × FitInTurn Fits next (next s x) xs

-- each value written as those before it say
abbrev pub flat_in_turn : {A S C : Type 0} → (S → A → List C) → (S → A → S) → S → List A → List C
flat_in_turn spell next s [] = []
flat_in_turn spell next s (x ∷ xs) = spell s x ++ flat_in_turn spell next (next s x) xs
