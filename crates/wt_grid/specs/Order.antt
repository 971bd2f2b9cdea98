-- Lists in strict order, and what stands in them.
use Rattle.std.specs.Prelude.{ℕ, ◌≡◌, ◌<◌, ◌⊎◌, List, [], ◌∷◌, take, slice_index, Option, None, Some, Bool, true, false, ◌&&◌, ◌||◌, not, nat_lt, if◌then◌else◌}
use Rattle.wt_grid.specs.First.{or_else}

-- a is less than b
abbrev pub comes_before : ℕ → ℕ → Bool
comes_before a b = nat_lt a b

-- x comes before the first of the others
abbrev pub leads : {A : Type 0} → (A → A → Bool) → A → List A → Bool
leads before x [] = true
leads before x (y ∷ ys) = before x y

-- each element fits, and comes before the next
abbrev pub in_order : {A : Type 0} → (A → Bool) → (A → A → Bool) → List A → Bool
in_order fits before [] = true
in_order fits before (x ∷ xs) = fits x && leads before x xs && in_order fits before xs

-- the first answer of f on a list
abbrev pub first_in : {A B : Type 0} → (A → Option B) → List A → Option B
first_in f [] = None
first_in f (x ∷ xs) = or_else (f x) (first_in f xs)

-- The list f comes before g: where they first differ, f has the lower number.
abbrev pub IsBefore : List ℕ → List ℕ → Type 0
IsBefore f g = (k : ℕ) × (take k f ≡ take k g) × (slice_index f k < slice_index g k)

-- x is less than n
abbrev pub is_below : ℕ → ℕ → Bool
is_below n x = nat_lt x n

-- both hold, or neither does
abbrev pub agree : Bool → Bool → Bool
agree a b = if a then b else not b

-- none comes before the key, and none has it
abbrev pub AllAbove : {A : Type 0} → (A → Bool) → (A → Bool) → List A → Type 0
AllAbove low hit [] = Unit {0}
AllAbove low hit (x ∷ xs) = (low x ≡ false) × (hit x ≡ false) × AllAbove low hit xs

-- first those before the key, then at most one that has it, then the others
abbrev pub IsSplit : {A : Type 0} → (A → Bool) → (A → Bool) → List A → Type 0
IsSplit low hit [] = Unit {0}
IsSplit low hit (x ∷ xs) = ((low x ≡ true) × (hit x ≡ false) × IsSplit low hit xs) ⊎ ((low x ≡ false) × AllAbove low hit xs)
