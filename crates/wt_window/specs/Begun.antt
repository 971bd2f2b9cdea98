-- Lists that begin alike, and the first of a kind as lists of numbers are ordered.
use Rattle.std.specs.Prelude.{◌≡◌, ◌⊎◌, ℕ, List, take}
use Rattle.wt_grid.specs.Order.{IsBefore}

-- the list comes before each other one of this kind
abbrev pub Leads : (List ℕ → Type 0) → List ℕ → Type 0
Leads Kind f = (g : List ℕ) → Kind g → (f ≡ g) ⊎ IsBefore f g

-- whatever is of this kind and begins with the same numbers, n of them, has the property
abbrev pub AllBegun : ℕ → List ℕ → (List ℕ → Type 0) → (List ℕ → Type 0) → Type 0
AllBegun n begun Kind Has = (g : List ℕ) → Kind g → take n g ≡ take n begun → Has g

-- the list comes before each other one of this kind that begins with the same numbers
abbrev pub LeadsBegun : ℕ → List ℕ → (List ℕ → Type 0) → List ℕ → Type 0
LeadsBegun n begun Kind f = AllBegun n begun Kind (λ g. (f ≡ g) ⊎ IsBefore f g)

-- nothing of this kind begins with the same numbers
abbrev pub NoneBegun : ℕ → List ℕ → (List ℕ → Type 0) → Type 0
NoneBegun n begun Kind = AllBegun n begun Kind (λ g. ⊥)
