-- The names of a script: a finite map, as the list of its entries in the order of their names' bytes.
use Rattle.std.specs.Prelude.{ℕ, List, [], ◌∷◌, length, map, Option, None, Some, if◌then◌else◌, Bool, ◌&&◌, nat_le, is_none, Vec}
use Rattle.std.specs.Ordering.{nat_cmp, is_eq, match_ordering}
use Rattle.std.specs.Cmp.Lexicographic.{slice_cmp}
use Rattle.std.specs.declared.alloc.Global.{Global}
use Rattle.wt_session.specs.declared.limits.TheConstants.{MAX_NAMES}
use Rattle.wt_session.specs.declared.value.Value.{Value}

-- names with their values
abbrev pub Names : Type 0
Names = List (List ℕ × Value)

-- what a name is bound to
abbrev pub find : List ℕ → Names → Option Value
find n [] = None
find n (e ∷ es) = if is_eq (slice_cmp nat_cmp n e.0) then Some e.1 else find n es

-- a name with a new value; any value that it had before is gone
abbrev pub bind : List ℕ → Value → Names → Names
bind n v [] = (n, v) ∷ []
bind n v (e ∷ es) = match_ordering (slice_cmp nat_cmp n e.0) ((n, v) ∷ e ∷ es) ((e.0, v) ∷ es) (e ∷ bind n v es)

-- a new name beside 1024 others
abbrev pub is_crowded : List ℕ → Names → Bool
is_crowded n names = nat_le MAX_NAMES (length names) && is_none (find n names)

-- an entry as the code keeps it
abbrev pub entry : Vec ℕ Global × Value → List ℕ × Value
entry e = (e.0.items, e.1)

-- the entries as the code keeps them
abbrev pub names_of : List (Vec ℕ Global × Value) → Names
names_of es = map entry es
