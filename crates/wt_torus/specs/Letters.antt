-- The letter of a point, by the labels of the regions that hold it.
use Rattle.std.specs.Prelude.{ℕ, nat_eq, Bool, List, [], ◌∷◌, Option, None, Some, if◌then◌else◌}
use Rattle.std.specs.List.{list_all}
use Rattle.wt_plane.specs.HalfPlanes.{Spot}
use Rattle.wt_plane.specs.Regions.{holds_all}
use Rattle.wt_torus.specs.declared.letter.Letter.{Letter}
use Rattle.wt_torus.specs.declared.letter.Letter.TheVariants.{One, Unplaced, Doubled}
use Rattle.wt_torus.specs.declared.partition.Labelled.{Labelled}
use Rattle.wt_torus.specs.declared.partition.Partition.{Partition}
use Rattle.wt_torus.specs.Boxes.{is_in_box}

-- the label, where there is exactly one among these
abbrev pub only_label : List ℕ → Letter
only_label [] = Unplaced
only_label (a ∷ as') = if list_all (nat_eq a) as' then One a else Doubled

-- what f says of the elements that pass
abbrev pub those : {A B : Type 0} → (A → B) → (A → Bool) → List A → List B
those f passes [] = []
those f passes (x ∷ xs) = if passes x then f x ∷ those f passes xs else those f passes xs

-- the region holds it: each of its half-planes does
abbrev pub is_held : Spot → Labelled → Bool
is_held z r = holds_all r.region.planes z

-- the label of a region
abbrev pub label_of : Labelled → ℕ
label_of r = r.label

-- the letter of a point: the one label of the regions that hold it, strictly inside the box
unfoldable pub letter : Partition → Spot → Letter
letter p z = if is_in_box p.torus z then only_label (those label_of (is_held z) p.regions) else Unplaced

-- the label, where there is one
abbrev pub number_in : Letter → ℕ
number_in (One a) = a
number_in Unplaced = 0
number_in Doubled = 0

-- the same, where first is the label found so far
abbrev pub only_from : Option ℕ → List ℕ → Letter
only_from None [] = Unplaced
only_from None (a ∷ as') = only_from (Some a) as'
only_from (Some a) [] = One a
only_from (Some a) (b ∷ bs) = if nat_eq a b then only_from (Some a) bs else Doubled
