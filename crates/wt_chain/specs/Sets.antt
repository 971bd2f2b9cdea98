-- The tile sets between steps.
use Rattle.std.specs.Prelude.{◌≡◌, ℕ, ◌-◌, nat_lt, if◌then◌else◌, List, length, slice_get, [], ◌∷◌, Bool, true, ◌&&◌, Option, None, Some, option_map}
use Rattle.std.specs.Cmp.Lexicographic.{pointwise}
use Rattle.std.specs.Str.{bytes_eq}
use Rattle.wt_tile.specs.declared.tile.TileList.{TileList}
use Rattle.wt_tile.specs.Sets.{same_tile}
use Rattle.wt_bijection.specs.Renaming.{renaming_fault}
use Rattle.wt_step.specs.declared.raw.RawLink.{RawLink}
use Rattle.wt_step.specs.Links.{link_fault, fine_of, coarse_of}

-- the tiles are the same, and so are the names of both axes
abbrev pub same_set : TileList → TileList → Bool
same_set a b = pointwise same_tile a.tiles b.tiles && pointwise bytes_eq a.names1 b.names1 && pointwise bytes_eq a.names2 b.names2

-- a set is that before it, where there is one
abbrev pub follows : Option TileList → TileList → Bool
follows None set = true
follows (Some before) set = same_set before set

-- the step takes apart the set before it, where there is one
abbrev pub comes_next : Option TileList → RawLink → Bool
comes_next before link = follows before (fine_of link)

-- the set behind these steps; the set before them where there is none
abbrev pub last_set : TileList → List RawLink → TileList
last_set set [] = set
last_set set (link ∷ links) = last_set (coarse_of link) links

-- steps without a fault, of which the first takes apart this set, and each other one the coarse set of the step before it
abbrev pub AreLinked : TileList → List RawLink → Type 0
AreLinked set [] = Unit {0}
AreLinked set (link ∷ links) = (link_fault link ≡ None) × (fine_of link ≡ set) × AreLinked (coarse_of link) links

-- steps without a fault, each of which takes apart the coarse set of the one before it
abbrev pub IsRun : List RawLink → Type 0
IsRun [] = Unit {0}
IsRun (link ∷ links) = AreLinked (fine_of link) (link ∷ links)

-- how many tiles the first set has; none where there is no step
abbrev pub first_count : List RawLink → ℕ
first_count [] = 0
first_count (link ∷ links) = length (fine_of link).tiles

-- the steps are good, one behind the other, and the renaming leads from the last set to the first
abbrev pub IsClosedBy : List RawLink → List ℕ → Type 0
IsClosedBy [] renaming = ⊥
IsClosedBy (link ∷ links) renaming =
    AreLinked (fine_of link) (link ∷ links) × (renaming_fault (last_set (coarse_of link) links).tiles (fine_of link).tiles renaming ≡ None)

-- the set of a level: the fine set of the step with this number, and behind the last step its coarse set
abbrev pub set_at : List RawLink → ℕ → Option TileList
set_at links level = if nat_lt level (length links) then option_map fine_of (slice_get links level) else option_map coarse_of (slice_get links (level - 1))

-- the set behind the last step, where there is one
abbrev pub set_behind : List RawLink → Option TileList
set_behind [] = None
set_behind (link ∷ links) = Some (last_set (coarse_of link) links)

-- there is a step, and the renaming leads from the last set to the first
abbrev pub IsRenamed : List RawLink → List ℕ → Type 0
IsRenamed [] renaming = ⊥
IsRenamed (link ∷ links) renaming = renaming_fault (last_set (coarse_of link) links).tiles (fine_of link).tiles renaming ≡ None

-- the first step, where there is one, takes apart this set
abbrev pub BeginsWith : TileList → List RawLink → Type 0
BeginsWith set [] = Unit {0}
BeginsWith set (link ∷ links) = fine_of link ≡ set
