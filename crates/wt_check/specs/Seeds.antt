-- Seeds: valid 2 by 2 patterns whose tiles stand at the opposite corners of their own powers.
use Rattle.std.specs.Prelude.{◌≡◌, ℕ, zero, suc, ◌++◌, Bool, true, false, ◌&&◌, nat_eq, if◌then◌else◌, List, [], ◌∷◌, length, drop, slice_index, Contains}
use Rattle.wt_grid.specs.Order.{IsBefore}
use Rattle.wt_grid.specs.declared.axis.Axis.TheVariants.{One, Two}
use Rattle.wt_tile.specs.declared.tile.Tile.{Tile}
use Rattle.wt_tile.specs.Matching.{matches}
use Rattle.wt_grid.specs.Grid.{Grid}
use Rattle.wt_pattern.specs.Patterns.{IsPattern}
use Rattle.wt_step.specs.declared.raw.RawLink.{RawLink}
use Rattle.wt_step.specs.Links.{fine_of}
use Rattle.wt_chain.specs.declared.raw.End.{End}
use Rattle.wt_chain.specs.declared.raw.End.TheVariants.{Open, Loop}
use Rattle.wt_check.specs.Powers.{power}
use Rattle.wt_check.specs.Corners.{corner_of}
use Rattle.wt_check.specs.declared.fixed.SeedFault.{SeedFault}
use Rattle.wt_check.specs.declared.fixed.SeedFault.TheVariants.{OpenChain, OutOfMemory}
use Rattle.wt_check.specs.declared.fixed.Tables.{Tables}

-- what f lists for 0, for 1 and so on, n of them, in this order
unfoldable pub gather : {A : Type 0} → ℕ → (ℕ → List A) → List A
gather zero f = []
gather (suc n) f = gather n f ++ f n

-- a list, where the test holds
abbrev pub when : {A : Type 0} → Bool → List A → List A
when b xs = if b then xs else []

-- the tiles at the four corners of what becomes of a tile
pub record Corners : Type 0 where
  pub upper_right : ℕ → ℕ
  pub upper_left : ℕ → ℕ
  pub lower_right : ℕ → ℕ
  pub lower_left : ℕ → ℕ

-- tile t is its own corner
abbrev pub is_fixed : (ℕ → ℕ) → ℕ → Bool
is_fixed f t = nat_eq (f t) t

-- the seeds with lower left tile a, lower right b, upper left c and upper right d: each is the opposite corner of what becomes of it, and neighbours match
abbrev pub seed : List Tile → Corners → ℕ → ℕ → ℕ → ℕ → List (List ℕ)
seed ts k a b c d = when (is_fixed k.lower_left d && (matches ts One c d && matches ts Two b d)) ((a ∷ b ∷ c ∷ d ∷ []) ∷ [])

-- the same, for each upper right tile
abbrev pub seeds_above : List Tile → Corners → ℕ → ℕ → ℕ → List (List ℕ)
seeds_above ts k a b c = when (is_fixed k.lower_right c && matches ts Two a c) (gather (length ts) (seed ts k a b c))

-- the same, for each upper left tile
abbrev pub seeds_beside : List Tile → Corners → ℕ → ℕ → List (List ℕ)
seeds_beside ts k a b = when (is_fixed k.upper_left b && matches ts One a b) (gather (length ts) (seeds_above ts k a b))

-- the same, for each lower right tile
abbrev pub seeds_from : List Tile → Corners → ℕ → List (List ℕ)
seeds_from ts k a = when (is_fixed k.upper_right a) (gather (length ts) (seeds_beside ts k a))

-- all seeds, ascending
abbrev pub all_seeds : List Tile → Corners → List (List ℕ)
all_seeds ts k = gather (length ts) (seeds_from ts k)

-- the corners that tables tell
abbrev pub told : Tables → Corners
told t = record { upper_right = slice_index t.upper_right; upper_left = slice_index t.upper_left; lower_right = slice_index t.lower_right; lower_left = slice_index t.lower_left }

-- the tile at a corner of what q turns make of tile t
abbrev pub power_corner : Bool → Bool → List RawLink → List ℕ → ℕ → ℕ → ℕ
power_corner right upper loop renaming q t = corner_of (record { right = right; upper = upper }) (power loop renaming q t)

-- the corners of the powers of a loop's map
abbrev pub power_corners : List RawLink → List ℕ → ℕ → Corners
power_corners loop renaming q = record {
  upper_right = power_corner true true loop renaming q;
  upper_left = power_corner false true loop renaming q;
  lower_right = power_corner true false loop renaming q;
  lower_left = power_corner false false loop renaming q;
}

-- the tiles of the first set of these steps
abbrev pub loop_tiles : List RawLink → List Tile
loop_tiles [] = []
loop_tiles (link ∷ links) = (fine_of link).tiles

-- the seeds of the q-th power of a loop's map
abbrev pub loop_seeds : List RawLink → List ℕ → ℕ → List (List ℕ)
loop_seeds loop renaming q = all_seeds (loop_tiles loop) (power_corners loop renaming q)

-- the same for a chain's loop
abbrev pub AreSeeds : List RawLink → End → ℕ → List (List ℕ) → Type 0
AreSeeds steps Open q seeds = ⊥
AreSeeds steps (Loop start renaming expansion) q seeds = seeds ≡ loop_seeds (drop start steps) renaming q

-- two rows of two cells: lower left, lower right, upper left, upper right
abbrev pub square : ℕ → ℕ → ℕ → ℕ → Grid
square a b c d = record { width = 2; height = 2; cells = a ∷ b ∷ c ∷ d ∷ [] }

-- A fixed 2 by 2 pattern of the q-th power of a loop's map: it is valid over the loop's first set, and each of its tiles is the opposite corner of what the power makes of it.
pub record IsFixedSquare (loop : List RawLink) (renaming : List ℕ) (q a b c d : ℕ) : Type 0 where
  pub pattern : IsPattern (loop_tiles loop) (square a b c d)
  pub lower_left : power_corner true true loop renaming q a ≡ a
  pub lower_right : power_corner false true loop renaming q b ≡ b
  pub upper_left : power_corner true false loop renaming q c ≡ c
  pub upper_right : power_corner false false loop renaming q d ≡ d

-- why there are no seeds: memory wants only where the chain is looped
abbrev pub HasSeedFault : End → SeedFault → Type 0
HasSeedFault Open e = e ≡ OpenChain
HasSeedFault (Loop start renaming expansion) e = e ≡ OutOfMemory

-- lists in strict order: each comes before all that stand behind it
abbrev pub IsAscending : List (List ℕ) → Type 0
IsAscending [] = Unit {0}
IsAscending (x ∷ xs) = ((y : List ℕ) → Contains xs y → IsBefore x y) × IsAscending xs

-- the list is one of the seeds of the q-th power of a loop's map
abbrev pub IsSeed : List RawLink → List ℕ → ℕ → List ℕ → Type 0
IsSeed loop renaming q seed = Contains (loop_seeds loop renaming q) seed

-- a list of four numbers
abbrev pub HasFour : List ℕ → Type 0
HasFour xs = (a : ℕ) × (b : ℕ) × (c : ℕ) × (d : ℕ) × (xs ≡ a ∷ b ∷ c ∷ d ∷ [])
