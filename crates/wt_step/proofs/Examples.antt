-- The step of a small certificate, and its first fault where an image is missing.
use Rattle.std.proofs.Common.{◌≡◌, [], ◌∷◌, refl}
use Rattle.wt_grid.specs.declared.image.Image.TheVariants.{One as Single, Two as Double}
use Rattle.wt_grid.specs.declared.image.Image.{Image}
use Rattle.wt_grid.specs.declared.axis.Side.TheVariants.{After}
use Rattle.wt_grid.specs.declared.axis.Axis.TheVariants.{One, Two}
use Rattle.std.specs.Prelude.{ℕ, take, None, Some}
use Rattle.wt_tile.specs.declared.tile.Tile.{Tile}
use Rattle.wt_tile.specs.declared.tile.TileList.{TileList}
use Rattle.wt_tile.specs.Sets.{set_fault}
use Rattle.wt_tile.specs.Matching.{matches}
use Rattle.wt_step.specs.declared.raw.RawStep.{RawStep}
use Rattle.wt_step.specs.declared.raw.StepFault.TheVariants.{MissingPair}
use Rattle.wt_step.specs.Faults.{shape_fault, rules_fault, step_fault}

-- a tile with the colours right, top, left and bottom
abbrev tile : ℕ → ℕ → ℕ → ℕ → Tile
tile east north west south = record { east = east; north = north; west = west; south = south }

-- the names y and x of axis 1, and n and m of axis 2
abbrev fine : TileList
fine = record { tiles = tile 0 0 0 0 ∷ tile 0 0 1 0 ∷ tile 1 1 0 1 ∷ []; names1 = (121 ∷ []) ∷ (120 ∷ []) ∷ []; names2 = (110 ∷ []) ∷ (109 ∷ []) ∷ [] }

-- the first n of four coarse tiles; the names n and p of axis 2
abbrev coarse : ℕ → TileList
coarse n = record { tiles = take n (tile 0 0 0 0 ∷ tile 0 0 1 0 ∷ tile 1 1 0 1 ∷ tile 1 1 1 1 ∷ []); names1 = (121 ∷ []) ∷ (120 ∷ []) ∷ []; names2 = (110 ∷ []) ∷ (112 ∷ []) ∷ [] }

-- The marker 2 stands in columns, behind the tiles 0 and 1. The coarse tiles are 0, 1, the pair of 0 and 2, and the pair of 1 and 2; the first n of them are there.
abbrev small : ℕ → RawStep
small n = record {
  axis = One;
  side = After;
  radius = 0;
  fine = fine;
  coarse = coarse n;
  markers = 2 ∷ [];
  allowed1 = (0, 0) ∷ (0, 2) ∷ (1, 0) ∷ (1, 2) ∷ (2, 1) ∷ [];
  allowed2 = (0, 0) ∷ (0, 1) ∷ (1, 0) ∷ (1, 1) ∷ (2, 2) ∷ [];
  refuted = [];
  images = take n (Single 0 ∷ Single 1 ∷ Double 0 2 ∷ Double 1 2 ∷ []);
}

-- with all four images the step is good
pub all_images : step_fault (small 4) ≡ None
unfolding step_fault shape_fault rules_fault set_fault matches
all_images = refl

-- without the image of the pair 1 2 its first fault is that this image is missing
pub last_image_missing : step_fault (small 3) ≡ Some (MissingPair 1 2)
unfolding step_fault shape_fault rules_fault set_fault matches
last_image_missing = refl
