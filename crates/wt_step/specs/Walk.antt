-- Scaffolding: where the refutations of a step stand at a pair of tiles, and which pairs are asked one by one.
use Rattle.std.specs.Prelude.{ℕ, suc, ◌-◌, ◌≡◌, ◌<◌, ◌≤◌, List, [], ◌∷◌, length, Option, Bool, if◌then◌else◌, slice_index}
use Rattle.wt_grid.specs.declared.axis.Axis.{Axis}
use Rattle.wt_tile.specs.Matching.{matches}
use Rattle.wt_lane.specs.Masks.{mask_bit}
use Rattle.wt_refute.specs.Entries.{entry_before}
use Rattle.wt_step.specs.declared.raw.RawStep.{RawStep}
use Rattle.wt_step.specs.declared.walk.Places.{Places}
use Rattle.wt_step.specs.declared.raw.StepFault.{StepFault}
use Rattle.wt_grid.specs.First.{first_from}
use Rattle.wt_step.specs.Words.{allows}
use Rattle.wt_step.specs.Faults.{pair_fault}

-- how many elements a list begins with that come before a key
abbrev pub passed : {A : Type 0} → (A → Bool) → List A → ℕ
passed before [] = 0
passed before (x ∷ xs) = if before x then suc (passed before xs) else 0

-- the place of the first refutation that isn't before those of this pair at a radius
abbrev pub refuted_place : RawStep → Axis → ℕ → ℕ → ℕ → ℕ
refuted_place s axis a b radius = passed (entry_before radius axis a b) s.refuted

-- no place is beyond that of this pair
abbrev pub IsBehind : RawStep → Axis → ℕ → ℕ → Places → Type 0
IsBehind s axis a b places = (radius : ℕ) → radius ≤ s.radius → slice_index places.refuted radius ≤ refuted_place s axis a b radius

-- the mask has all tiles that match this one behind it and aren't allowed there, and all that are allowed and don't match
abbrev pub IsOdd : RawStep → Axis → ℕ → List ℕ → Type 0
IsOdd s axis a mask = (b : ℕ) → b < length s.fine.tiles → mask_bit mask b ≡ 0 → matches s.fine.tiles axis a b ≡ allows s axis a b

-- the places are those of this pair
pub record IsAtPlace (s : RawStep) (axis : Axis) (a b : ℕ) (places : Places) : Type 0 where
  pub refuted : (radius : ℕ) → radius ≤ s.radius → slice_index places.refuted radius ≡ refuted_place s axis a b radius

-- the first fault of a pair with this first tile and a second tile from this one on
abbrev pub rest_fault : RawStep → Axis → ℕ → ℕ → Option StepFault
rest_fault s axis a from = first_from (pair_fault s axis a) from (length s.fine.tiles - from)
