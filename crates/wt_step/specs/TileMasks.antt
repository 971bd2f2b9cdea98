-- Scaffolding: masks of the tiles of a step.
use Rattle.std.specs.Prelude.{ℕ, ◌≡◌, ◌<◌, List, true, false}
use Rattle.std.specs.List.{list_any}
use Rattle.wt_grid.specs.declared.axis.Axis.{Axis}
use Rattle.wt_grid.specs.declared.image.Image.TheVariants.{Two}
use Rattle.wt_grid.specs.declared.limits.TheConstants.{MAX_TILES}
use Rattle.wt_lane.specs.Masks.{mask_bit}
use Rattle.wt_mask.specs.Masks.{bit}
use Rattle.wt_step.specs.declared.raw.RawStep.{RawStep}
use Rattle.wt_step.specs.Words.{allowed, allows, same_image, is_block, is_marker, demands}
use Rattle.wt_step.specs.Faults.{is_marked_well}

-- the mask has exactly the markers
abbrev pub IsMarked : RawStep → List ℕ → Type 0
IsMarked s mask = (a : ℕ) → mask_bit mask a ≡ bit (is_marker s a)

-- the mask has exactly the tiles that an allowed pair of the axis makes images, where they are non-markers
abbrev pub IsDemanded : RawStep → List ℕ → Type 0
IsDemanded s mask = (u : ℕ) → u < MAX_TILES → mask_bit mask u ≡ bit (list_any (demands s u) (allowed s s.axis))

-- none of the tiles that are allowed behind this one is a marker
abbrev pub HasNone : RawStep → Axis → ℕ → Type 0
HasNone s axis a = (b : ℕ) → b < MAX_TILES → allows s axis a b ≡ true → is_marker s b ≡ false

-- all of them are
abbrev pub HasMarkersAlone : RawStep → Axis → ℕ → Type 0
HasMarkersAlone s axis a = (b : ℕ) → b < MAX_TILES → allows s axis a b ≡ true → is_marker s b ≡ true

-- the allowed pairs with this first tile have markers as the rule of the axis asks
abbrev pub IsRowMarkedWell : RawStep → Axis → ℕ → Type 0
IsRowMarkedWell s axis a = (b : ℕ) → b < MAX_TILES → allows s axis a b ≡ true → is_marked_well s axis a b ≡ true

-- the mask has all tiles that are allowed behind this one and make a block with it
abbrev pub HasBlocks : RawStep → ℕ → List ℕ → Type 0
HasBlocks s a mask = (b : ℕ) → b < MAX_TILES → allows s s.axis a b ≡ true → is_block s a b ≡ true → mask_bit mask b ≡ 1

-- the allowed pairs of the axis with this first tile that are blocks are images
abbrev pub HasRowImages : RawStep → ℕ → Type 0
HasRowImages s a = (b : ℕ) → b < MAX_TILES → allows s s.axis a b ≡ true → is_block s a b ≡ true → list_any (same_image (Two a b)) s.images ≡ true
