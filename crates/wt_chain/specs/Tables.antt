-- Scaffolding: tables that say for each tile whether its image is at least two long.
use Rattle.std.specs.Prelude.{ℕ, zero, suc, ◌≡◌, ◌<◌, ◌≤◌, List, [], ◌∷◌, map, replicate, Bool, false, ◌||◌, nat_le, slice_index_or}
use Rattle.wt_grid.specs.declared.image.Image.TheVariants as image
use Rattle.wt_grid.specs.declared.image.Image.{Image}
use Rattle.wt_grid.specs.declared.axis.Axis.{Axis}
use Rattle.std.specs.List.{range_with_len}
use Rattle.wt_grid.specs.Widths.{Stage, width}
use Rattle.wt_step.specs.declared.raw.RawLink.{RawLink}
use Rattle.wt_chain.specs.Growth.{image_of, is_along, origin}
use Rattle.wt_grid.specs.declared.limits.TheConstants.{MAX_TILES}

-- the entries of 256 tiles
abbrev pub entries_of : {A : Type 0} → (ℕ → A) → List A
entries_of f = map f (range_with_len 0 MAX_TILES)

-- what the table says of tile t
abbrev pub entry : List Bool → ℕ → Bool
entry rows t = slice_index_or rows t false

-- an image is at least two long where it is two tiles along the axis, or where that of its first tile is
abbrev pub grows_by : Bool → Image → List Bool → Bool
grows_by along (image.One a) rows = entry rows a
grows_by along (image.Two a b) rows = along || entry rows a

-- the same for the image of coarse tile t of a step
abbrev pub grows : Axis → RawLink → List Bool → ℕ → Bool
grows axis link rows t = grows_by (is_along axis link) (image_of link t) rows

-- the table of a step's coarse tiles, from that of its fine tiles
unfoldable pub next_table : Axis → RawLink → List Bool → List Bool
next_table axis link rows = entries_of (grows axis link rows)

-- the table of the last set, from that of the first
abbrev pub climb : Axis → List RawLink → List Bool → List Bool
climb axis [] rows = rows
climb axis (link ∷ links) rows = climb axis links (next_table axis link rows)

-- what the table of the last set says of the tile that is carried onto t
abbrev pub origin_entry : List ℕ → List Bool → ℕ → Bool
origin_entry renaming rows t = entry rows (origin renaming t)

-- the table of the first set, from that of the last
unfoldable pub renamed_table : List ℕ → List Bool → List Bool
renamed_table renaming rows = entries_of (origin_entry renaming rows)

-- the table after n turns; before the first turn no tile is two long
abbrev pub turns_table : Axis → List RawLink → List ℕ → ℕ → List Bool
turns_table axis loop renaming zero = replicate MAX_TILES false
turns_table axis loop renaming (suc n) = renamed_table renaming (climb axis loop (turns_table axis loop renaming n))

-- the table tells for n tiles whether these stages make them at least two wide
pub record IsTable (n : ℕ) (rows : List Bool) (left : List Stage) : Type 0 where
  pub tells : (t : ℕ) → t < n → entry rows t ≡ nat_le 2 (width left t)
  pub some : (t : ℕ) → 1 ≤ width left t
