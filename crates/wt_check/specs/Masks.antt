-- Scaffolding: masks that say for each tile which tiles stand in what it stands for.
use Rattle.std.specs.Prelude.{◌≡◌, ℕ, ◌<◌, max, min, List, [], ◌∷◌, length}
use Rattle.wt_grid.specs.Traces.{piece_tiles}
use Rattle.wt_grid.specs.declared.image.Image.TheVariants as image
use Rattle.wt_grid.specs.declared.image.Image.{Image}
use Rattle.wt_grid.specs.Widths.{total}
use Rattle.wt_tile.specs.declared.tile.TileList.{TileList}
use Rattle.wt_step.specs.declared.raw.RawLink.{RawLink}
use Rattle.wt_chain.specs.Sets.{AreLinked, last_set}
use Rattle.wt_chain.specs.Growth.{image_of}
use Rattle.wt_lane.specs.Masks.{mask_bit}
use Rattle.wt_mask.specs.Masks.{mask_at}

-- bit u of the mask of an image
abbrev pub image_bit : List (List ℕ) → ℕ → Image → ℕ
image_bit rows u (image.One a) = mask_bit (mask_at rows a) u
image_bit rows u (image.Two a b) = max (mask_bit (mask_at rows a) u) (mask_bit (mask_at rows b) u)

-- bit u of the mask of each of n tiles is set where the tile weighs something by the weights of u
abbrev pub AreMasks : ℕ → List (List ℕ) → (ℕ → ℕ → ℕ) → Type 0
AreMasks n rows weights = (t u : ℕ) → t < n → mask_bit (mask_at rows t) u ≡ min 1 (weights u t)

-- what a coarse tile of a step weighs: what its tiles weigh together
abbrev pub pulled_by : RawLink → (ℕ → ℕ) → ℕ → ℕ
pulled_by link f t = total f (piece_tiles (image_of link t))

-- the same under several steps
abbrev pub pulled_through : List RawLink → (ℕ → ℕ) → ℕ → ℕ
pulled_through [] f = f
pulled_through (link ∷ links) f = pulled_through links (pulled_by link f)

-- the masks of the last set tell what those of the first do, through several steps
abbrev pub AreCarriedMasks : List RawLink → List (List ℕ) → List (List ℕ) → Type 0
AreCarriedMasks links old new = (set : TileList) (weights : ℕ → ℕ → ℕ) → AreLinked set links → AreMasks (length set.tiles) old weights
    → AreMasks (length (last_set set links).tiles) new (λ u. pulled_through links (weights u))

-- the masks of n tiles all have the first n tiles
abbrev pub AreFull : ℕ → List (List ℕ) → Type 0
AreFull n rows = (t u : ℕ) → t < n → u < n → mask_bit (mask_at rows t) u ≡ 1

-- the mask of one of n tiles lacks one of the first n
abbrev pub HasGap : ℕ → List (List ℕ) → Type 0
HasGap n rows = (t : ℕ) × (u : ℕ) × (t < n) × (u < n) × (mask_bit (mask_at rows t) u ≡ 1 → ⊥)
