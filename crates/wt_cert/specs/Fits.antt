-- Which chains have a text: those within its limits, whose lists of tiles have their colours numbered by first coming.
use Rattle.std.specs.Prelude.{◌≡◌, ℕ, ◌≤◌, true, List, length}
use Rattle.wt_grid.specs.declared.image.Image.TheVariants as image
use Rattle.wt_grid.specs.declared.image.Image.{Image}
use Rattle.wt_tile.specs.declared.tile.TileList.{TileList}
use Rattle.wt_refute.specs.View.{refutation}
use Rattle.wt_refute.specs.declared.tree.Refuted.{Refuted}
use Rattle.wt_step.specs.declared.raw.Lost.{Lost}
use Rattle.wt_step.specs.declared.raw.RawStep.{RawStep}
use Rattle.wt_step.specs.declared.raw.RawRestrict.{RawRestrict}
use Rattle.wt_step.specs.declared.raw.RawLink.{RawLink}
use Rattle.wt_step.specs.declared.raw.RawLink.TheVariants.{Marker, Restrict}
use Rattle.wt_chain.specs.declared.raw.Version.{Version}
use Rattle.wt_chain.specs.declared.raw.Version.TheVariants as versions
use Rattle.wt_chain.specs.declared.raw.End.{End}
use Rattle.wt_chain.specs.declared.raw.End.TheVariants.{Open, Loop}
use Rattle.wt_chain.specs.declared.raw.RawChain.{RawChain}
use Rattle.wt_text.specs.Spellings.{AllFit, FitInTurn}
use Rattle.wt_pattern.specs.TileRows.{IsListed}
use Rattle.wt_cert.specs.LineForms.{may_cite}
use Rattle.wt_cert.specs.Trees.{IsWritableTree}
use Rattle.wt_cert.specs.Parts.{with_refuted, with_lost, with_link}
use Rattle.wt_grid.specs.declared.limits.TheConstants.{MAX_TILES}

-- a number that has no limit of its own
abbrev pub IsSmall : ℕ → Type 0
IsSmall n = n ≤ 65535

-- at most 256 tiles, whose colours are numbered by first coming and named
pub record AreWritableTiles (list : TileList) : Type 0 where
  pub few : length list.tiles ≤ MAX_TILES
  pub listed : IsListed list

-- at most 256 numbers within the limit
abbrev pub AreWritableNumbers : List ℕ → Type 0
AreWritableNumbers ns = (length ns ≤ MAX_TILES) × AllFit IsSmall ns

-- both numbers of a pair are within the limit
abbrev pub IsWritablePair : ℕ × ℕ → Type 0
IsWritablePair x = IsSmall x.0 × IsSmall x.1

-- at most 65,536 such pairs
abbrev pub AreWritablePairs : List (ℕ × ℕ) → Type 0
AreWritablePairs xs = (length xs ≤ 65536) × AllFit IsWritablePair xs

-- the tiles of an image are within the limit
abbrev pub IsWritableImage : Image → Type 0
IsWritableImage (image.One u) = IsSmall u
IsWritableImage (image.Two u v) = IsSmall u × IsSmall v

-- at most 256 such images
abbrev pub AreWritableImages : List Image → Type 0
AreWritableImages xs = (length xs ≤ MAX_TILES) × AllFit IsWritableImage xs

-- in version one a refutation has the radius of its step
abbrev pub IsWritableRadius : Version → ℕ → ℕ → Type 0
IsWritableRadius versions.One r radius = radius ≡ r
IsWritableRadius versions.Two r radius = radius ≤ 4

-- a refutation in a step of radius r, where n nodes came before
pub record IsWritableRefutation (version : Version) (r nodes : ℕ) (x : Refuted) : Type 0 where
  pub small_a : IsSmall x.a
  pub small_b : IsSmall x.b
  pub radius : IsWritableRadius version r x.radius
  pub tree : IsWritableTree (may_cite version) 90 nodes (refutation x.tree)

-- a lost tile, where n nodes came before
pub record IsWritableLoss (nodes : ℕ) (x : Lost) : Type 0 where
  pub small : IsSmall x.tile
  pub tree : IsWritableTree true 90 nodes (refutation x.tree)

-- at most 131,072 refutations, each with the nodes of those before it
abbrev pub AreWritableRefutations : Version → ℕ → ℕ → List Refuted → Type 0
AreWritableRefutations version r nodes xs = (length xs ≤ 131072) × FitInTurn (IsWritableRefutation version r) with_refuted nodes xs

-- at most 256 lost tiles, each with the nodes of those before it
abbrev pub AreWritableLosses : ℕ → List Lost → Type 0
AreWritableLosses nodes xs = (length xs ≤ MAX_TILES) × FitInTurn IsWritableLoss with_lost nodes xs

-- a marker step, where n nodes came before
pub record IsWritableMarker (version : Version) (nodes : ℕ) (s : RawStep) : Type 0 where
  pub radius : s.radius ≤ 4
  pub fine : AreWritableTiles s.fine
  pub coarse : AreWritableTiles s.coarse
  pub markers : AreWritableNumbers s.markers
  pub allowed1 : AreWritablePairs s.allowed1
  pub allowed2 : AreWritablePairs s.allowed2
  pub refuted : AreWritableRefutations version s.radius nodes s.refuted
  pub images : AreWritableImages s.images

-- a restrict step, where n nodes came before
pub record IsWritableRestrict (nodes : ℕ) (s : RawRestrict) : Type 0 where
  pub radius : s.radius ≤ 4
  pub fine : AreWritableTiles s.fine
  pub coarse : AreWritableTiles s.coarse
  pub kept : AreWritableNumbers s.kept
  pub lost : AreWritableLosses nodes s.lost

-- only version two has restrict steps
abbrev pub IsWritableLink : Version → ℕ → RawLink → Type 0
IsWritableLink version nodes (Marker s) = IsWritableMarker version nodes s
IsWritableLink versions.One nodes (Restrict s) = ⊥
IsWritableLink versions.Two nodes (Restrict s) = IsWritableRestrict nodes s

-- the level of a loop within the limit, at most 256 turns, and a list of numbers
abbrev pub IsWritableEnd : End → Type 0
IsWritableEnd Open = Unit {0}
IsWritableEnd (Loop start renaming expansion) = IsSmall start × (expansion ≤ 256) × AreWritableNumbers renaming

-- the condition of writing: the nodes of all trees are counted on from step to step
pub record IsWritable (c : RawChain) : Type 0 where
  pub some : 1 ≤ length c.steps
  pub few : length c.steps ≤ 32
  pub steps : FitInTurn (IsWritableLink c.version) with_link 0 c.steps
  pub end : IsWritableEnd c.end
