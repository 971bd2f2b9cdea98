-- No value has a float.
use Rattle.std.proofs.Common.{◌≡◌, ℕ, zero, suc, ◌+◌, false, List, [], ◌∷◌, map, refl, ◌||◌, ℤ, pos, negsuc}
use Rattle.wt_grid.specs.declared.image.Image.TheVariants.{One as Single, Two as Double}
use Rattle.wt_grid.specs.declared.image.Image.{Image}
use Rattle.wt_grid.specs.declared.axis.Side.TheVariants.{After, Before}
use Rattle.wt_grid.specs.declared.axis.Side.{Side}
use Rattle.serde_json.specs.Data.{Data, string, Items, no_items, item}
use Rattle.serde_json.specs.View.{items_of}
use Rattle.serde_json.specs.Written.{has_float, items_have_float}
use Rattle.wt_tile.specs.declared.tile.TileList.{TileList}
use Rattle.wt_tile.specs.declared.tile.Tile.{Tile}
use Rattle.wt_step.specs.declared.raw.Lost.{Lost}
use Rattle.wt_step.specs.declared.raw.RawLink.{RawLink}
use Rattle.wt_step.specs.declared.raw.RawLink.TheVariants.{Marker, Restrict}
use Rattle.wt_chain.specs.declared.raw.RawChain.{RawChain}
use Rattle.wt_chain.specs.declared.raw.End.{End}
use Rattle.wt_chain.specs.declared.raw.End.TheVariants.{Open, Loop}
use Rattle.wt_plane.specs.HalfPlanes.{Half, numbers_of}
use Rattle.wt_torus.specs.declared.partition.Labelled.{Labelled}
use Rattle.wt_torus.specs.declared.partition.Partition.{Partition}
use Rattle.wt_session.specs.Json.{signed, plane_json, region_json, partition_json, whole, numbers, tile_json, set_json, image_json, side_json, step_json, end_json, sizes, chain_json}

module _ {A : Type 0} (f : A → Data) (plain : (x : A) → has_float (f x) ≡ false) where
  pub none_in : (xs : List A) → items_have_float (items_of (map f xs)) ≡ false
  none_in [] = refl
  none_in (x ∷ xs) = rw (plain x, none_in xs) refl

of_numbers : (ns : List ℕ) → items_have_float (items_of (map whole ns)) ≡ false
of_numbers ns = none_in whole (λ n. refl) ns

of_image : (image : Image) → has_float (image_json image) ≡ false
of_image (Single u) = refl
of_image (Double u v) = refl

of_side : (side : Side) → has_float (side_json side) ≡ false
of_side After = refl
of_side Before = refl

of_step : (link : RawLink) → has_float (step_json link) ≡ false
of_step (Marker s) = rw (none_in image_json of_image s.images, of_numbers s.markers, of_side s.side) refl
of_step (Restrict s) = rw (of_numbers s.kept, of_numbers (map (λ (x : Lost). x.tile) s.lost)) refl

of_end : (end : End) → has_float (end_json end) ≡ false
of_end Open = refl
of_end (Loop start renaming e) = rw (of_numbers renaming) refl

pub plain_string : (s : List ℕ) → has_float (string s) ≡ false
plain_string s = refl

pub plain_numbers : (ns : List ℕ) → has_float (numbers ns) ≡ false
plain_numbers ns = of_numbers ns

pub plain_set : (set : TileList) → has_float (set_json set) ≡ false
plain_set set = rw (none_in (tile_json set.names1 set.names2) (λ t. refl) set.tiles) refl

pub plain_chain : (c : RawChain) → has_float (chain_json c) ≡ false
plain_chain c = rw (of_end c.end, of_numbers (sizes c.steps), none_in step_json of_step c.steps) refl

of_signed : (z : ℤ) → has_float (signed z) ≡ false
of_signed (pos n) = refl
of_signed (negsuc n) = refl

of_plane : (h : Half) → has_float (plane_json h) ≡ false
of_plane h = none_in signed of_signed (numbers_of h)

of_region : (r : Labelled) → has_float (region_json r) ≡ false
of_region r = rw (none_in plane_json of_plane r.region.planes) refl

pub plain_partition : (p : Partition) → has_float (partition_json p) ≡ false
plain_partition p = rw (none_in region_json of_region p.regions) refl
