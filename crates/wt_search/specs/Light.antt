-- Light chains: each refuted pair has the least radius at which its window is empty, and a tree that cites what is refuted at lower radii.
use Rattle.std.specs.Prelude.{ℕ, zero, suc, ◌+◌, ◌≡◌, ◌<◌, ◌≤◌, Bool, not, nat_lt, List, [], ◌++◌, length, map, filter, slice_get, Some}
use Rattle.std.specs.List.{list_any}
use Rattle.wt_grid.specs.declared.axis.Axis.{Axis}
use Rattle.wt_grid.specs.declared.axis.Axis.TheVariants.{One, Two}
use Rattle.wt_tile.specs.declared.tile.Tile.{Tile}
use Rattle.wt_pattern.specs.Windows.{IsEmptyWindow, IsSurroundable}
use Rattle.wt_refute.specs.declared.tree.Refuted.{Refuted}
use Rattle.wt_refute.specs.Entries.{is_entry}
use Rattle.wt_refute.specs.View.{refutation}
use Rattle.wt_refute.specs.Made.{tree_of}
use Rattle.wt_refute.specs.Standard.{standard_tree}
use Rattle.wt_step.specs.declared.raw.RawStep.{RawStep}
use Rattle.wt_step.specs.declared.raw.RawLink.{RawLink}
use Rattle.wt_step.specs.declared.raw.RawLink.TheVariants.{Marker, Restrict}
use Rattle.wt_chain.specs.declared.raw.RawChain.{RawChain}
use Rattle.wt_chain.specs.declared.raw.Version.TheVariants as versions
use Rattle.wt_window.specs.Surrounded.{surroundable}
use Rattle.wt_marker.specs.Gather.{any_from, pairs_of}

-- Refuted pairs.

-- a refutation of this radius is of the pair
abbrev pub has_refutation_at : List Refuted → Axis → ℕ → ℕ → ℕ → Bool
has_refutation_at entries axis a b r = list_any (is_entry r axis a b) entries

-- the step refutes the pair, at some radius up to its own
abbrev pub has_refutation : RawStep → Axis → ℕ → ℕ → Bool
has_refutation s axis a b = any_from (has_refutation_at s.refuted axis a b) 0 (s.radius + 1)

-- the pairs of an axis that the step refutes, by the first and then by the second tile
abbrev pub refuted_of : RawStep → Axis → List (ℕ × ℕ)
refuted_of s axis = pairs_of (has_refutation s axis) (length s.fine.tiles)

-- Radii.

-- the pair has a window of this radius
abbrev pub has_window : List Tile → Axis → ℕ → ℕ × ℕ → Bool
has_window ts axis r q = surroundable ts axis r q.0 q.1

-- the window of this radius is empty
abbrev pub has_none : List Tile → Axis → ℕ → ℕ × ℕ → Bool
has_none ts axis r q = not (has_window ts axis r q)

-- of these pairs, those that have windows of all radii from 1 to r
abbrev pub left_after : List Tile → Axis → List (ℕ × ℕ) → ℕ → List (ℕ × ℕ)
left_after ts axis qs zero = qs
left_after ts axis qs (suc r) = filter (has_window ts axis (suc r)) (left_after ts axis qs r)

-- Entries.

-- the entry of a pair at a radius, with its standard tree where these entries are known
abbrev pub entry_of : List Tile → List Refuted → ℕ → Axis → ℕ × ℕ → Refuted
entry_of ts known r axis q = record { axis = axis; a = q.0; b = q.1; radius = r; tree = tree_of (standard_tree ts axis q.0 q.1 r known) }

-- of these pairs, the entries of those whose window of this radius is empty
abbrev pub entries_of : List Tile → List Refuted → ℕ → Axis → List (ℕ × ℕ) → List Refuted
entries_of ts known r axis qs = map (entry_of ts known r axis) (filter (has_none ts axis r) qs)

-- the refuted pairs of an axis that have windows of all radii from 1 to r
abbrev pub asked_after : RawStep → Axis → ℕ → List (ℕ × ℕ)
asked_after s axis r = left_after s.fine.tiles axis (refuted_of s axis) r

-- the entries of radius r + 1: those of the pairs whose window of this radius is empty and of no lower one from 1 on
abbrev pub new_entries : RawStep → List Refuted → Axis → ℕ → List Refuted
new_entries s known axis r = entries_of s.fine.tiles known (suc r) axis (asked_after s axis r)

-- The entries of a light step with radii from 1 to r: by radius, axis, first and second tile, each with the entries of lower radius known.
abbrev pub light_entries : RawStep → ℕ → List Refuted
light_entries s zero = []
light_entries s (suc r) = light_entries s r ++ (new_entries s (light_entries s r) One r ++ new_entries s (light_entries s r) Two r)

-- Light steps and chains.

-- the step with these refutations
abbrev pub with_entries : RawStep → List Refuted → RawStep
with_entries s entries = record s { refuted = entries }

-- the light step: all but the refutations is as before
abbrev pub light_step : RawStep → RawStep
light_step s = with_entries s (light_entries s s.radius)

-- a restrict step stays as it is
abbrev pub light_link : RawLink → RawLink
light_link (Marker s) = Marker (light_step s)
light_link (Restrict s) = Restrict s

-- The light chain: in version two, with light steps; its end is as before.
abbrev pub light : RawChain → RawChain
light c = record { version = versions.Two; steps = map light_link c.steps; end = c.end }

-- What is said of each entry of a light step: its radius is the least, from 1 on, at which its window is empty, and its tree is the standard one with the entries of lower radius known.
pub record IsLight (ts : List Tile) (entries : List Refuted) (r : Refuted) : Type 0 where
  pub some : 1 ≤ r.radius
  pub empty : IsEmptyWindow ts r.axis r.a r.b r.radius
  pub least : (q : ℕ) → 1 ≤ q → q < r.radius → IsSurroundable ts r.axis r.a r.b q
  pub tree : refutation r.tree ≡ standard_tree ts r.axis r.a r.b r.radius (filter (λ (e : Refuted). nat_lt e.radius r.radius) entries)

-- so it is of each entry
abbrev pub AreLight : List Tile → List Refuted → Type 0
AreLight ts entries = (i : ℕ) (r : Refuted) → slice_get entries i ≡ Some r → IsLight ts entries r

-- both steps refute the same pairs of the tiles of the first
abbrev pub RefuteAlike : RawStep → RawStep → Type 0
RefuteAlike s t =
    (axis : Axis) (a b : ℕ) → a < length s.fine.tiles → b < length s.fine.tiles → has_refutation t axis a b ≡ has_refutation s axis a b
