-- Steps derived from tables of dominoes.
use Rattle.std.specs.Prelude.{◌≡◌, ◌⊎◌, ℕ, ◌+◌, ◌<◌, Bool, true, ◌&&◌, not, nat_eq, nat_lt, if◌then◌else◌, Option, None, Some, List, [], ◌∷◌, ◌++◌, length, map, option_map, Contains, Result, MatchResult}
use Rattle.wt_grid.specs.Axes.{other}
use Rattle.wt_grid.specs.declared.image.Image.{Image}
use Rattle.wt_grid.specs.declared.axis.Side.{Side}
use Rattle.wt_grid.specs.declared.axis.Axis.TheVariants.{One, Two}
use Rattle.wt_grid.specs.declared.axis.Axis.{Axis}
use Rattle.wt_tile.specs.declared.tile.Tile.{Tile}
use Rattle.wt_tile.specs.declared.tile.TileList.{TileList}
use Rattle.wt_tile.specs.Matching.{matches}
use Rattle.wt_tile.specs.Sets.{repeated}
use Rattle.wt_tile.specs.declared.fusion.Fused.{Fused}
use Rattle.wt_grid.specs.declared.limits.TheConstants.{MAX_TILES}
use Rattle.wt_grid.specs.First.{or_else}
use Rattle.wt_grid.specs.Order.{first_in}
use Rattle.wt_pattern.specs.Windows.{IsEmptyWindow}
use Rattle.wt_refute.specs.declared.tree.Refuted.{Refuted}
use Rattle.wt_refute.specs.Refutation.{Refutation, node_count}
use Rattle.wt_refute.specs.Made.{tree_of}
use Rattle.wt_refute.specs.Standard.{standard_tree}
use Rattle.wt_step.specs.declared.raw.RawStep.{RawStep}
use Rattle.wt_refute.specs.declared.limits.TheConstants.{MAX_NODES}
use Rattle.wt_marker.specs.declared.end.DeriveEnd.{DeriveEnd}
use Rattle.wt_marker.specs.declared.end.DeriveEnd.TheVariants.{EmptySet, TooManyTiles, Repeated, Spent, TooManyNodes, OutOfMemory}
use Rattle.wt_marker.specs.Gather.{pairs_of}
use Rattle.wt_window.specs.Surrounded.{Tells, on, allowed}
use Rattle.wt_marker.specs.Classes.{is_in, IsKeptClass, kept_on}
use Rattle.wt_marker.specs.Demanded.{demanded}
use Rattle.wt_marker.specs.Coarse.{edges_of, coarse_set, number_tiles}

-- What a step is derived from: a set, the axis and side of its markers, a radius, the markers, and the
-- dominoes of both axes.
pub record Plan : Type 0 where
  pub fine : TileList
  pub axis : Axis
  pub side : Side
  pub radius : ℕ
  pub class : List ℕ
  pub one : ℕ → ℕ → Bool
  pub two : ℕ → ℕ → Bool

-- the plan of these parts
abbrev pub plan : TileList → Axis → Side → ℕ → List ℕ → (ℕ → ℕ → Bool) → (ℕ → ℕ → Bool) → Plan
plan fine axis side radius class one two = record { fine = fine; axis = axis; side = side; radius = radius; class = class; one = one; two = two }

-- the plan of these parts, where the dominoes are those of two tables
abbrev pub plan_by : TileList → Axis → Side → ℕ → List ℕ → List (List ℕ) → List (List ℕ) → Plan
plan_by fine axis side radius class one two = plan fine axis side radius class (allowed one) (allowed two)

-- the dominoes of an axis
abbrev pub dominoes : Plan → Axis → ℕ → ℕ → Bool
dominoes p axis = on axis p.one p.two

-- how many tiles the plan's set has
abbrev pub tiles_of : Plan → ℕ
tiles_of p = length p.fine.tiles

-- the plan that a step may be derived from: both tables are those of the set and the radius, and the class
-- is a kept one
pub record IsPlan (p : Plan) : Type 0 where
  pub tells : (axis : Axis) → Tells p.fine.tiles axis p.radius (dominoes p axis)
  pub kept : IsKeptClass (tiles_of p) (dominoes p (other p.axis)) (dominoes p p.axis) p.class

-- both tables are those of the set and the radius, and the class is listed
pub record IsListedPlan (p : Plan) : Type 0 where
  pub tells1 : Tells p.fine.tiles One p.radius p.one
  pub tells2 : Tells p.fine.tiles Two p.radius p.two
  pub listed : Contains (kept_on (tiles_of p) p.axis p.one p.two) p.class

-- Pairs.

-- the dominoes of an axis as a list, by the first and then by the second tile
abbrev pub allowed_pairs : Plan → Axis → List (ℕ × ℕ)
allowed_pairs p axis = pairs_of (dominoes p axis) (tiles_of p)

-- the two match, and are no domino
abbrev pub is_refuted : List Tile → Axis → (ℕ → ℕ → Bool) → ℕ → ℕ → Bool
is_refuted ts axis f a b = matches ts axis a b && not (f a b)

-- two tiles that match, and whose window is empty: so it has a standard tree that refutes it
pub record IsRefutable (ts : List Tile) (axis : Axis) (radius : ℕ) (q : ℕ × ℕ) : Type 0 where
  pub first : q.0 < length ts
  pub second : q.1 < length ts
  pub fits : matches ts axis q.0 q.1 ≡ true
  pub empty : IsEmptyWindow ts axis q.0 q.1 radius

-- the matching pairs of an axis that are no domino, by the first and then by the second tile
abbrev pub refuted_pairs : List Tile → Axis → (ℕ → ℕ → Bool) → List (ℕ × ℕ)
refuted_pairs ts axis f = pairs_of (is_refuted ts axis f) (length ts)

-- Trees.

-- the standard tree of a pair, with no known entries
abbrev pub tree_at : List Tile → ℕ → Axis → ℕ × ℕ → Refutation
tree_at ts radius axis q = standard_tree ts axis q.0 q.1 radius []

-- the refutation of a pair: its standard tree, with the step's radius
abbrev pub entry_of : List Tile → ℕ → Axis → ℕ × ℕ → Refuted
entry_of ts radius axis q = record { axis = axis; a = q.0; b = q.1; radius = radius; tree = tree_of (tree_at ts radius axis q) }

-- the refutations of an axis, where f are its dominoes
abbrev pub entries : List Tile → ℕ → Axis → (ℕ → ℕ → Bool) → List Refuted
entries ts radius axis f = map (entry_of ts radius axis) (refuted_pairs ts axis f)

-- the refutations of both axes, those of axis 1 first
abbrev pub all_entries : List Tile → ℕ → (ℕ → ℕ → Bool) → (ℕ → ℕ → Bool) → List Refuted
all_entries ts radius one two = entries ts radius One one ++ entries ts radius Two two

-- the pair, where its tree has more nodes than the budget
abbrev pub spent_at : List Tile → ℕ → ℕ → Axis → ℕ × ℕ → Option DeriveEnd
spent_at ts radius budget axis q = if nat_lt budget (node_count (tree_at ts radius axis q)) then Some (Spent axis q.0 q.1) else None

-- the first pair of an axis whose tree has more nodes than the budget
abbrev pub first_spent : List Tile → ℕ → ℕ → Axis → (ℕ → ℕ → Bool) → Option DeriveEnd
first_spent ts radius budget axis f = first_in (spent_at ts radius budget axis) (refuted_pairs ts axis f)

-- the nodes of the trees of pairs, together
abbrev pub nodes_of : List Tile → ℕ → Axis → List (ℕ × ℕ) → ℕ
nodes_of ts radius axis [] = 0
nodes_of ts radius axis (q ∷ qs) = node_count (tree_at ts radius axis q) + nodes_of ts radius axis qs

-- the nodes of all trees of an axis, together
abbrev pub nodes_in : List Tile → ℕ → Axis → (ℕ → ℕ → Bool) → ℕ
nodes_in ts radius axis f = nodes_of ts radius axis (refuted_pairs ts axis f)

-- the nodes of all trees of both axes, together
abbrev pub all_nodes : Plan → ℕ
all_nodes p = nodes_in p.fine.tiles p.radius One p.one + nodes_in p.fine.tiles p.radius Two p.two

-- Why the trees aren't all there: the first beyond the budget, or more than 1,048,576 nodes.
unfoldable pub trees_fault : List Tile → ℕ → (ℕ → ℕ → Bool) → (ℕ → ℕ → Bool) → ℕ → Option DeriveEnd
trees_fault ts radius one two budget =
    or_else (first_spent ts radius budget One one)
    (or_else (first_spent ts radius budget Two two)
    (if nat_lt MAX_NODES (nodes_in ts radius One one + nodes_in ts radius Two two) then Some TooManyNodes else None))

-- Coarse tiles.

-- the images that a class of markers demands, where f are the dominoes of n tiles
abbrev pub images_with : Side → (ℕ → ℕ → Bool) → List ℕ → ℕ → List Image
images_with side f class n = demanded side f (pairs_of f n) (is_in class) n

-- the images that the plan demands
abbrev pub images_of : Plan → List Image
images_of p = images_with p.side (dominoes p p.axis) p.class (tiles_of p)

-- the four edges of each of these images
abbrev pub edges_in : Plan → List Fused
edges_in p = map (edges_of p.fine.tiles p.axis) (images_of p)

-- two images that are one tile, as a reason
abbrev pub repeated_pair : ℕ × ℕ → DeriveEnd
repeated_pair q = Repeated q.0 q.1

-- Why the images make no set: there is none, or more than 256, or two are the same tile.
unfoldable pub images_fault : List Tile → Axis → List Image → Option DeriveEnd
images_fault ts axis images =
    or_else (if nat_eq (length images) 0 then Some EmptySet else None)
    (or_else (if nat_lt MAX_TILES (length images) then Some TooManyTiles else None)
    (option_map repeated_pair (repeated 0 [] (number_tiles [] [] (map (edges_of ts axis) images)))))

-- The step.
abbrev pub derived : Plan → RawStep
derived p = record {
  axis = p.axis;
  side = p.side;
  radius = p.radius;
  fine = p.fine;
  coarse = coarse_set (edges_in p);
  markers = p.class;
  allowed1 = allowed_pairs p One;
  allowed2 = allowed_pairs p Two;
  refuted = all_entries p.fine.tiles p.radius p.one p.two;
  images = images_of p;
}

-- Why there is no step, the first reason.
abbrev pub derive_fault : Plan → ℕ → Option DeriveEnd
derive_fault p budget = or_else (images_fault p.fine.tiles p.axis (images_of p)) (trees_fault p.fine.tiles p.radius p.one p.two budget)

-- a refusal tells this reason, or that memory ran out
abbrev pub IsReason : Option DeriveEnd → DeriveEnd → Type 0
IsReason reason e = (e ≡ OutOfMemory) ⊎ (reason ≡ Some e)

-- What a derivation may answer: the derived step, where there is no reason against it; else the first
-- reason, or that memory ran out.
abbrev pub MayAnswerStep : Plan → ℕ → Result RawStep DeriveEnd → Type 0
MayAnswerStep p budget result = MatchResult result (λ step. (step ≡ derived p) × (derive_fault p budget ≡ None)) (λ e. IsReason (derive_fault p budget) e)
