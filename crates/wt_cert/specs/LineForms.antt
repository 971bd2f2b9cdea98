-- The lines of a certificate, each by its form and its limits, in the grammar's order. A row of names is in wt_pattern, a tree in Trees.
use Rattle.std.specs.Prelude.{ℕ, Bool, true, false, List, [], ◌∷◌, Option, Some, Result, codes}
use Rattle.wt_grid.specs.declared.image.Image.TheVariants as image
use Rattle.wt_grid.specs.declared.image.Image.{Image}
use Rattle.wt_grid.specs.declared.axis.Side.{Side}
use Rattle.wt_grid.specs.declared.axis.Axis.{Axis}
use Rattle.std.specs.Fmt.{decimal}
use Rattle.wt_line.specs.declared.faults.What.{What}
use Rattle.wt_line.specs.Limits.{small, radius, number_from_one}
use Rattle.wt_line.specs.Directions.{axis, side}
use Rattle.wt_line.specs.declared.limits.TheConstants.{MOST}
use Rattle.wt_line.specs.declared.faults.What.TheVariants.{Steps, Tiles, Pairs, Expansion, Number}
use Rattle.wt_refute.specs.Refutation.{Refutation}
use Rattle.wt_chain.specs.declared.raw.Version.{Version}
use Rattle.wt_chain.specs.declared.raw.Version.TheVariants as versions
use Rattle.wt_text.specs.Readers.{◌>>=◌, pair, mapped, LineFault, number_to, either_word, given, seen_value, Either, first, either_behind, value_behind, both, whole, counted_numbers}
use Rattle.wt_cert.specs.Trees.{tree_to_end}
use Rattle.wt_grid.specs.declared.limits.TheConstants.{MAX_TILES}

-- a word, and no more
unfoldable pub alone_form : List ℕ → List (List ℕ) → Result (Unit {0}) (LineFault What)
alone_form w = whole (value_behind w (given tt))

-- a word, and a count of what follows
unfoldable pub count_form : List ℕ → ℕ → What → List (List ℕ) → Result ℕ (LineFault What)
count_form w most what = whole (value_behind w (number_to most what))

-- a word, a count, and n numbers
unfoldable pub numbers_form : List ℕ → List (List ℕ) → Result (List ℕ) (LineFault What)
numbers_form w = whole (value_behind w (counted_numbers MAX_TILES Tiles MOST Number))

-- ---- certificate 1, or certificate 2

-- the first line of a certificate
unfoldable pub version_form : List (List ℕ) → Result Version (LineFault What)
version_form = whole (value_behind (codes "certificate") (either_word (codes "1") versions.One (codes "2") versions.Two))

-- ---- steps S, where S is at least 1

-- the line that says how many steps follow
unfoldable pub steps_form : List (List ℕ) → Result ℕ (LineFault What)
steps_form = whole (value_behind (codes "steps") (number_from_one 32 Steps))

-- ---- step k axis A side W radius R, or in version two step k restrict radius R

-- the axis, the side and the radius of a marker step
abbrev pub marker_head : List (List ℕ) → Option (Result (Axis × (Side × ℕ)) What × List (List ℕ))
marker_head = both axis (value_behind (codes "side") (both side (value_behind (codes "radius") radius)))

-- the radius of a restrict step
abbrev pub restrict_head : List (List ℕ) → Option (Result ℕ What × List (List ℕ))
restrict_head = value_behind (codes "radius") radius

-- the head of a marker step, or of a restrict step
abbrev pub Head : Type 0
Head = Either (Axis × (Side × ℕ)) ℕ

-- what stands after the number of a step: in version one a marker step, in version two a step of either kind
abbrev pub kind_of_step : Version → List (List ℕ) → Option (Result Head What × List (List ℕ))
kind_of_step versions.One ts = seen_value first (value_behind (codes "axis") marker_head ts)
kind_of_step versions.Two ts = either_behind (codes "axis") marker_head (codes "restrict") restrict_head ts

-- the first line of the block of step k
unfoldable pub head_form : Version → ℕ → List (List ℕ) → Result Head (LineFault What)
head_form version k = whole (value_behind (codes "step") (value_behind (decimal k) (kind_of_step version)))

-- ---- allowed 1 c, or allowed 2 c: a b

-- the line that says how many allowed pairs of an axis follow
unfoldable pub allowed_form : List ℕ → List (List ℕ) → Result ℕ (LineFault What)
allowed_form a = whole (value_behind (codes "allowed") (value_behind a (number_to 65536 Pairs)))

-- an allowed pair
unfoldable pub pair_form : List (List ℕ) → Result (ℕ × ℕ) (LineFault What)
pair_form = whole (both small small)

-- ---- refuted: A a b TREE, with the radius of the step, or in version two A a b R TREE

-- only trees of version two cite
abbrev pub may_cite : Version → Bool
may_cite versions.One = false
may_cite versions.Two = true

-- the radius of a refutation: in version one that of the step, which isn't written
abbrev pub radius_in : Version → ℕ → List (List ℕ) → Option (Result ℕ What × List (List ℕ))
radius_in versions.One r ts = given r ts
radius_in versions.Two r ts = radius ts

-- a refutation, after trees of n nodes
unfoldable pub refuted_form : Version → ℕ → ℕ → List (List ℕ) → Result (Axis × (ℕ × (ℕ × (ℕ × Refutation)))) (LineFault What)
refuted_form version r nodes = whole (both axis (both small (both small (both (radius_in version r) (tree_to_end (may_cite version) nodes)))))

-- ---- lost: t TREE

-- a lost tile with its tree, after trees of n nodes
unfoldable pub lost_form : ℕ → List (List ℕ) → Result (ℕ × Refutation) (LineFault What)
lost_form nodes = whole (both small (tree_to_end true nodes))

-- ---- images: u, or u v

-- an image of two tiles
abbrev pub image_of : ℕ × ℕ → Image
image_of x = image.Two x.0 x.1

-- what may stand behind the first tile: nothing, or a second tile
abbrev pub image_behind : Result ℕ What → List (List ℕ) → Option (Result Image What × List (List ℕ))
image_behind u [] = Some (mapped image.One u, [])
image_behind u (t ∷ ts) = small (t ∷ ts) >>= λ v. Some (mapped image_of (pair u v.0), v.1)

-- an image, as tokens
abbrev pub image_in : List (List ℕ) → Option (Result Image What × List (List ℕ))
image_in ts = small ts >>= λ u. image_behind u.0 u.1

-- an image
unfoldable pub image_form : List (List ℕ) → Result Image (LineFault What)
image_form = whole image_in

-- ---- open, or loop START E

-- how the chain ends; a loop names its level and its turns, at most 256
unfoldable pub end_form : List (List ℕ) → Result (Either (Unit {0}) (ℕ × ℕ)) (LineFault What)
end_form = whole (either_behind (codes "open") (given tt) (codes "loop") (both small (number_to 256 Expansion)))
