-- How a chain is written: its lines, token by token, in the grammar's order.
use Rattle.std.specs.Prelude.{ℕ, ◌+◌, List, [], ◌∷◌, ◌++◌, length, map, codes}
use Rattle.std.specs.List.{flat_map}
use Rattle.wt_grid.specs.declared.image.Image.TheVariants as image
use Rattle.wt_grid.specs.declared.image.Image.{Image}
use Rattle.wt_grid.specs.declared.axis.Side.TheVariants.{After, Before}
use Rattle.wt_grid.specs.declared.axis.Side.{Side}
use Rattle.wt_grid.specs.declared.axis.Axis.TheVariants.{One, Two}
use Rattle.wt_grid.specs.declared.axis.Axis.{Axis}
use Rattle.std.specs.Fmt.{decimal}
use Rattle.wt_tile.specs.declared.tile.TileList.{TileList}
use Rattle.wt_refute.specs.View.{refutation}
use Rattle.wt_refute.specs.declared.tree.Refuted.{Refuted}
use Rattle.wt_step.specs.declared.raw.Lost.{Lost}
use Rattle.wt_step.specs.declared.raw.RawStep.{RawStep}
use Rattle.wt_step.specs.declared.raw.RawRestrict.{RawRestrict}
use Rattle.wt_step.specs.declared.raw.RawLink.{RawLink}
use Rattle.wt_step.specs.declared.raw.RawLink.TheVariants.{Marker, Restrict}
use Rattle.wt_chain.specs.declared.raw.Version.{Version}
use Rattle.wt_chain.specs.declared.raw.Version.TheVariants as versions
use Rattle.wt_chain.specs.declared.raw.End.{End}
use Rattle.wt_chain.specs.declared.raw.End.TheVariants.{Open, Loop}
use Rattle.wt_chain.specs.declared.raw.RawChain.{RawChain}
use Rattle.wt_text.specs.Lines.{Line, line_of}
use Rattle.wt_text.specs.Spellings.{line_spelling}
use Rattle.wt_pattern.specs.TileRows.{rows_spelling}
use Rattle.wt_cert.specs.Trees.{tree_spelling}

-- a line of its own
abbrev pub line : List (List ℕ) → List Line
line ts = line_of ts ∷ []

-- a word and a count, or a word, a count and n numbers
abbrev pub count_tokens : List ℕ → ℕ → List (List ℕ)
count_tokens w n = w ∷ decimal n ∷ []

-- a word, a count, and these numbers
abbrev pub numbers_tokens : List ℕ → List ℕ → List (List ℕ)
numbers_tokens w ns = w ∷ decimal (length ns) ∷ map decimal ns

-- the number of a version
abbrev pub version_word : Version → List ℕ
version_word versions.One = codes "1"
version_word versions.Two = codes "2"

-- 1 or 2 for an axis
abbrev pub axis_digit : Axis → List ℕ
axis_digit One = codes "1"
axis_digit Two = codes "2"

-- the word of a side
abbrev pub side_word : Side → List ℕ
side_word After = codes "after"
side_word Before = codes "before"

-- fine n, or coarse n, and n rows of names
abbrev pub tiles_lines : List ℕ → TileList → List Line
tiles_lines w list = line (count_tokens w (length list.tiles)) ++ rows_spelling list

-- allowed 1 c, or allowed 2 c, and c pairs
abbrev pub pair_tokens : ℕ × ℕ → List (List ℕ)
pair_tokens x = decimal x.0 ∷ decimal x.1 ∷ []

-- the list of the allowed pairs of an axis
abbrev pub allowed_lines : List ℕ → List (ℕ × ℕ) → List Line
allowed_lines a xs = line (codes "allowed" ∷ count_tokens a (length xs)) ++ flat_map (line_spelling pair_tokens) xs

-- refuted c, and c refutations; only version two tells their radius
abbrev pub radius_tokens : Version → ℕ → List (List ℕ)
radius_tokens versions.One r = []
radius_tokens versions.Two r = decimal r ∷ []

-- a refutation
abbrev pub refuted_tokens : Version → Refuted → List (List ℕ)
refuted_tokens version x = axis_digit x.axis ∷ decimal x.a ∷ decimal x.b ∷ (radius_tokens version x.radius ++ tree_spelling (refutation x.tree))

-- the list of a step's refutations
abbrev pub refuted_lines : Version → List Refuted → List Line
refuted_lines version xs = line (count_tokens (codes "refuted") (length xs)) ++ flat_map (line_spelling (refuted_tokens version)) xs

-- lost c, and c lost tiles
abbrev pub lost_tokens : Lost → List (List ℕ)
lost_tokens x = decimal x.tile ∷ tree_spelling (refutation x.tree)

-- the list of a step's lost tiles
abbrev pub lost_lines : List Lost → List Line
lost_lines xs = line (count_tokens (codes "lost") (length xs)) ++ flat_map (line_spelling lost_tokens) xs

-- images c, and c images
abbrev pub image_tokens : Image → List (List ℕ)
image_tokens (image.One u) = decimal u ∷ []
image_tokens (image.Two u v) = decimal u ∷ decimal v ∷ []

-- the list of a step's images
abbrev pub images_lines : List Image → List Line
images_lines xs = line (count_tokens (codes "images") (length xs)) ++ flat_map (line_spelling image_tokens) xs

-- ---- the block of step k

-- the first line of the block of a marker step
abbrev pub marker_head : ℕ → RawStep → List (List ℕ)
marker_head k s = codes "step" ∷ decimal k ∷ codes "axis" ∷ axis_digit s.axis ∷ codes "side" ∷ side_word s.side ∷ codes "radius" ∷ decimal s.radius ∷ []

-- the block of a marker step
unfoldable pub marker_lines : Version → ℕ → RawStep → List Line
marker_lines version k s =
    line (marker_head k s) ++
    (tiles_lines (codes "fine") s.fine ++
    (tiles_lines (codes "coarse") s.coarse ++
    (line (numbers_tokens (codes "markers") s.markers) ++
    (allowed_lines (codes "1") s.allowed1 ++
    (allowed_lines (codes "2") s.allowed2 ++
    (refuted_lines version s.refuted ++
    images_lines s.images))))))

-- the first line of the block of a restrict step
abbrev pub restrict_head : ℕ → RawRestrict → List (List ℕ)
restrict_head k s = codes "step" ∷ decimal k ∷ codes "restrict" ∷ codes "radius" ∷ decimal s.radius ∷ []

-- the block of a restrict step
unfoldable pub restrict_lines : ℕ → RawRestrict → List Line
restrict_lines k s =
    line (restrict_head k s) ++
    (tiles_lines (codes "fine") s.fine ++
    (tiles_lines (codes "coarse") s.coarse ++
    (line (numbers_tokens (codes "kept") s.kept) ++
    lost_lines s.lost)))

-- the block of a step of either kind
abbrev pub link_lines : Version → ℕ → RawLink → List Line
link_lines version k (Marker s) = marker_lines version k s
link_lines version k (Restrict s) = restrict_lines k s

-- the blocks of the steps from number k on
abbrev pub blocks_lines : Version → ℕ → List RawLink → List Line
blocks_lines version k [] = []
blocks_lines version k (x ∷ xs) = link_lines version k x ++ blocks_lines version (k + 1) xs

-- ---- the end, and a certificate whole

-- how the chain ends
abbrev pub end_lines : End → List Line
end_lines Open = line (codes "open" ∷ [])
end_lines (Loop start renaming expansion) = line (codes "loop" ∷ decimal start ∷ decimal expansion ∷ []) ++ line (numbers_tokens (codes "renaming") renaming)

-- the text of a chain, line by line
unfoldable pub cert_lines : RawChain → List Line
cert_lines c =
    line (codes "certificate" ∷ version_word c.version ∷ []) ++
    (line (count_tokens (codes "steps") (length c.steps)) ++
    (blocks_lines c.version 0 c.steps ++
    (end_lines c.end ++
    line (codes "end" ∷ []))))
