-- The grammar of certificates, line by line and with no limits.
use Rattle.std.specs.Prelude.{ℕ, List, [], ◌∷◌, ◌++◌, true, Option, Some, codes}
use Rattle.wt_grid.specs.declared.limits.TheConstants.{MAX_TILES}
use Rattle.wt_grid.specs.declared.image.Image.TheVariants as image
use Rattle.wt_grid.specs.declared.image.Image.{Image}
use Rattle.wt_grid.specs.declared.axis.Side.{Side}
use Rattle.wt_grid.specs.declared.axis.Side.TheVariants.{After, Before}
use Rattle.wt_grid.specs.declared.axis.Axis.{Axis}
use Rattle.wt_grid.specs.declared.axis.Axis.TheVariants.{One, Two}
use Rattle.wt_tile.specs.declared.tile.TileList.{TileList}
use Rattle.wt_line.specs.declared.limits.TheConstants.{MOST, MAX_RADIUS}
use Rattle.wt_line.specs.declared.faults.What.{What}
use Rattle.wt_line.specs.declared.faults.What.TheVariants.{Steps, Radius, Tiles, Pairs, Expansion, Number}
use Rattle.wt_text.specs.Readers.{◌>>=◌, Either, first, second}
use Rattle.wt_pattern.specs.TileRows.{rows_list}
use Rattle.wt_refute.specs.Refutation.{Refutation}
use Rattle.wt_refute.specs.declared.tree.Refuted.{Refuted}
use Rattle.wt_step.specs.declared.raw.Lost.{Lost}
use Rattle.wt_step.specs.declared.raw.RawLink.{RawLink}
use Rattle.wt_chain.specs.declared.raw.Version.{Version}
use Rattle.wt_chain.specs.declared.raw.Version.TheVariants as versions
use Rattle.wt_chain.specs.declared.raw.End.{End}
use Rattle.wt_chain.specs.declared.raw.End.TheVariants.{Open}
use Rattle.wt_chain.specs.declared.raw.RawChain.{RawChain}
use Rattle.wt_cert.specs.LineForms.{may_cite, image_of, Head}
use Rattle.wt_cert.specs.Parts.{to_refuted, with_refuted, to_lost, with_lost, to_marker, to_restrict, next_step, to_loop, to_chain}
use Rattle.wt_faults.specs.Grammars.{Quantity, Grammar, ends, one, many, many_in_turn}
use Rattle.wt_faults.specs.Forms.{a_number, a_number_from_one, this_number, a_word, known, seen, either_of, counted_list, behind_word, two, alone}
use Rattle.wt_faults.specs.Rows.{names_part, shaped_grammar}
use Rattle.wt_faults.specs.Trees.{a_tree}

-- a number that has no limit of its own
abbrev pub a_small : List (List ℕ) → Option ((ℕ × List Quantity) × List (List ℕ))
a_small = a_number MOST Number

-- a radius
abbrev pub a_radius : List (List ℕ) → Option ((ℕ × List Quantity) × List (List ℕ))
a_radius = a_number MAX_RADIUS Radius

-- an axis, 1 or 2
abbrev pub an_axis : List (List ℕ) → Option ((Axis × List Quantity) × List (List ℕ))
an_axis = a_word (codes "1") One (codes "2") Two

-- a side
abbrev pub a_side : List (List ℕ) → Option ((Side × List Quantity) × List (List ℕ))
a_side = a_word (codes "after") After (codes "before") Before

-- ---- the lines

-- a word, and no more
abbrev pub word_line : List ℕ → List (List ℕ) → Option (Unit {0} × List Quantity)
word_line w = alone (behind_word w (known tt))

-- a word, and a count of what follows
abbrev pub count_line : List ℕ → ℕ → What → List (List ℕ) → Option (ℕ × List Quantity)
count_line w most what = alone (behind_word w (a_number most what))

-- a word, a count, and n numbers
abbrev pub numbers_line : List ℕ → List (List ℕ) → Option (List ℕ × List Quantity)
numbers_line w = alone (behind_word w (counted_list MAX_TILES Tiles MOST Number))

-- certificate 1, or certificate 2
abbrev pub version_line : List (List ℕ) → Option (Version × List Quantity)
version_line = alone (behind_word (codes "certificate") (a_word (codes "1") versions.One (codes "2") versions.Two))

-- steps S, where S isn't 0
abbrev pub steps_line : List (List ℕ) → Option (ℕ × List Quantity)
steps_line = alone (behind_word (codes "steps") (a_number_from_one 32 Steps))

-- A side W radius R, behind the word axis
abbrev pub marker_said : List (List ℕ) → Option (((Axis × (Side × ℕ)) × List Quantity) × List (List ℕ))
marker_said = two an_axis (behind_word (codes "side") (two a_side (behind_word (codes "radius") a_radius)))

-- radius R, behind the word restrict
abbrev pub restrict_said : List (List ℕ) → Option ((ℕ × List Quantity) × List (List ℕ))
restrict_said = behind_word (codes "radius") a_radius

-- what stands behind the number of a step: in version one a marker step, in version two a step of either kind
abbrev pub kind_said : Version → List (List ℕ) → Option ((Head × List Quantity) × List (List ℕ))
kind_said versions.One = seen first (behind_word (codes "axis") marker_said)
kind_said versions.Two = either_of (codes "axis") marker_said (codes "restrict") restrict_said

-- step k axis A side W radius R, or in version two step k restrict radius R
abbrev pub head_line : Version → ℕ → List (List ℕ) → Option (Head × List Quantity)
head_line version k = alone (behind_word (codes "step") (this_number k (kind_said version)))

-- allowed 1 c, or allowed 2 c
abbrev pub allowed_line : List ℕ → List (List ℕ) → Option (ℕ × List Quantity)
allowed_line a = alone (behind_word (codes "allowed") (behind_word a (a_number 65536 Pairs)))

-- a pair a b
abbrev pub pair_line : List (List ℕ) → Option ((ℕ × ℕ) × List Quantity)
pair_line = alone (two a_small a_small)

-- the radius of a refutation: in version one that of the step, which isn't written
abbrev pub radius_said : Version → ℕ → List (List ℕ) → Option ((ℕ × List Quantity) × List (List ℕ))
radius_said versions.One r = known r
radius_said versions.Two r = a_radius

-- A a b TREE, or in version two A a b R TREE, behind trees of n nodes
abbrev pub refuted_line : Version → ℕ → ℕ → List (List ℕ) → Option ((Axis × (ℕ × (ℕ × (ℕ × Refutation)))) × List Quantity)
refuted_line version r nodes = alone (two an_axis (two a_small (two a_small (two (radius_said version r) (a_tree (may_cite version) nodes)))))

-- t TREE, behind trees of n nodes
abbrev pub lost_line : ℕ → List (List ℕ) → Option ((ℕ × Refutation) × List Quantity)
lost_line nodes = alone (two a_small (a_tree true nodes))

-- what may stand behind the first tile of an image
abbrev pub second_tile : ℕ × List Quantity → List (List ℕ) → Option ((Image × List Quantity) × List (List ℕ))
second_tile u [] = Some ((image.One u.0, u.1), [])
second_tile u (t ∷ ts) = a_small (t ∷ ts) >>= λ v. Some ((image_of (u.0, v.0.0), u.1 ++ v.0.1), v.1)

-- u, or u v
abbrev pub image_line : List (List ℕ) → Option (Image × List Quantity)
image_line = alone (λ ts. a_small ts >>= λ u. second_tile u.0 u.1)

-- open, or loop START E
abbrev pub end_line : List (List ℕ) → Option (Either (Unit {0}) (ℕ × ℕ) × List Quantity)
end_line = alone (either_of (codes "open") (known tt) (codes "loop") (two a_small (a_number 256 Expansion)))

-- ---- the parts, each with what goes by it

-- fine n, or coarse n, and n rows of names
abbrev pub tiles_grammar : List ℕ → (TileList → Grammar) → Grammar
tiles_grammar w next = one (count_line w MAX_TILES Tiles) (λ n. many names_part n (λ rows. next (rows_list rows)))

-- allowed 1 c, or allowed 2 c, and c pairs
abbrev pub allowed_grammar : List ℕ → (List (ℕ × ℕ) → Grammar) → Grammar
allowed_grammar a next = one (allowed_line a) (λ n. many (one pair_line) n next)

-- a refutation
abbrev pub refuted_entry : Version → ℕ → ℕ → (Refuted → Grammar) → Grammar
refuted_entry version r nodes next = one (refuted_line version r nodes) (λ x. next (to_refuted x))

-- refuted c, and c refutations
abbrev pub refuted_grammar : Version → ℕ → ℕ → (List Refuted → Grammar) → Grammar
refuted_grammar version r nodes next = one (count_line (codes "refuted") 131072 Pairs) (λ n. many_in_turn (refuted_entry version r) with_refuted nodes n next)

-- a lost tile
abbrev pub lost_entry : ℕ → (Lost → Grammar) → Grammar
lost_entry nodes next = one (lost_line nodes) (λ x. next (to_lost x))

-- lost c, and c lost tiles
abbrev pub lost_grammar : ℕ → (List Lost → Grammar) → Grammar
lost_grammar nodes next = one (count_line (codes "lost") MAX_TILES Tiles) (λ n. many_in_turn lost_entry with_lost nodes n next)

-- images c, and c images
abbrev pub images_grammar : (List Image → Grammar) → Grammar
images_grammar next = one (count_line (codes "images") MAX_TILES Tiles) (λ n. many (one image_line) n next)

-- the block of a marker step behind its first line
abbrev pub marker_grammar : Version → ℕ → Axis × (Side × ℕ) → (RawLink → Grammar) → Grammar
marker_grammar version nodes head next =
    tiles_grammar (codes "fine") (λ fine.
    tiles_grammar (codes "coarse") (λ coarse.
    one (numbers_line (codes "markers")) (λ markers.
    allowed_grammar (codes "1") (λ allowed1.
    allowed_grammar (codes "2") (λ allowed2.
    refuted_grammar version head.1.1 nodes (λ refuted.
    images_grammar (λ images. next (to_marker head (fine, (coarse, (markers, (allowed1, (allowed2, (refuted, images))))))))))))))

-- the block of a restrict step behind its first line
abbrev pub restrict_grammar : ℕ → ℕ → (RawLink → Grammar) → Grammar
restrict_grammar nodes radius next =
    tiles_grammar (codes "fine") (λ fine.
    tiles_grammar (codes "coarse") (λ coarse.
    one (numbers_line (codes "kept")) (λ kept.
    lost_grammar nodes (λ lost. next (to_restrict radius (fine, (coarse, (kept, lost))))))))

-- the block of a step of either kind behind its first line
abbrev pub block_grammar : Version → ℕ → Head → (RawLink → Grammar) → Grammar
block_grammar version nodes (first head) next = marker_grammar version nodes head next
block_grammar version nodes (second radius) next = restrict_grammar nodes radius next

-- the block of a step, by its number and the nodes so far
abbrev pub link_grammar : Version → ℕ × ℕ → (RawLink → Grammar) → Grammar
link_grammar version s next = one (head_line version s.0) (λ head. block_grammar version s.1 head next)

-- the blocks of all steps
abbrev pub steps_grammar : Version → (List RawLink → Grammar) → Grammar
steps_grammar version next = one steps_line (λ n. many_in_turn (link_grammar version) next_step (0, 0) n next)

-- what stands behind the line of the end: for a loop its renaming
abbrev pub renaming_behind : Either (Unit {0}) (ℕ × ℕ) → (End → Grammar) → Grammar
renaming_behind (first u) next = next Open
renaming_behind (second x) next = one (numbers_line (codes "renaming")) (λ renaming. next (to_loop x renaming))

-- a certificate, and then what goes by its chain
abbrev pub cert_grammar : (RawChain → Grammar) → Grammar
cert_grammar next =
    one version_line (λ version.
    steps_grammar version (λ steps.
    one end_line (λ e. renaming_behind e (λ end.
    one (word_line (codes "end")) (λ u. next (to_chain version (steps, (end, u))))))))

-- a certificate
abbrev pub certificate_grammar : Grammar
certificate_grammar = cert_grammar (λ c. ends)

-- a certificate, and then a pattern with the line of its width and height
abbrev pub desub_grammar : Grammar
desub_grammar = cert_grammar (λ c. shaped_grammar (λ x. ends))
