-- The parts of a certificate, line by line.
use Rattle.std.specs.Prelude.{ℕ, ◌+◌, List, Result, codes}
use Rattle.wt_grid.specs.declared.image.Image.{Image}
use Rattle.wt_grid.specs.declared.axis.Side.{Side}
use Rattle.wt_grid.specs.declared.axis.Axis.{Axis}
use Rattle.wt_tile.specs.declared.tile.TileList.{TileList}
use Rattle.wt_line.specs.declared.faults.What.{What}
use Rattle.wt_line.specs.declared.faults.What.TheVariants.{Tiles, Pairs}
use Rattle.wt_refute.specs.Refutation.{Refutation, node_count}
use Rattle.wt_refute.specs.View.{refutation}
use Rattle.wt_refute.specs.declared.tree.Refuted.{Refuted}
use Rattle.wt_step.specs.declared.raw.Lost.{Lost}
use Rattle.wt_step.specs.declared.raw.RawLink.{RawLink}
use Rattle.wt_step.specs.declared.raw.RawLink.TheVariants.{Marker, Restrict}
use Rattle.wt_chain.specs.declared.raw.Version.{Version}
use Rattle.wt_chain.specs.declared.raw.End.{End}
use Rattle.wt_chain.specs.declared.raw.End.TheVariants.{Open, Loop}
use Rattle.wt_chain.specs.declared.raw.RawChain.{RawChain}
use Rattle.wt_text.specs.Lines.{Line}
use Rattle.wt_text.specs.Readers.{TextFault, Either, first, second, one_line, both_parts, counted_parts, left_by, seen_as, part_behind, no_part}
use Rattle.wt_pattern.specs.TileRows.{no_state, tile_rows}
use Rattle.wt_refute.specs.Made.{tree_of}
use Rattle.wt_cert.specs.LineForms.{alone_form, count_form, numbers_form, version_form, steps_form, Head, head_form, allowed_form, pair_form, refuted_form, lost_form, image_form, end_form}
use Rattle.wt_grid.specs.declared.limits.TheConstants.{MAX_TILES}

-- fine n, or coarse n, and n rows of names
unfoldable pub tiles_part : List ℕ → ℕ × List Line → Result (TileList × (ℕ × List Line)) (TextFault What)
tiles_part w = part_behind (one_line (count_form w MAX_TILES Tiles)) tile_rows

-- markers m t1 .. tm, or kept m t1 .. tm, or renaming m t1 .. tm
unfoldable pub numbers_part : List ℕ → ℕ × List Line → Result (List ℕ × (ℕ × List Line)) (TextFault What)
numbers_part w = one_line (numbers_form w)

-- allowed 1 c, or allowed 2 c, and c pairs
unfoldable pub allowed_part : List ℕ → ℕ × List Line → Result (List (ℕ × ℕ) × (ℕ × List Line)) (TextFault What)
allowed_part a = counted_parts (one_line (allowed_form a)) (λ s. one_line pair_form) no_state 0

-- ---- refuted c, and c refutations

-- what is read of a refutation, as a value
abbrev pub to_refuted : Axis × (ℕ × (ℕ × (ℕ × Refutation))) → Refuted
to_refuted x = record { axis = x.0; a = x.1.0; b = x.1.1.0; radius = x.1.1.1.0; tree = tree_of x.1.1.1.1 }

-- a refutation, where n nodes came before
unfoldable pub refuted_row : Version → ℕ → ℕ → ℕ × List Line → Result (Refuted × (ℕ × List Line)) (TextFault What)
refuted_row version r nodes = seen_as to_refuted (one_line (refuted_form version r nodes))

-- the nodes so far, with those of one more refutation
abbrev pub with_refuted : ℕ → Refuted → ℕ
with_refuted nodes r = nodes + node_count (refutation r.tree)

-- the list of a step's refutations, after trees of n nodes
unfoldable pub refuted_part : Version → ℕ → ℕ → ℕ × List Line → Result (List Refuted × (ℕ × List Line)) (TextFault What)
refuted_part version r nodes = counted_parts (one_line (count_form (codes "refuted") 131072 Pairs)) (refuted_row version r) with_refuted nodes

-- ---- lost c, and c lost tiles

-- what is read of a lost tile, as a value
abbrev pub to_lost : ℕ × Refutation → Lost
to_lost x = record { tile = x.0; tree = tree_of x.1 }

-- a lost tile, after trees of n nodes
unfoldable pub lost_row : ℕ → ℕ × List Line → Result (Lost × (ℕ × List Line)) (TextFault What)
lost_row nodes = seen_as to_lost (one_line (lost_form nodes))

-- the nodes so far, with those of one more lost tile
abbrev pub with_lost : ℕ → Lost → ℕ
with_lost nodes x = nodes + node_count (refutation x.tree)

-- the list of a step's lost tiles, after trees of n nodes
unfoldable pub lost_part : ℕ → ℕ × List Line → Result (List Lost × (ℕ × List Line)) (TextFault What)
lost_part nodes = counted_parts (one_line (count_form (codes "lost") MAX_TILES Tiles)) lost_row with_lost nodes

-- images c, and c images
unfoldable pub images_part : ℕ × List Line → Result (List Image × (ℕ × List Line)) (TextFault What)
images_part = counted_parts (one_line (count_form (codes "images") MAX_TILES Tiles)) (λ s. one_line image_form) no_state 0

-- ---- the block of a step behind its first line, where n nodes came before

-- what is read of a marker step, as a value
abbrev pub to_marker : Axis × (Side × ℕ) → TileList × (TileList × (List ℕ × (List (ℕ × ℕ) × (List (ℕ × ℕ) × (List Refuted × List Image))))) → RawLink
to_marker head x = Marker (record {
  axis = head.0;
  side = head.1.0;
  radius = head.1.1;
  fine = x.0;
  coarse = x.1.0;
  markers = x.1.1.0;
  allowed1 = x.1.1.1.0;
  allowed2 = x.1.1.1.1.0;
  refuted = x.1.1.1.1.1.0;
  images = x.1.1.1.1.1.1;
})

-- the block of a marker step after its first line
unfoldable pub marker_part : Version → ℕ → Axis × (Side × ℕ) → ℕ × List Line → Result (RawLink × (ℕ × List Line)) (TextFault What)
marker_part version nodes head = seen_as (to_marker head)
    (both_parts (tiles_part (codes "fine"))
    (both_parts (tiles_part (codes "coarse"))
    (both_parts (numbers_part (codes "markers"))
    (both_parts (allowed_part (codes "1"))
    (both_parts (allowed_part (codes "2"))
    (both_parts (refuted_part version head.1.1 nodes)
    images_part))))))

-- what is read of a restrict step, as a value
abbrev pub to_restrict : ℕ → TileList × (TileList × (List ℕ × List Lost)) → RawLink
to_restrict radius x = Restrict (record { radius = radius; fine = x.0; coarse = x.1.0; kept = x.1.1.0; lost = x.1.1.1 })

-- the block of a restrict step after its first line
unfoldable pub restrict_part : ℕ → ℕ → ℕ × List Line → Result (RawLink × (ℕ × List Line)) (TextFault What)
restrict_part nodes radius = seen_as (to_restrict radius)
    (both_parts (tiles_part (codes "fine"))
    (both_parts (tiles_part (codes "coarse"))
    (both_parts (numbers_part (codes "kept"))
    (lost_part nodes))))

-- the block of a step of either kind after its first line
abbrev pub block_part : Version → ℕ → Head → ℕ × List Line → Result (RawLink × (ℕ × List Line)) (TextFault What)
block_part version nodes (first head) = marker_part version nodes head
block_part version nodes (second radius) = restrict_part nodes radius

-- the block of step k
unfoldable pub link_part : Version → ℕ → ℕ → ℕ × List Line → Result (RawLink × (ℕ × List Line)) (TextFault What)
link_part version k nodes = part_behind (one_line (head_form version k)) (block_part version nodes)

-- ---- steps S, and S blocks

-- the nodes so far, with those of one more step
abbrev pub with_link : ℕ → RawLink → ℕ
with_link nodes (Marker s) = left_by with_refuted nodes s.refuted
with_link nodes (Restrict s) = left_by with_lost nodes s.lost

-- the number of the next step, and the nodes so far
abbrev pub next_step : ℕ × ℕ → RawLink → ℕ × ℕ
next_step s x = (s.0 + 1, with_link s.1 x)

-- the blocks of all steps, numbered from 0
unfoldable pub steps_part : Version → ℕ × List Line → Result (List RawLink × (ℕ × List Line)) (TextFault What)
steps_part version = counted_parts (one_line steps_form) (λ s. link_part version s.0 s.1) next_step (0, 0)

-- ---- open, or loop START E and renaming N r0 r1 ..

-- what is read of a loop, as a value
abbrev pub to_loop : ℕ × ℕ → List ℕ → End
to_loop x renaming = Loop x.0 renaming x.1

-- what stands after the line of the end: for a loop its renaming
abbrev pub end_behind : Either (Unit {0}) (ℕ × ℕ) → ℕ × List Line → Result (End × (ℕ × List Line)) (TextFault What)
end_behind (first u) = no_part Open
end_behind (second x) = seen_as (to_loop x) (numbers_part (codes "renaming"))

-- how the chain ends
unfoldable pub end_part : ℕ × List Line → Result (End × (ℕ × List Line)) (TextFault What)
end_part = part_behind (one_line end_form) end_behind

-- ---- a certificate, whole

-- what is read of a chain, as a value
abbrev pub to_chain : Version → List RawLink × (End × Unit {0}) → RawChain
to_chain version x = record { version = version; steps = x.0; end = x.1.0 }

-- a certificate after its first line
unfoldable pub chain_part : Version → ℕ × List Line → Result (RawChain × (ℕ × List Line)) (TextFault What)
chain_part version = seen_as (to_chain version) (both_parts (steps_part version) (both_parts end_part (one_line (alone_form (codes "end")))))

-- a certificate
unfoldable pub cert_part : ℕ × List Line → Result (RawChain × (ℕ × List Line)) (TextFault What)
cert_part = part_behind (one_line version_form) chain_part
