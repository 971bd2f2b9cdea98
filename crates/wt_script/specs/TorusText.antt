-- A torus and its regions as text: a first line with the box, its moves and how many regions there are, and for each region a
-- line with its label and how many half-planes it has, and a line for each of these.
use Rattle.std.specs.Prelude.{ℕ, ℤ, List, [], ◌∷◌, Option, Result, codes}
use Rattle.wt_golden.specs.Fractions.{Fraction}
use Rattle.wt_line.specs.declared.faults.What.{What}
use Rattle.wt_line.specs.declared.faults.What.TheVariants.{Tiles, Regions, Planes}
use Rattle.wt_pattern.specs.TileRows.{no_state}
use Rattle.wt_text.specs.Readers.{number_to, value_behind, seen_value, both, whole, one_line, many_parts, part_by, seen_as}
use Rattle.wt_torus.specs.declared.partition.TheConstants.{MAX_PLANES, MAX_REGIONS}
use Rattle.wt_script.specs.declared.limits.TheConstants.{MAX_LABEL}
use Rattle.wt_script.specs.declared.torus.RawBox.{RawBox}
use Rattle.wt_script.specs.declared.torus.RawRegion.{RawRegion}
use Rattle.wt_script.specs.declared.torus.RawTorus.{RawTorus}
use Rattle.wt_script.specs.Forms.{Form, Part}
use Rattle.wt_script.specs.Tokens.{name, golden, plane_number}

-- the width, the height and the two moves
abbrev pub to_box : Fraction × (Fraction × (Fraction × Fraction)) → RawBox
to_box x = record { width = x.0; height = x.1.0; move1 = x.1.1.0; move2 = x.1.1.1 }

-- GA GB Ga Gb
unfoldable pub sides : List (List ℕ) → Option (Result RawBox What × List (List ℕ))
sides ts = seen_value to_box (both golden (both golden (both golden golden)) ts)

-- p0 p1 q0 q1 r0 r1
unfoldable pub plane_form : Form (ℤ × (ℤ × (ℤ × (ℤ × (ℤ × ℤ)))))
plane_form = whole (both plane_number (both plane_number (both plane_number (both plane_number (both plane_number plane_number)))))

-- the six numbers as a list
abbrev pub six : ℤ × (ℤ × (ℤ × (ℤ × (ℤ × ℤ)))) → List ℤ
six x = x.0 ∷ x.1.0 ∷ x.1.1.0 ∷ x.1.1.1.0 ∷ x.1.1.1.1.0 ∷ x.1.1.1.1.1 ∷ []

-- a half-plane in a line
abbrev pub plane_part : Part (List ℤ)
plane_part = seen_as six (one_line plane_form)

-- n half-planes
abbrev pub planes_part : ℕ → Part (List (List ℤ))
planes_part n = many_parts (λ s. plane_part) no_state 0 n

-- region LABEL k
unfoldable pub region_form : Form (ℕ × ℕ)
region_form = whole (value_behind (codes "region") (both (number_to MAX_LABEL Tiles) (number_to MAX_PLANES Planes)))

-- what the lines of a region tell
abbrev pub to_region : (ℕ × ℕ) × List (List ℤ) → RawRegion
to_region x = record { label = x.0.0; planes = x.1 }

-- a region: its line and its half-planes
unfoldable pub region_part : Part RawRegion
region_part = seen_as to_region (part_by (one_line region_form) (λ head. planes_part head.1))

-- n regions
abbrev pub regions_part : ℕ → Part (List RawRegion)
regions_part n = many_parts (λ s. region_part) no_state 0 n

-- GA GB Ga Gb n
abbrev pub box_and_count : List (List ℕ) → Option (Result (RawBox × ℕ) What × List (List ℕ))
box_and_count = both sides (number_to MAX_REGIONS Regions)

-- torus GA GB Ga Gb n, as a torus text begins
unfoldable pub plain_torus_form : Form (RawBox × ℕ)
plain_torus_form = whole (value_behind (codes "torus") box_and_count)

-- torus N GA GB Ga Gb n, as a script has it
unfoldable pub torus_form : Form (List ℕ × (RawBox × ℕ))
torus_form = whole (value_behind (codes "torus") (both name box_and_count))

-- what the lines of a torus tell
abbrev pub to_raw_torus : (RawBox × ℕ) × List RawRegion → RawTorus
to_raw_torus x = record { sides = x.0.0; regions = x.1 }

-- a torus: its line and its regions
unfoldable pub plain_torus_part : Part RawTorus
plain_torus_part = seen_as to_raw_torus (part_by (one_line plain_torus_form) (λ head. regions_part head.1))
