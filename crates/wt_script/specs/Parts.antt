-- The commands of a script, each a first line and the lines that it says follow.
use Rattle.std.specs.Prelude.{ℕ, ℤ, List, [], ◌∷◌, Option, None, Some, Result, Err, codes, if◌then◌else◌}
use Rattle.wt_golden.specs.Fractions.{Fraction}
use Rattle.wt_grid.specs.declared.axis.Side.{Side}
use Rattle.wt_grid.specs.declared.axis.Axis.{Axis}
use Rattle.std.specs.Str.{bytes_eq}
use Rattle.wt_line.specs.declared.faults.What.{What}
use Rattle.wt_tile.specs.declared.tile.TileList.{TileList}
use Rattle.wt_grid.specs.Grid.{Grid}
use Rattle.wt_text.specs.Words.{tokens}
use Rattle.wt_text.specs.Lines.{Line}
use Rattle.wt_text.specs.Readers.{TextFault, syntax_at, one_line, seen_as, part_by}
use Rattle.wt_pattern.specs.TileRows.{tile_rows}
use Rattle.wt_pattern.specs.PatternRows.{pattern_rows}
use Rattle.wt_pattern.specs.declared.drawing.Style.{Style}
use Rattle.wt_script.specs.declared.torus.RawBox.{RawBox}
use Rattle.wt_script.specs.declared.torus.RawRegion.{RawRegion}
use Rattle.wt_script.specs.declared.word.Word.{Word}
use Rattle.wt_script.specs.declared.word.Word.TheVariants as word
use Rattle.wt_script.specs.declared.kinds.Kind.{Kind}
use Rattle.wt_script.specs.declared.kinds.Kind.TheVariants.{Tiles, Pattern, Valid, Period, Dominoes, Surround, Markers, Fuse, Same, Derive, Search, Cert, Check, Upgrade, Lighten, Expand, Image, Desub, Bound, Primitive, Seeds, Census, Draw, Json, Torus, Code, Induce}
use Rattle.wt_script.specs.Forms.{Part, tiles_form, pattern_form, named_form, vector_form, windows_form, surround_form, fuse_form, names_form, derive_form, search_form, check_form, lighten_form, expand_form, image_form, desub_form, seeds_form, census_form, draw_form, code_form, induce_form}
use Rattle.wt_script.specs.TorusText.{torus_form, regions_part}
use Rattle.wt_script.specs.Raw.{raw_lines}

-- ---- commands with lines of their own

-- what its lines tell, as the command tiles
abbrev pub to_tiles : (List ℕ × ℕ) × TileList → Word
to_tiles x = word.Tiles x.0.0 x.1

-- tiles N n, and n tiles
unfoldable pub tiles_part : Part Word
tiles_part = seen_as to_tiles (part_by (one_line tiles_form) (λ head. tile_rows head.1))

-- what its lines tell, as the command pattern
abbrev pub to_pattern : (List ℕ × (List ℕ × (ℕ × ℕ))) × Grid → Word
to_pattern x = word.Pattern x.0.0 x.0.1.0 x.1

-- pattern N S w h, and h rows
unfoldable pub pattern_part : Part Word
pattern_part = seen_as to_pattern (part_by (one_line pattern_form) (λ head. pattern_rows head.1.1.0 head.1.1.1))

-- what its lines tell, as the command check
abbrev pub to_check : (List ℕ × ℕ) × List ℕ → Word
to_check x = word.Check x.0.0 x.1

-- check N n, and n lines, whatever they hold
unfoldable pub check_part : Part Word
check_part = seen_as to_check (part_by (one_line check_form) (λ head. raw_lines head.1))

-- what its lines tell, as the command torus
abbrev pub to_torus : (List ℕ × (RawBox × ℕ)) × List RawRegion → Word
to_torus x = word.Torus x.0.0 x.0.1.0.width x.0.1.0.height x.0.1.0.move1 x.0.1.0.move2 x.1

-- torus N GA GB Ga Gb n, and n regions
unfoldable pub torus_part : Part Word
torus_part = seen_as to_torus (part_by (one_line torus_form) (λ head. regions_part head.1.1))

-- ---- commands of one line

-- valid P
unfoldable pub valid_part : Part Word
valid_part = seen_as word.Valid (one_line (named_form (codes "valid")))

-- cert C
unfoldable pub cert_part : Part Word
cert_part = seen_as word.Cert (one_line (named_form (codes "cert")))

-- primitive C
unfoldable pub primitive_part : Part Word
primitive_part = seen_as word.Primitive (one_line (named_form (codes "primitive")))

-- json M
unfoldable pub json_part : Part Word
json_part = seen_as word.Json (one_line (named_form (codes "json")))

-- what its lines tell, as the command period
abbrev pub to_period : List ℕ × (ℤ × ℤ) → Word
to_period x = word.Period x.0 x.1.0 x.1.1

-- period P x y
unfoldable pub period_part : Part Word
period_part = seen_as to_period (one_line (vector_form (codes "period")))

-- what its lines tell, as the command bound
abbrev pub to_bound : List ℕ × (ℤ × ℤ) → Word
to_bound x = word.Bound x.0 x.1.0 x.1.1

-- bound C x y
unfoldable pub bound_part : Part Word
bound_part = seen_as to_bound (one_line (vector_form (codes "bound")))

-- what its lines tell, as the command dominoes
abbrev pub to_dominoes : List ℕ × (Axis × (ℕ × ℕ)) → Word
to_dominoes x = word.Dominoes x.0 x.1.0 x.1.1.0 x.1.1.1

-- dominoes S A r B
unfoldable pub dominoes_part : Part Word
dominoes_part = seen_as to_dominoes (one_line (windows_form (codes "dominoes")))

-- what its lines tell, as the command markers
abbrev pub to_markers : List ℕ × (Axis × (ℕ × ℕ)) → Word
to_markers x = word.Markers x.0 x.1.0 x.1.1.0 x.1.1.1

-- markers S A r B
unfoldable pub markers_part : Part Word
markers_part = seen_as to_markers (one_line (windows_form (codes "markers")))

-- what its lines tell, as the command surround
abbrev pub to_surround : List ℕ × (Axis × (ℕ × (ℕ × (ℕ × ℕ)))) → Word
to_surround x = word.Surround x.0 x.1.0 x.1.1.0 x.1.1.1.0 x.1.1.1.1.0 x.1.1.1.1.1

-- surround S A a b r B
unfoldable pub surround_part : Part Word
surround_part = seen_as to_surround (one_line surround_form)

-- what its lines tell, as the command fuse
abbrev pub to_fuse : List ℕ × (Axis × (ℕ × ℕ)) → Word
to_fuse x = word.Fuse x.0 x.1.0 x.1.1.0 x.1.1.1

-- fuse S A u v
unfoldable pub fuse_part : Part Word
fuse_part = seen_as to_fuse (one_line fuse_form)

-- what its lines tell, as the command same
abbrev pub to_same : List ℕ × List ℕ → Word
to_same x = word.Same x.0 x.1

-- same S T
unfoldable pub same_part : Part Word
same_part = seen_as to_same (one_line (names_form (codes "same")))

-- what its lines tell, as the command derive
abbrev pub to_derive : List ℕ × (List ℕ × (Axis × (Side × (ℕ × (ℕ × ℕ))))) → Word
to_derive x = word.Derive x.0 x.1.0 x.1.1.0 x.1.1.1.0 x.1.1.1.1.0 x.1.1.1.1.1.0 x.1.1.1.1.1.1

-- derive N F A W r j B
unfoldable pub derive_part : Part Word
derive_part = seen_as to_derive (one_line derive_form)

-- what its lines tell, as the command search
abbrev pub to_search : List ℕ × (List ℕ × (List Axis × (Side × (ℕ × (ℕ × ℕ))))) → Word
to_search x = word.Search x.0 x.1.0 x.1.1.0 x.1.1.1.0 x.1.1.1.1.0 x.1.1.1.1.1.0 x.1.1.1.1.1.1

-- search N S X W r L B
unfoldable pub search_part : Part Word
search_part = seen_as to_search (one_line search_form)

-- what its lines tell, as the command upgrade
abbrev pub to_upgrade : List ℕ × List ℕ → Word
to_upgrade x = word.Upgrade x.0 x.1

-- upgrade N C
unfoldable pub upgrade_part : Part Word
upgrade_part = seen_as to_upgrade (one_line (names_form (codes "upgrade")))

-- what its lines tell, as the command lighten
abbrev pub to_lighten : List ℕ × (List ℕ × ℕ) → Word
to_lighten x = word.Lighten x.0 x.1.0 x.1.1

-- lighten N C B
unfoldable pub lighten_part : Part Word
lighten_part = seen_as to_lighten (one_line lighten_form)

-- what its lines tell, as the command expand
abbrev pub to_expand : List ℕ × (List ℕ × (ℕ × ℕ)) → Word
to_expand x = word.Expand x.0 x.1.0 x.1.1.0 x.1.1.1

-- expand N C w h
unfoldable pub expand_part : Part Word
expand_part = seen_as to_expand (one_line expand_form)

-- what its lines tell, as the command image
abbrev pub to_image : List ℕ × ℕ → Word
to_image x = word.Image x.0 x.1

-- image C t
unfoldable pub image_part : Part Word
image_part = seen_as to_image (one_line image_form)

-- what its lines tell, as the command desub
abbrev pub to_desub : List ℕ × (List ℕ × (ℕ × List ℕ)) → Word
to_desub x = word.Desub x.0 x.1.0 x.1.1.0 x.1.1.1

-- desub N C k P
unfoldable pub desub_part : Part Word
desub_part = seen_as to_desub (one_line desub_form)

-- what its lines tell, as the command seeds
abbrev pub to_seeds : List ℕ × ℕ → Word
to_seeds x = word.Seeds x.0 x.1

-- seeds C q
unfoldable pub seeds_part : Part Word
seeds_part = seen_as to_seeds (one_line seeds_form)

-- what its lines tell, as the command census
abbrev pub to_census : List ℕ × (ℕ × ℕ) → Word
to_census x = word.Census x.0 x.1.0 x.1.1

-- census C k t
unfoldable pub census_part : Part Word
census_part = seen_as to_census (one_line census_form)

-- what its lines tell, as the command draw
abbrev pub to_draw : List ℕ × Style → Word
to_draw x = word.Draw x.0 x.1

-- draw P numbers, or draw P boxes
unfoldable pub draw_part : Part Word
draw_part = seen_as to_draw (one_line draw_form)

-- what its lines tell, as the command code
abbrev pub to_code : List ℕ × (List ℕ × (Fraction × (Fraction × (ℕ × ℕ)))) → Word
to_code x = word.Code x.0 x.1.0 x.1.1.0 x.1.1.1.0 x.1.1.1.1.0 x.1.1.1.1.1

-- code N T Gx Gy w h
unfoldable pub code_part : Part Word
code_part = seen_as to_code (one_line code_form)

-- what its lines tell, as the command induce
abbrev pub to_induce : List ℕ × (List ℕ × Axis) → Word
to_induce x = word.Induce x.0 x.1.0 x.1.1

-- induce N T A
unfoldable pub induce_part : Part Word
induce_part = seen_as to_induce (one_line induce_form)

-- ---- any command, by the first word of its first line

-- the kind of the command that this word begins
abbrev pub kind_of : List ℕ → Option Kind
kind_of w =
    if bytes_eq w (codes "tiles") then Some Tiles
    else if bytes_eq w (codes "pattern") then Some Pattern
    else if bytes_eq w (codes "valid") then Some Valid
    else if bytes_eq w (codes "period") then Some Period
    else if bytes_eq w (codes "dominoes") then Some Dominoes
    else if bytes_eq w (codes "surround") then Some Surround
    else if bytes_eq w (codes "markers") then Some Markers
    else if bytes_eq w (codes "fuse") then Some Fuse
    else if bytes_eq w (codes "same") then Some Same
    else if bytes_eq w (codes "derive") then Some Derive
    else if bytes_eq w (codes "search") then Some Search
    else if bytes_eq w (codes "cert") then Some Cert
    else if bytes_eq w (codes "check") then Some Check
    else if bytes_eq w (codes "upgrade") then Some Upgrade
    else if bytes_eq w (codes "lighten") then Some Lighten
    else if bytes_eq w (codes "expand") then Some Expand
    else if bytes_eq w (codes "image") then Some Image
    else if bytes_eq w (codes "desub") then Some Desub
    else if bytes_eq w (codes "bound") then Some Bound
    else if bytes_eq w (codes "primitive") then Some Primitive
    else if bytes_eq w (codes "seeds") then Some Seeds
    else if bytes_eq w (codes "census") then Some Census
    else if bytes_eq w (codes "draw") then Some Draw
    else if bytes_eq w (codes "json") then Some Json
    else if bytes_eq w (codes "torus") then Some Torus
    else if bytes_eq w (codes "code") then Some Code
    else if bytes_eq w (codes "induce") then Some Induce
    else None

-- the kind of the command of these tokens, by the first one
abbrev pub kind_in : List (List ℕ) → Option Kind
kind_in [] = None
kind_in (t ∷ ts) = kind_of t

-- the kind of the command that the next line begins
abbrev pub kind_at : List Line → Option Kind
kind_at [] = None
kind_at (l ∷ ls) = if l.ended then kind_in (tokens l.text) else None

-- a command of this kind, with the lines that it says follow; a line of no kind is malformed
abbrev pub part_of : Option Kind → Part Word
part_of None p = Err (syntax_at p.0)
part_of (Some Tiles) p = tiles_part p
part_of (Some Pattern) p = pattern_part p
part_of (Some Valid) p = valid_part p
part_of (Some Period) p = period_part p
part_of (Some Dominoes) p = dominoes_part p
part_of (Some Surround) p = surround_part p
part_of (Some Markers) p = markers_part p
part_of (Some Fuse) p = fuse_part p
part_of (Some Same) p = same_part p
part_of (Some Derive) p = derive_part p
part_of (Some Search) p = search_part p
part_of (Some Cert) p = cert_part p
part_of (Some Check) p = check_part p
part_of (Some Upgrade) p = upgrade_part p
part_of (Some Lighten) p = lighten_part p
part_of (Some Expand) p = expand_part p
part_of (Some Image) p = image_part p
part_of (Some Desub) p = desub_part p
part_of (Some Bound) p = bound_part p
part_of (Some Primitive) p = primitive_part p
part_of (Some Seeds) p = seeds_part p
part_of (Some Census) p = census_part p
part_of (Some Draw) p = draw_part p
part_of (Some Json) p = json_part p
part_of (Some Torus) p = torus_part p
part_of (Some Code) p = code_part p
part_of (Some Induce) p = induce_part p
