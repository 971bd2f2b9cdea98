-- What is known of each command that a script gives.
use Rattle.std.specs.Prelude.{◌^◌, ◌<◌, ◌≤◌, unsigned_abs, length, List}
use Rattle.wt_line.specs.declared.limits.TheConstants.{MAX_RADIUS}
use Rattle.wt_pattern.specs.Plain.{IsPlain}
use Rattle.wt_text.specs.Spellings.{AllFit}
use Rattle.wt_tile.specs.Sets.{set_fault}
use Rattle.wt_script.specs.declared.limits.TheConstants.{MAX_AXES, MAX_LEVELS, MAX_MADE, MAX_POWER, MAX_TURNS}
use Rattle.wt_script.specs.declared.word.Word.{Word}
use Rattle.wt_script.specs.declared.word.Word.TheVariants.{Tiles, Pattern, Valid, Period, Dominoes, Surround, Markers, Fuse, Same, Derive, Search, Cert, Check, Upgrade, Lighten, Expand, Image, Desub, Bound, Primitive, Seeds, Census, Draw, Json, Torus, Code, Induce}
use Rattle.wt_script.specs.declared.word.Command.{Command}

-- the limits and forms of a command's words and lines that its types don't tell
abbrev pub Fits : Word → Type 0
Fits (Tiles name list) = IsPlain (set_fault list)
Fits (Pattern name set cells) = Unit {0}
Fits (Valid pattern) = Unit {0}
Fits (Period pattern dx dy) = (unsigned_abs dx < 2 ^ 63) × (unsigned_abs dy < 2 ^ 63)
Fits (Dominoes set axis radius budget) = radius ≤ MAX_RADIUS
Fits (Surround set axis a b radius budget) = radius ≤ MAX_RADIUS
Fits (Markers set axis radius budget) = radius ≤ MAX_RADIUS
Fits (Fuse set axis u v) = Unit {0}
Fits (Same from to) = Unit {0}
Fits (Derive name base axis side radius class budget) = radius ≤ MAX_RADIUS
Fits (Search name set axes side radius levels budget) = (1 ≤ length axes) × (length axes ≤ MAX_AXES) × (radius ≤ MAX_RADIUS) × (1 ≤ levels) × (levels ≤ MAX_LEVELS)
Fits (Cert chain) = Unit {0}
Fits (Check name lines) = Unit {0}
Fits (Upgrade name chain) = Unit {0}
Fits (Lighten name chain budget) = Unit {0}
Fits (Expand name chain width height) = (1 ≤ width) × (width ≤ MAX_MADE) × (1 ≤ height) × (height ≤ MAX_MADE)
Fits (Image chain tile) = Unit {0}
Fits (Desub name chain step pattern) = Unit {0}
Fits (Bound chain dx dy) = (unsigned_abs dx < 2 ^ 63) × (unsigned_abs dy < 2 ^ 63)
Fits (Primitive chain) = Unit {0}
Fits (Seeds chain power) = (1 ≤ power) × (power ≤ MAX_POWER)
Fits (Census chain turns tile) = turns ≤ MAX_TURNS
Fits (Draw pattern style) = Unit {0}
Fits (Json value) = Unit {0}
Fits (Torus name width height move1 move2 regions) = Unit {0}
Fits (Code name torus x y width height) = (1 ≤ width) × (width ≤ MAX_MADE) × (1 ≤ height) × (height ≤ MAX_MADE)
Fits (Induce name torus axis) = Unit {0}

-- all commands of a script do so
abbrev pub AllFitting : List Command → Type 0
AllFitting cs = AllFit (λ c. Fits c.word) cs
