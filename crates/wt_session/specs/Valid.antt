-- What `valid P` answers.
use Rattle.std.specs.Prelude.{ℕ, List, ◌++◌, codes, Option, None, Some, Result, Ok, Err}
use Rattle.wt_grid.specs.Axes.{axis_number}
use Rattle.std.specs.Fmt.{decimal}
use Rattle.wt_grid.specs.Grid.{Grid}
use Rattle.wt_tile.specs.declared.tile.TileList.{TileList}
use Rattle.wt_pattern.specs.declared.fault.Fault.{Fault}
use Rattle.wt_pattern.specs.Validity.{first_fault}
use Rattle.wt_session.specs.Sheets.{Laid}
use Rattle.wt_session.specs.Names.{Names}
use Rattle.wt_session.specs.Replies.{Reply, says, refused, pattern_named}

-- neighbours that don't match: along which axis, and the column and row of the first of the two
abbrev pub clash_text : Fault → List ℕ
clash_text f = codes "fault axis " ++ (decimal (axis_number f.axis) ++ (codes " at " ++ (decimal f.x ++ (codes " " ++ (decimal f.y ++ codes "\n")))))

-- the first fault, or that there is none
abbrev pub validity_text : Option Fault → List ℕ
validity_text None = codes "valid\n"
validity_text (Some fault) = clash_text fault

-- a pattern over a set
abbrev pub valid_over : Option TileList → Grid → Reply
valid_over None p = refused (codes "refused no set\n")
valid_over (Some set) p = says (validity_text (first_fault set.tiles p))

-- the pattern, or why there is none
abbrev pub valid_of : Result Laid Reply → Reply
valid_of (Err reply) = reply
valid_of (Ok laid) = valid_over laid.over laid.pattern

-- the reply of `valid`: the first neighbours that don't match, or that all do
abbrev pub valid_reply : Names → List ℕ → Reply
valid_reply names p = valid_of (pattern_named names p)
