use Rattle.std.proofs.Common.{◌≡◌, ◌+◌, drop}
use Rattle.wt_tile.specs.Sets.{is_among}
use Rattle.wt_names.specs.Numbering.{place}
use Rattle.wt_pattern.proofs.rows.place_of.Given as goal

abbrev pub invariant-loop-i : goal.invariant-loop-i
invariant-loop-i l = record {
  among : is_among l.name (drop l.i l.names) ≡ is_among l.name l.names;
  place : l.i + place l.name (drop l.i l.names) ≡ place l.name l.names;
}
