use Rattle.std.proofs.Common.{length}
use Rattle.wt_text.specs.Lines.{lines}
use Rattle.wt_script.specs.Script.{script}
use Rattle.wt_script.specs.Fits.{AllFitting}
use Rattle.wt_script.proofs.Pieces.{SoFar}
use Rattle.wt_script.proofs.script.parse_script.Given as goal

abbrev pub invariant-loop-place : goal.invariant-loop-place
invariant-loop-place l = record {
  so_far : SoFar l.commands.items (l.place.number, lines l.place.bytes.now) (script l.bytes);
  fits : AllFitting l.commands.items;
}

abbrev pub decreases-loop-place : goal.decreases-loop-place
decreases-loop-place l = length (lines l.place.bytes.now)
