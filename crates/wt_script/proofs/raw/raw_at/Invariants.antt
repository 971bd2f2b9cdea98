use Rattle.std.proofs.Common.{◌≡◌}
use Rattle.wt_text.specs.Lines.{lines}
use Rattle.wt_script.specs.Raw.{raw_from}
use Rattle.wt_script.proofs.Raws.{led}
use Rattle.wt_script.proofs.raw.raw_at.Given as goal

abbrev pub invariant-loop-left : goal.invariant-loop-left
invariant-loop-left l = record {
  so_far : led l.bytes.items (raw_from l.left l.place.number (lines l.place.bytes.now)) ≡ raw_from l.count l.fn.place.number (lines l.fn.place.bytes.now);
}

abbrev pub decreases-loop-left : goal.decreases-loop-left
decreases-loop-left l = l.left
