use Rattle.std.proofs.Common.{◌∙◌, ◌≤◌, length, sym}
use Rattle.wt_refute.specs.Entries.{entry_before}
use Rattle.wt_step.proofs.Passed.{climbs_at, stops_at, ends}
use Rattle.wt_step.proofs.walk.first_refuted.Goals as goal

pub loop-place-preserved : goal.loop-place-preserved
loop-place-preserved c =
    climbs_at (entry_before c.args.radius c.args.axis 0 0) c.args.raw.now.refuted c.as_slice-entries.result.now c.loop-place.place c.index-entries-place.result c.as_slice-entries.ensures c.loop-place.invariant c.loop-place-test.true c.index-entries-place.is (sym c.entry_before.ensures ∙ c.if-entry_before.true)

pub returns-else-entry_before : goal.returns-else-entry_before
returns-else-entry_before c =
    stops_at (entry_before c.args.radius c.args.axis 0 0) c.args.raw.now.refuted c.as_slice-entries.result.now c.loop-place.place c.index-entries-place.result c.as_slice-entries.ensures c.loop-place.invariant c.loop-place-test.true c.index-entries-place.is (sym c.entry_before.ensures ∙ c.if-entry_before.false)

pub returns-after-loop-place : goal.returns-after-loop-place
returns-after-loop-place c =
    let past : length c.args.raw.now.refuted ≤ c.loop-place.place = rw c.as_slice-entries.ensures at c.loop-place-test.false in
    ends (entry_before c.args.radius c.args.axis 0 0) c.args.raw.now.refuted c.loop-place.place c.loop-place.invariant past
