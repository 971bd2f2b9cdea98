use Rattle.std.proofs.Common.{◌∙◌, ◌≤◌, length, sym}
use Rattle.std.proofs.lemmas.Bool.{OnFalse_from}
use Rattle.wt_refute.specs.Entries.{entry_before}
use Rattle.wt_step.proofs.Passed.{stops_at, ends}
use Rattle.wt_step.proofs.walk.is_passed.Goals as goal

pub returns-then-place-entries : goal.returns-then-place-entries
returns-then-place-entries c =
    OnFalse_from c.entry_before.result _ (λ e. stops_at (entry_before c.args.radius c.args.axis c.args.a c.args.b) c.args.raw.now.refuted c.as_slice-entries.result.now c.args.place c.index-entries-place.result c.as_slice-entries.ensures c.requires c.if-place-entries.true c.index-entries-place.is (sym c.entry_before.ensures ∙ e))

pub returns-else-place-entries : goal.returns-else-place-entries
returns-else-place-entries c =
    let past : length c.args.raw.now.refuted ≤ c.args.place = rw c.as_slice-entries.ensures at c.if-place-entries.false in
    OnFalse_from _ _ (λ e. ends (entry_before c.args.radius c.args.axis c.args.a c.args.b) c.args.raw.now.refuted c.args.place c.requires past)
