use Rattle.std.proofs.Common.{◌∙◌, sym, ap}
use Rattle.std.proofs.lemmas.Bool.{le-ltb}
use Rattle.wt_refute.specs.Entries.{is_entry}
use Rattle.wt_step.proofs.Passed.{refuted_here, refuted_past}
use Rattle.wt_step.proofs.walk.is_refuted_at.Goals as goal

pub returns-then-place-entries-clause-value : goal.returns-then-place-entries-clause-value
returns-then-place-entries-clause-value c =
    c.is_entry.ensures
    ∙ (ap (is_entry c.args.radius c.args.axis c.args.a c.args.b) c.index-entries-place.is
    ∙ sym (refuted_here c.args.raw.now c.requires.shaped c.args.axis c.args.a c.args.b c.args.radius c.as_slice-entries.result.now c.args.place c.index-entries-place.result c.as_slice-entries.ensures c.requires.placed c.if-place-entries.true))

pub returns-else-place-entries-clause-value : goal.returns-else-place-entries-clause-value
returns-else-place-entries-clause-value c =
    le-ltb _ _ c.if-place-entries.false ∙ sym (refuted_past c.args.raw.now c.requires.shaped c.args.axis c.args.a c.args.b c.args.radius c.as_slice-entries.result.now c.args.place c.as_slice-entries.ensures c.requires.placed c.if-place-entries.false)
