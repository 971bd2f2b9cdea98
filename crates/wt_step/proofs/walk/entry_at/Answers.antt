use Rattle.std.proofs.Common.{rules, ◌∙◌, ◌<◌, Some, length, sym, ap}
use Rattle.wt_step.proofs.Passed.{refuted_within, refuted_found}
use Rattle.wt_step.proofs.walk.entry_at.Goals as goal

pub bounds-as_slice-place : goal.bounds-as_slice-place
bounds-as_slice-place c =
    refuted_within c.args.raw.now c.requires.shaped c.args.axis c.args.a c.args.b c.args.radius c.as_slice.result.now c.args.place c.as_slice.ensures c.requires.placed (sym c.is_refuted_at.ensures.value ∙ c.if-is_refuted_at.true)

pub offset_bounds-as_slice-place : goal.offset_bounds-as_slice-place
offset_bounds-as_slice-place c = let lt : c.args.place < length c.as_slice.result.now = bounds-as_slice-place c in search rules

pub returns-then-is_refuted_at : goal.returns-then-is_refuted_at
returns-then-is_refuted_at c =
    let found = refuted_found c.args.raw.now c.requires.shaped c.args.axis c.args.a c.args.b c.args.radius c.as_slice.result.now c.args.place c.index-as_slice-place.result c.as_slice.ensures c.requires.placed (sym c.is_refuted_at.ensures.value ∙ c.if-is_refuted_at.true) in
    ap Some c.index-as_slice-place.is ∙ sym found
