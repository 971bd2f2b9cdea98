use Rattle.std.proofs.Common.{◌∙◌, sym}
use Rattle.wt_step.proofs.Passed.{refuted_hit, refuted_miss}
use Rattle.wt_step.proofs.walk.refuted_after.Goals as goal

pub returns-then-is_refuted_at : goal.returns-then-is_refuted_at
returns-then-is_refuted_at c =
    refuted_hit c.args.raw.now c.requires.shaped c.args.axis c.args.a c.args.b c.args.radius c.args.place c.requires.placed (sym c.is_refuted_at.ensures.value ∙ c.if-is_refuted_at.true)

pub returns-else-is_refuted_at : goal.returns-else-is_refuted_at
returns-else-is_refuted_at c =
    refuted_miss c.args.raw.now c.requires.shaped c.args.axis c.args.a c.args.b c.args.radius c.args.place c.requires.placed (sym c.is_refuted_at.ensures.value ∙ c.if-is_refuted_at.false)
