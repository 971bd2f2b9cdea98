use Rattle.std.proofs.Common.{arith, ◌≡◌, ◌+◌, ◌-◌, ◌∙◌, ap, ℕ, slice_get, Some}
use Rattle.wt_expand.specs.Levels.{Level}
use Rattle.wt_expand.specs.Advances.{laid_by}
use Rattle.wt_expand.specs.Counters.{counter_levels, digits_at}
use Rattle.wt_expand.specs.Splits.{cells_kept}
use Rattle.wt_expand.proofs.Splits.{split_more}
use Rattle.wt_expand.proofs.advance.lay_below.Goals as goal

pub loop-i-preserved : goal.loop-i-preserved
loop-i-preserved c =
    let counter = c.args.counter.now in
    let levels = counter_levels counter in
    let k = c.loop-i.i - 1 in
    let laid : (level : Level) → slice_get levels k ≡ Some level
    → digits_at counter k c.follow_at.new.space ≡ laid_by c.args.direction (cells_kept c.args.low c.args.w k) counter.renaming.now level (digits_at counter (k + 1) c.loop-i.space) = λ level at.
    c.follow_at.ensures.laid level at ∙ ap (λ (cells : ℕ). laid_by c.args.direction cells counter.renaming.now level (digits_at counter (k + 1) c.loop-i.space)) c.cells_kept.ensures.value in
    record {
      inside = omega (arith, c.loop-i.invariant.inside);
      laid = split_more c.args.direction c.args.low c.args.w counter.block counter.renaming.now levels c.args.j c.loop-i.i k c.loop-i.space c.follow_at.new.space
          (digits_at counter c.args.j c.args.space.now) (omega (arith, c.loop-i-test.true)) c.loop-i.invariant.inside c.requires.level laid c.loop-i.invariant.laid;
      size = c.follow_at.ensures.size ∙ c.loop-i.invariant.size;
    }
