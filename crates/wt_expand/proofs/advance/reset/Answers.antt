use Rattle.std.proofs.Common.{ap, ◌∙◌, ℕ}
use Rattle.wt_expand.specs.Counters.{counter_levels, digits_at}
use Rattle.wt_expand.proofs.Splits.{split_begun}
use Rattle.wt_expand.proofs.advance.reset.Goals as goal

pub returns-clause-fits : goal.returns-clause-fits
returns-clause-fits c =
    let counter = c.args.counter.now in
    (split_begun c.args.w c.requires.some counter.renaming.now c.count.result (counter_levels counter) (digits_at counter 0 c.lay_below.new.space) (digits_at counter c.count.result c.set_top.new.space)
    c.count.ensures.value (ap (λ (n : ℕ). digits_at counter n c.set_top.new.space) c.count.ensures.value ∙ c.set_top.ensures.laid) c.lay_below.ensures.laid).0

pub returns-clause-bottom : goal.returns-clause-bottom
returns-clause-bottom c =
    let counter = c.args.counter.now in
    (split_begun c.args.w c.requires.some counter.renaming.now c.count.result (counter_levels counter) (digits_at counter 0 c.lay_below.new.space) (digits_at counter c.count.result c.set_top.new.space)
    c.count.ensures.value (ap (λ (n : ℕ). digits_at counter n c.set_top.new.space) c.count.ensures.value ∙ c.set_top.ensures.laid) c.lay_below.ensures.laid).1
