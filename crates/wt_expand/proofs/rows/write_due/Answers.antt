use Rattle.std.proofs.Common.{◌∙◌, ap, ℕ, take}
use Rattle.std.specs.List.{flat_map}
use Rattle.wt_expand.specs.Counters.{counter_levels, digits_at, row_at_level}
use Rattle.wt_expand.specs.Words.{words}
use Rattle.wt_expand.proofs.Due.{due_laid}
use Rattle.wt_expand.proofs.rows.write_due.Goals as goal

pub returns : goal.returns
returns c =
    let counter = c.args.counter.now in
    let all = flat_map (words counter.renaming.now (take c.args.low (counter_levels counter)) (digits_at counter 0 c.args.space.now)) (row_at_level counter c.args.low c.args.space.now) in
    due_laid c.args.w c.lay_by_words.result counter.block c.args.low counter.renaming.now (counter_levels counter) c.args.space.now c.lay_by_words.new.row
    c.requires.within (c.lay_by_words.ensures.room ∙ c.requires.row) c.requires.full (c.lay_by_words.ensures.laid ∙ ap (λ (n : ℕ). take n all) c.requires.row)
