use Rattle.std.proofs.Common.{sym, ◌∙◌, ap, ℕ, ◌*◌, List, take}
use Rattle.std.proofs.lemmas.List.{take_at}
use Rattle.wt_expand.specs.LaidRows.{has_two}
use Rattle.wt_expand.specs.Blocks.{digit_of}
use Rattle.wt_expand.specs.Counters.{counter_levels, level_of}
use Rattle.wt_expand.proofs.Places.{laid_at, behind_front}
use Rattle.wt_expand.proofs.advance.lay_at.Goals as goal

pub lay_first-requires-clause-inside : goal.lay_first-requires-clause-inside
lay_first-requires-clause-inside c = λ up.
    let counter = c.args.counter.now in
    let place = behind_front c.args.i counter.block c.split_at_mut-rest.result.0.now c.split_at_mut-rest.result.1.now c.args.space.now (c.split_at_mut-rest.ensures.front_len ∙ c.place.ensures) c.split_at_mut-rest.ensures.value in
    ap (λ (xs : List ℕ). has_two counter.renaming.now (level_of c.level-level.result) (digit_of xs).row) place ∙ c.requires.inside up (level_of c.level-level.result) c.level-level.ensures

pub returns-clause-laid : goal.returns-clause-laid
returns-clause-laid c = λ level e.
    let counter = c.args.counter.now in
    laid_at c.args.w counter.block c.args.i counter.renaming.now (counter_levels counter) level (level_of c.level-level.result) c.args.upper
    c.split_at_mut-rest.result.0.now c.split_at_mut-rest.result.1.now c.lay_first.new.space c.args.space.now
    c.level-level.ensures e (c.split_at_mut-rest.ensures.front_len ∙ c.place.ensures) c.split_at_mut-rest.ensures.value c.lay_first.ensures.laid c.lay_first.ensures.above

pub returns-clause-below : goal.returns-clause-below
returns-clause-below c =
    let len = c.split_at_mut-rest.ensures.front_len ∙ c.place.ensures in
    let n = c.args.i * c.args.counter.now.block in
    take_at c.split_at_mut-rest.result.0.now c.lay_first.new.space n len
    ∙ sym (ap (take n) c.split_at_mut-rest.ensures.value ∙ take_at c.split_at_mut-rest.result.0.now c.split_at_mut-rest.result.1.now n len)
