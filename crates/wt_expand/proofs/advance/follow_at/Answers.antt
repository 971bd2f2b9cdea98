use Rattle.std.proofs.Common.{◌≡◌, ◌∙◌, ap, ℕ, ◌+◌, ◌*◌, List, drop, slice_get}
use Rattle.wt_expand.specs.Levels.{Level}
use Rattle.wt_expand.specs.Advances.{follows}
use Rattle.wt_expand.specs.Blocks.{digit_of}
use Rattle.wt_expand.specs.Counters.{counter_levels, level_of}
use Rattle.wt_expand.proofs.Places.{by_over, same_some}
use Rattle.wt_expand.proofs.advance.follow_at.Goals as goal

pub returns-clause-laid : goal.returns-clause-laid
returns-clause-laid c = λ level e.
    let counter = c.args.counter.now in
    let same : level_of c.level-level.result ≡ level = same_some (level_of c.level-level.result) level (slice_get (counter_levels counter) c.args.i) c.level-level.ensures e in
    let upper = c.follows-upper.ensures
    ∙ (ap (λ (l : Level). follows c.args.direction counter.renaming.now l c.row_of.result.now) same
    ∙ ap (follows c.args.direction counter.renaming.now level) (c.row_of.ensures ∙ ap (λ (xs : List ℕ). (digit_of xs).row) c.rest_at.ensures)) in
    c.lay_at.ensures.laid level e
    ∙ by_over c.args.direction c.args.w counter.renaming.now level c.follows-upper.result counter.block (drop (c.args.i + 1) (counter_levels counter)) (drop ((c.args.i + 1) * counter.block) c.args.space.now) upper
