use Rattle.std.proofs.Common.{◌+◌, ℕ, List, refl, ◌∙◌, ap}
use Rattle.wt_morphism.specs.Images.{piece}
use Rattle.wt_expand.specs.Blocks.{digit_of}
use Rattle.wt_expand.specs.Counters.{counter_levels, digits_at, level_of}
use Rattle.wt_expand.specs.WordTables.{words_below}
use Rattle.wt_expand.proofs.Places.{from_bottom}
use Rattle.wt_expand.proofs.Joined.{of_image, joined_short}
use Rattle.wt_expand.proofs.words.set_words.Goals as goal

pub push_word-requires-clause-image : goal.push_word-requires-clause-image
push_word-requires-clause-image c =
    let counter = c.args.counter.now in
    let space = c.args.space.now in
    let levels = counter_levels counter in
    let k = c.args.k in
    let bit = c.is_upper-upper.ensures ∙ ap (λ (xs : List ℕ). (digit_of xs).is_upper) c.block_at.ensures.place in
    ap (words_below counter (k + 1) space) c.loop-t.invariant.count
    ∙ of_image counter.renaming.now counter.block k (k + 1) levels space (digits_at counter 0 space) (level_of c.level-level.result) c.is_upper-upper.result c.loop-t.t (piece c.image_laid-image.result) refl
    c.level-level.ensures (from_bottom counter.block levels space) bit c.image_laid-image.ensures

pub push_word-requires-clause-short : goal.push_word-requires-clause-short
push_word-requires-clause-short c =
    let counter = c.args.counter.now in
    let space = c.args.space.now in
    let levels = counter_levels counter in
    let k = c.args.k in
    let ss = digits_at counter 0 space in
    let bit = c.is_upper-upper.ensures ∙ ap (λ (xs : List ℕ). (digit_of xs).is_upper) c.block_at.ensures.place in
    joined_short counter.renaming.now levels (k + 1) 64 ss c.loop-t.t _
    (of_image counter.renaming.now counter.block k (k + 1) levels space ss (level_of c.level-level.result) c.is_upper-upper.result c.loop-t.t (piece c.image_laid-image.result) refl
    c.level-level.ensures (from_bottom counter.block levels space) bit c.image_laid-image.ensures)
    c.requires.short
