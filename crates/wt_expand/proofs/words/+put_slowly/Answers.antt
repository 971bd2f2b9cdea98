use Rattle.std.proofs.Common.{arith, ◌-◌, ◌++◌, ℕ, List, length, take, sym, ◌∙◌, ap}
use Rattle.std.proofs.lemmas.List.{append-nil}
use Rattle.wt_expand.specs.Blocks.{digit_of}
use Rattle.wt_expand.specs.Counters.{counter_levels, digits_at, level_of}
use Rattle.wt_expand.specs.WordTables.{words_below}
use Rattle.wt_expand.proofs.Places.{from_bottom}
use Rattle.wt_expand.proofs.Copied.{both_words}
use Rattle.wt_expand.proofs.Joined.{of_image}
use Rattle.wt_expand.proofs.words.+put_slowly.Goals as goal

pub returns-in-One-clause-put : goal.returns-in-One-clause-put
returns-in-One-clause-put t c =
    let counter = c.args.counter.now in
    let space = c.args.space.now in
    let levels = counter_levels counter in
    let row = c.args.row.now in
    let i = c.args.k - 1 in
    let bit = c.is_upper-upper.ensures ∙ ap (λ (xs : List ℕ). (digit_of xs).is_upper) c.block_at.ensures.place in
    let same = of_image counter.renaming.now counter.block i c.args.k levels space (digits_at counter 0 space) (level_of c.level-level.result) c.is_upper-upper.result c.args.tile _ (omega (arith, c.if-k-eq0.false))
    c.level-level.ensures (from_bottom counter.block levels space) bit c.in-One.ensures in
    c.put_slowly.ensures.put ∙ ap (λ (xs : List ℕ). take (length row) (take c.args.len row ++ xs)) (sym (same ∙ append-nil (words_below counter i space c.in-One.a)))

pub returns-in-Two-clause-put : goal.returns-in-Two-clause-put
returns-in-Two-clause-put t c =
    let counter = c.args.counter.now in
    let space = c.args.space.now in
    let levels = counter_levels counter in
    let row = c.args.row.now in
    let i = c.args.k - 1 in
    let first = words_below counter i space c.in-Two.a in
    let second = words_below counter i space c.in-Two.b in
    let bit = c.is_upper-upper.ensures ∙ ap (λ (xs : List ℕ). (digit_of xs).is_upper) c.block_at.ensures.place in
    let same = of_image counter.renaming.now counter.block i c.args.k levels space (digits_at counter 0 space) (level_of c.level-level.result) c.is_upper-upper.result c.args.tile _ (omega (arith, c.if-k-eq0.false))
    c.level-level.ensures (from_bottom counter.block levels space) bit c.in-Two.ensures in
    both_words row c.put_slowly-next.new.row c.put_slowly-in-Two.new.row first second c.args.len c.put_slowly-next.result c.put_slowly-in-Two.result
    c.put_slowly-next.ensures.put c.put_slowly-next.ensures.room c.put_slowly-in-Two.ensures.put
    ∙ ap (λ (xs : List ℕ). take (length row) (take c.args.len row ++ xs)) (sym (same ∙ ap (λ (xs : List ℕ). first ++ xs) (append-nil second)))
