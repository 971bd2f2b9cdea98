use Rattle.std.proofs.Common.{sym, ◌∙◌, ap, ℕ, List, length, take}
use Rattle.std.specs.List.{flat_map}
use Rattle.wt_expand.specs.Blocks.{digit_of}
use Rattle.wt_expand.specs.Counters.{row_at_level}
use Rattle.wt_expand.specs.WordTables.{words_below}
use Rattle.wt_expand.proofs.Worded.{one_each}
use Rattle.wt_expand.proofs.words.lay_by_words.Goals as goal

pub returns-then-low-eq0-clause-laid : goal.returns-then-low-eq0-clause-laid
returns-then-low-eq0-clause-laid c =
    let counter = c.args.counter.now in
    let space = c.args.space.now in
    let row = row_at_level counter c.args.low space in
    c.lay_same.ensures.laid
    ∙ ap (take (length c.args.row.now))
    (c.row_of-above.ensures ∙ ap (λ (xs : List ℕ). (digit_of xs).row) c.block_at.ensures.place
    ∙ sym (one_each row)
    ∙ ap (λ (n : ℕ). flat_map (words_below counter n space) row) (sym c.if-low-eq0.true))
