use Rattle.std.proofs.Common.{rules, ◌+◌}
use Rattle.wt_expand.specs.WordTables.{words_below}
use Rattle.wt_expand.proofs.Pushed.{pushed}
use Rattle.wt_expand.proofs.words.push_word.Goals as goal

pub returns-clause-table : goal.returns-clause-table
returns-clause-table c =
    let counter = c.args.counter.now in
    pushed c.args.table.now c.put_image-end.new.row c.put_image-end.result (words_below counter (c.args.k + 1) c.args.space.now) _
    c.requires.table c.requires.image c.requires.short c.requires.place c.requires.inside (search rules) (search rules) (search rules)
    c.put_image-end.ensures.put c.put_image-end.ensures.within c.put_image-end.ensures.room
