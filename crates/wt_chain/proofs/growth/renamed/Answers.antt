use Rattle.std.proofs.Common.{arith, ◌∙◌, ap, false}
use Rattle.std.proofs.lemmas.List.FromFn.{fill_by_all, get_or-map-range_with_len}
use Rattle.wt_chain.specs.Growth.{origin}
use Rattle.wt_chain.specs.Tables.{entry, origin_entry, renamed_table}
use Rattle.wt_chain.proofs.growth.renamed.Goals as goal

pub returns : goal.returns
unfolding renamed_table
returns c =
    let renaming = c.args.renaming.now in
    let rows = c.args.rows.now in
    fill_by_all (origin_entry renaming rows) c.loop-t.next 256 false c.loop-t.invariant.whole
    (λ k lt. c.loop-t.invariant.filled k (omega arith) ∙ ap (entry rows) (rw c.requires (get_or-map-range_with_len (origin renaming) 0 256 k k 0 lt (omega arith))))
