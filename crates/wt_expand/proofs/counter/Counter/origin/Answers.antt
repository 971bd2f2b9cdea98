use Rattle.std.proofs.Common.{arith, sym, ◌∙◌, ap, ℕ, List, get_or}
use Rattle.std.proofs.lemmas.List.FromFn.{get_or-map-range_with_len}
use Rattle.wt_chain.specs.Growth.{origin}
use Rattle.wt_expand.proofs.Named.{none_beyond}
use Rattle.wt_expand.proofs.counter.Counter.origin.Goals as goal

pub returns-then-t-lt256 : goal.returns-then-t-lt256
returns-then-t-lt256 c =
    let counter = c.args.self.now in
    ap (λ (table : List ℕ). get_or table c.from-t.result 0) counter.names
    ∙ (get_or-map-range_with_len (origin counter.renaming.now) 0 256 c.from-t.result c.from-t.result 0 c.if-t-lt256.true (omega arith)
    ∙ ap (origin counter.renaming.now) c.from-t.ensures)

pub returns-else-t-lt256 : goal.returns-else-t-lt256
returns-else-t-lt256 c =
    let counter = c.args.self.now in
    sym (none_beyond 256 0 counter.renaming.now c.args.tile counter.small (omega (arith, c.if-t-lt256.false, c.from-t.ensures)))
