use Rattle.std.proofs.Common.{◌≡◌, true, sym, ◌∙◌}
use Rattle.std.proofs.lemmas.List.{append-nil}
use Rattle.wt_induce.specs.Induced.{some_clash}
use Rattle.wt_induce.proofs.Keeping.{dropped, dropped_fault}
use Rattle.wt_induce.proofs.backs.keep_pair.Goals as goal

pub returns-then-empty-clause-ok : goal.returns-then-empty-clause-ok
returns-then-empty-clause-ok c =
    let q = c.args.q.now in
    let e : some_clash c.args.front.now ≡ true = sym c.requires ∙ c.if-empty.true in
    let d = dropped c.args.front.now c.args.label q.label q.planes e in
    rw d (sym (append-nil c.args.kept.now.items))

pub returns-then-empty-clause-fault : goal.returns-then-empty-clause-fault
returns-then-empty-clause-fault c =
    let q = c.args.q.now in
    dropped_fault c.args.front.now c.args.label q.label q.planes _ c.in-Some.is (sym c.requires ∙ c.if-empty.true)
