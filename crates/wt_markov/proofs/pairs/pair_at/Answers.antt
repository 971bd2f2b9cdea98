use Rattle.std.proofs.Common.{◌≡◌, Bool, Option, Some, None, sym, subst}
use Rattle.std.specs.Prelude.{MatchResult}
use Rattle.wt_markov.specs.Faults.{pair_fault_at}
use Rattle.wt_markov.specs.declared.fault.MarkovFault.{MarkovFault}
use Rattle.wt_markov.proofs.Counted.{pair_is}
use Rattle.wt_markov.proofs.pairs.pair_at.Goals as goal

pub returns : goal.returns
returns c =
    let p = c.args.p.now in
    let i = c.args.i in
    let j = c.args.j in
    let w = pair_is c.args.tiles.now c.args.axis p i j c.region-first.result.now c.region-second.result.now (sym c.region-first.ensures) (sym c.region-second.ensures)
    c.args.turns.now c.requires.turns c.requires.fit
    c.moved_fit.result c.can_follow-follows.result c.is_match-matched.result c.moved_fit.ensures c.if-not-moved_fit.false c.can_follow-follows.ensures c.is_match-matched.ensures in
    subst (λ (f : Bool). MatchResult c.answer.result (λ x. (pair_fault_at c.args.tiles.now c.args.axis p i j ≡ None) × (x ≡ f)) (λ e. pair_fault_at c.args.tiles.now c.args.axis p i j ≡ Some e)) w.1
    (subst (λ (o : Option MarkovFault). MatchResult c.answer.result (λ x. (o ≡ None) × (x ≡ c.can_follow-follows.result)) (λ e. o ≡ Some e)) (sym w.0) c.answer.ensures)
