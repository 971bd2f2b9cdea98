use Rattle.std.proofs.Common.{arith, ◌≡◌, length, sym, ap, ◌∙◌}
use Rattle.std.proofs.lemmas.Bool.Decides.{nat_tests}
use Rattle.wt_markov.proofs.Edged.{no_regions}
use Rattle.wt_markov.proofs.window.unfit_fault.Goals as goal

pub returns-then-is_empty : goal.returns-then-is_empty
returns-then-is_empty c =
    let none : length c.as_slice.result.now ≡ 0 = grind (arith, nat_tests, c.is_empty.ensures, c.if-is_empty.true) in
    c.first_marker.ensures ∙ sym (no_regions c.args.raw.now c.args.p.now (sym (ap length c.as_slice.ensures) ∙ none))
