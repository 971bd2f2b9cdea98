use Rattle.std.proofs.Common.{◌≡◌, ◌++◌, drop}
use Rattle.wt_session.specs.Induce.{labels_text}
use Rattle.wt_session.proofs.words.induce.push_labels.Given as goal

abbrev pub invariant-loop-j : goal.invariant-loop-j
invariant-loop-j l = l.out.items ++ labels_text l.j (drop l.j l.images) ≡ l.initial.out.items ++ labels_text 0 l.images
