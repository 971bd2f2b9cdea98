use Rattle.std.proofs.Common.{◌≡◌, ◌++◌, take}
use Rattle.wt_induce.proofs.drafts.append.Given as goal

abbrev pub invariant-loop-h : goal.invariant-loop-h
invariant-loop-h l = l.all.items ≡ l.initial.all.items ++ take l.h-index l.more
