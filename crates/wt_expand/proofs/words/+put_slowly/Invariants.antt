use Rattle.wt_expand.proofs.words.+put_slowly.Given as goal

abbrev pub decreases-put_slowly : goal.decreases-put_slowly
decreases-put_slowly l = l.k
