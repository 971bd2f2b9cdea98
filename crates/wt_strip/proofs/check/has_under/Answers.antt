use Rattle.std.proofs.Common.{◌<◌, ℕ, subst, inl, inr}
use Rattle.std.proofs.lemmas.Bool.{cases_lt}
use Rattle.wt_strip.proofs.Skips.{not_under}
use Rattle.wt_strip.proofs.check.has_under.Goals as goal

pub rows-preserved : goal.rows-preserved
rows-preserved c = record {
  within = c.past_alike-r.ensures.within;
  none = λ s lt. elim (cases_lt s c.rows.r) [
    | inl less ↦ c.rows.invariant.none s less
    | inr ge ↦ not_under c.args.tiles.now c.args.w c.args.below.now s c.rows.r c.in-Some.x c.args.q.now (subst (λ (k : ℕ). c.in-Some.x < k) c.requires.long c.in-Some.ensures.0)
        c.row.ensures.cells c.in-Some.ensures.1 (c.past_alike-r.ensures.alike s ge lt)
  ];
}
