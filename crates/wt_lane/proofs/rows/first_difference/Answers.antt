use Rattle.std.proofs.Common.{arith, ◌≡◌, ◌+◌, ◌≤◌, ℕ, length, drop, take, length-drop, sym, ◌∙◌, ap, List}
use Rattle.std.proofs.lemmas.List.{drop-drop}
use Rattle.wt_lane.specs.Differs.{first_place_apart}
use Rattle.wt_lane.proofs.Same.{skip_same}
use Rattle.wt_lane.proofs.rows.first_difference.Goals as goal

further : (at : ℕ) (a b : List ℕ) → at + 8 ≤ length a → length a ≡ length b → take 8 (drop at a) ≡ take 8 (drop at b) → first_place_apart at (drop at a) (drop at b) ≡ first_place_apart (at + 8) (drop (at + 8) a) (drop (at + 8) b)
further at a b le l e = skip_same 8 at (drop at a) (drop at b) (omega (arith, length-drop at a)) e (omega (arith, length-drop at a, length-drop at b)) ∙ ap (λ r. first_place_apart (at + 8) r (drop 8 (drop at b))) (drop-drop 8 at a) ∙ ap (λ r. first_place_apart (at + 8) (drop (at + 8) a) r) (drop-drop 8 at b)

pub loop-at-preserved : goal.loop-at-preserved
loop-at-preserved c = record {
  within = omega arith;
  same = c.loop-at.invariant.same;
  left = sym (further c.loop-at.at c.args.a.now c.args.b.now (omega arith) c.loop-at.invariant.same (c.if-is_same_in.ensures {u = tt})) ∙ c.loop-at.invariant.left;
}
