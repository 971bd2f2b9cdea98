-- Lines that go on where they were to end.
use Rattle.std.proofs.Common.{◌≡◌, ℕ, List, Some, Result, Ok, true, codes}
use Rattle.wt_line.proofs.Ended.{goes_on_is_wrong}
use Rattle.wt_grid.specs.declared.axis.Axis.{Axis}
use Rattle.std.specs.Fmt.{decimal}
use Rattle.wt_line.specs.declared.faults.What.{What}
use Rattle.wt_line.specs.declared.faults.LineFault.{LineFault}
use Rattle.wt_line.specs.Faults.{IsWrong, LineFails}
use Rattle.wt_chain.specs.declared.raw.Version.{Version}
use Rattle.wt_refute.specs.Refutation.{Refutation}
use Rattle.wt_text.specs.Readers.{after, pair, value_behind, both, whole}
use Rattle.wt_line.specs.Limits.{small}
use Rattle.wt_line.specs.Directions.{axis}
use Rattle.wt_cert.specs.LineForms.{Head, kind_of_step, head_form, may_cite, radius_in, refuted_form, lost_form}
use Rattle.wt_cert.specs.Trees.{tree_to_end}

pub head_fails : (e : LineFault) (version : Version) (k : ℕ) (r : Result Head What) (ts r1 r2 r3 : List (List ℕ)) → after (codes "step") ts ≡ Some r1 → after (decimal k) r1 ≡ Some r2 → kind_of_step version r2 ≡ Some (r, r3) → IsWrong e r3
    → LineFails e (head_form version k ts)
unfolding head_form whole value_behind
head_fails e version k r ts r1 r2 r3 a b c w = rw (a, b, c) (goes_on_is_wrong e r r3 w)

pub refuted_fails : (e : LineFault) (version : Version) (radius nodes : ℕ) (ts r1 r2 r3 r4 r5 : List (List ℕ)) (x : Axis) (a b r : Result ℕ What) (tree : Result Refutation What) → axis ts ≡ Some (Ok x, r1) → small r1 ≡ Some (a, r2) → small r2 ≡ Some (b, r3)
    → radius_in version radius r3 ≡ Some (r, r4) → tree_to_end (may_cite version) nodes r4 ≡ Some (tree, r5) → IsWrong e r5 → LineFails e (refuted_form version radius nodes ts)
unfolding refuted_form whole both
refuted_fails e version radius nodes ts r1 r2 r3 r4 r5 x a b r tree h1 h2 h3 h4 h5 w = rw (h1, h2, h3, h4, h5) (goes_on_is_wrong e (pair (Ok x) (pair a (pair b (pair r tree)))) r5 w)

pub lost_fails : (e : LineFault) (nodes : ℕ) (ts r1 r2 : List (List ℕ)) (a : Result ℕ What) (tree : Result Refutation What) → small ts ≡ Some (a, r1) → tree_to_end true nodes r1 ≡ Some (tree, r2) → IsWrong e r2 → LineFails e (lost_form nodes ts)
unfolding lost_form whole both
lost_fails e nodes ts r1 r2 a tree h1 h2 w = rw (h1, h2) (goes_on_is_wrong e (pair a tree) r2 w)
