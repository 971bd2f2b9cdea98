-- A step that takes apart the last set may be put behind the others.
use Rattle.std.proofs.Common.{arith, ◌≡◌, ◌<◌, List, [], ◌∷◌, length, None, true, nat_lt, refl, sym}
use Rattle.std.proofs.lemmas.Bool.Decides.{nat_tests}
use Rattle.wt_tile.specs.declared.tile.TileList.{TileList}
use Rattle.wt_step.specs.declared.raw.RawLink.{RawLink}
use Rattle.wt_step.specs.Links.{fine_of, coarse_of}
use Rattle.wt_chain.specs.Sets.{same_set, last_set}
use Rattle.wt_chain.specs.Chains.{push_fault}
use Rattle.wt_chain.proofs.Run.{equal_same_set}

pub may_push : (set : TileList) (links : List RawLink) (link : RawLink) → length links < 32 → fine_of link ≡ last_set set links → push_fault links link ≡ None
may_push set [] link lt e = refl
may_push set (x ∷ xs) link lt e =
    let same : same_set (last_set (coarse_of x) xs) (fine_of link) ≡ true = equal_same_set (last_set (coarse_of x) xs) (fine_of link) (sym e) in
    let few : nat_lt (length (x ∷ xs)) 32 ≡ true = grind (arith, nat_tests, lt) in
    rw (same, few) refl
