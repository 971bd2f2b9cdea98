-- What holds of every good chain.
use Rattle.std.proofs.Common.{◌≡◌, ◌≤◌, ℕ, zero, suc, List, [], ◌∷◌, slice_get, None, Some, subst}
use Rattle.wt_tile.specs.declared.tile.TileList.{TileList}
use Rattle.wt_step.specs.declared.raw.RawLink.{RawLink}
use Rattle.wt_step.specs.declared.raw.RawLink.TheVariants.{Marker, Restrict}
use Rattle.wt_step.specs.Links.{fine_of, coarse_of}
use Rattle.wt_step.specs.Good.{IsGoodLink}
use Rattle.wt_step.proofs.Desubstitution.{some_coarse, one_coarse, same_blocks}
use Rattle.wt_step.proofs.Restricted.{some_kept, one_kept}
use Rattle.wt_chain.specs.declared.raw.RawChain.{RawChain}
use Rattle.wt_chain.specs.Good.{AreGoodSteps, IsGoodRun, IsGoodChain}
use Rattle.wt_scale.specs.Holds.{HasUniqueDesubstitution, Holds}
use Rattle.wt_scale.proofs.NoPeriods.{no_period}
use Rattle.wt_scale.proofs.EverySize.{every_size}

-- a good step takes every valid rectangle with its margin apart in exactly one way
pub desubstitutes : (link : RawLink) → IsGoodLink link → HasUniqueDesubstitution link
desubstitutes (Marker s) good = record {
  some = λ p valid margin. some_coarse s good p valid margin.0 margin.1;
  one = λ p q r valid margin. one_coarse s good p q r margin.1;
  others = λ p q valid margin grid is r whole. same_blocks s good p q r margin.1 whole is;
}
desubstitutes (Restrict s) good = record {
  some = λ p valid margin. some_kept s good p valid margin.0 margin.1;
  one = λ p q r valid margin. one_kept s good p q r margin.1;
  others = λ p q valid margin grid is r whole apart. one_kept s good p q r margin.1 grid whole is apart;
}

each_good : (set : TileList) (links : List RawLink) → AreGoodSteps set links → (k : ℕ) (link : RawLink) → slice_get links k ≡ Some link → IsGoodLink link
each_good set [] run k link at = absurd (cc at)
each_good set (l ∷ ls) run zero link at = let first : Some l ≡ Some link = at in let same : l ≡ link = cc first in subst IsGoodLink same run.0
each_good set (l ∷ ls) run (suc k) link at = each_good (coarse_of l) ls run.2 k link at

-- the steps of a good chain are good
pub steps_good : (links : List RawLink) → IsGoodRun links → (k : ℕ) (link : RawLink) → slice_get links k ≡ Some link → IsGoodLink link
steps_good [] run k link at = absurd (cc at)
steps_good (l ∷ ls) run k link at = each_good (fine_of l) (l ∷ ls) run k link at

pub good_holds : (c : RawChain) → IsGoodChain c → Holds c
good_holds c good = record {
  desubstitutes = λ k link at. desubstitutes link (steps_good c.steps good.run k link at);
  every_size = λ loop. every_size c good loop.start loop.expansion loop.renaming loop.ends loop.first loop.later loop.begins;
  no_period = λ loop. no_period c good loop.start loop.expansion loop.renaming loop.ends loop.first loop.later loop.begins;
}
