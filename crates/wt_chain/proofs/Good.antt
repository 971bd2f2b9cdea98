-- What a chain without a fault has, and what has no fault.
use Rattle.std.proofs.Common.{arith, ◌≡◌, ◌<◌, ◌≤◌, ◌-◌, ◌+◌, ℕ, zero, suc, List, [], ◌∷◌, ◌++◌, length, get_or, slice_get, Option, None, Some, option_map, Bool, true, false, ◌&&◌, nat_lt, if◌then◌else◌, refl, sym, ◌∙◌, ap}
use Rattle.wt_grid.proofs.Unless.{holds}
use Rattle.wt_grid.specs.Unless.{unless}
use Rattle.std.specs.List.{list_all}
use Rattle.std.proofs.lemmas.Bool.Decides.{nat_tests}
use Rattle.wt_tile.specs.declared.tile.TileList.{TileList}
use Rattle.wt_grid.specs.First.{or_else}
use Rattle.wt_grid.proofs.First.{neither}
use Rattle.wt_step.specs.declared.raw.RawLink.{RawLink}
use Rattle.wt_step.specs.Links.{link_fault, fine_of, coarse_of}
use Rattle.wt_chain.specs.declared.raw.RawChain.{RawChain}
use Rattle.wt_chain.specs.declared.raw.Refusal.{Refusal}
use Rattle.wt_chain.specs.declared.raw.Refusal.TheVariants.{Empty, TooManySteps, Version}
use Rattle.wt_chain.specs.declared.raw.Version.{Version as Versions}
use Rattle.wt_chain.specs.declared.raw.Version.TheVariants.{One, Two}
use Rattle.wt_chain.specs.Versions.{version_fits, version_of, one_more, is_first_version}
use Rattle.wt_chain.specs.Sets.{last_set, set_behind, AreLinked, IsRun}
use Rattle.wt_chain.specs.Faults.{size_fault, step_fault_at, steps_fault_from, steps_fault, end_fault, chain_fault}
use Rattle.wt_chain.proofs.Run.{run_from}

pub record Parts (c : RawChain) : Type 0 where
  pub some : 0 < length c.steps
  pub few : length c.steps ≤ 32
  pub version : version_fits c.version c.steps ≡ true
  pub steps : steps_fault c.steps ≡ None
  pub end : end_fault c.steps c.end ≡ None

pub parts : (c : RawChain) → chain_fault c ≡ None → Parts c
unfolding chain_fault
parts c e =
    let all = neither (size_fault c) (or_else (steps_fault c.steps) (end_fault c.steps c.end)) e in
    let rest = neither (steps_fault c.steps) (end_fault c.steps c.end) all.1 in
    let s = neither (unless (nat_lt 0 (length c.steps)) Empty) (or_else (unless (nat_lt (length c.steps) 33) TooManySteps) (unless (version_fits c.version c.steps) Version)) all.0 in
    let f = neither (unless (nat_lt (length c.steps) 33) TooManySteps) (unless (version_fits c.version c.steps) Version) s.1 in
    let some : nat_lt 0 (length c.steps) ≡ true = holds (nat_lt 0 (length c.steps)) Empty s.0 in
    let few : nat_lt (length c.steps) 33 ≡ true = holds (nat_lt (length c.steps) 33) TooManySteps f.0 in
    record {
      some = grind (arith, nat_tests, some);
      few = grind (arith, nat_tests, few);
      version = holds (version_fits c.version c.steps) Version f.1;
      steps = rest.0;
      end = rest.1;
    }

pub no_fault : (c : RawChain) → Parts c → chain_fault c ≡ None
unfolding chain_fault
no_fault c p =
    let some : nat_lt 0 (length c.steps) ≡ true = let s = p.some in grind (arith, nat_tests, s) in
    let few : nat_lt (length c.steps) 33 ≡ true = let s = p.few in grind (arith, nat_tests, s) in
    rw (some, few, p.version, p.steps) p.end

pub some_steps : (c : RawChain) → chain_fault c ≡ None → 0 < length c.steps
some_steps c e = (parts c e).some

pub few_steps : (c : RawChain) → chain_fault c ≡ None → length c.steps ≤ 32
few_steps c e = (parts c e).few

linked_at : (set : TileList) (links : List RawLink) (k : ℕ) (d : RawLink) → AreLinked set links → k < length links → link_fault (get_or links k d) ≡ None
linked_at set [] k d h lt = absurd (omega arith)
linked_at set (link ∷ links) zero d h lt = h.0
linked_at set (link ∷ links) (suc k) d h lt = linked_at (coarse_of link) links k d h.2 (omega arith)

pub run_at : (links : List RawLink) (k : ℕ) (d : RawLink) → IsRun links → k < length links → link_fault (get_or links k d) ≡ None
run_at [] k d h lt = absurd (omega arith)
run_at (link ∷ links) k d h lt = linked_at (fine_of link) (link ∷ links) k d h lt

-- each step of a good chain is good
pub step_good : (c : RawChain) (k : ℕ) (d : RawLink) → chain_fault c ≡ None → k < length c.steps → link_fault (get_or c.steps k d) ≡ None
step_good c k d e lt = run_at c.steps k d (run_from c.steps (parts c e).steps) lt
