-- A chain without a fault is good, and a good chain has no fault.
use Rattle.std.proofs.Common.{arith, ◌≡◌, ◌<◌, ◌≤◌, ◌+◌, ℕ, zero, suc, List, [], ◌∷◌, length, drop, Option, None, Some, option_map, Bool, true, false, ◌&&◌, nat_le, if◌then◌else◌, refl, sym, ◌∙◌, ap}
use Rattle.wt_grid.proofs.Unless.{holds}
use Rattle.wt_grid.specs.Unless.{unless}
use Rattle.std.proofs.lemmas.Bool.{and_parts}
use Rattle.wt_grid.specs.declared.axis.Axis.TheVariants.{One, Two}
use Rattle.std.proofs.lemmas.Bool.Decides.{nat_tests}
use Rattle.wt_tile.specs.declared.tile.TileList.{TileList}
use Rattle.wt_grid.specs.First.{or_else, first_from}
use Rattle.wt_grid.specs.Widths.{width}
use Rattle.wt_grid.proofs.First.{neither, none_from, all_none, none_under}
use Rattle.wt_bijection.specs.Renaming.{renaming_fault}
use Rattle.wt_bijection.proofs.Carried.{renaming, right}
use Rattle.wt_step.specs.declared.raw.RawLink.{RawLink}
use Rattle.wt_step.specs.Links.{link_fault, fine_of, coarse_of}
use Rattle.wt_chain.specs.declared.raw.RawChain.{RawChain}
use Rattle.wt_chain.specs.declared.raw.End.{End}
use Rattle.wt_chain.specs.declared.raw.End.TheVariants.{Open, Loop}
use Rattle.wt_chain.specs.declared.raw.Refusal.{Refusal}
use Rattle.wt_chain.specs.declared.raw.Refusal.TheVariants.{Renaming, Expansion}
use Rattle.wt_chain.specs.Sets.{last_set, AreLinked, IsRun}
use Rattle.wt_chain.specs.Growth.{turn_stages, has_grown}
use Rattle.wt_chain.specs.Faults.{steps_fault_from, steps_fault, growth_fault_at, growth_fault, loop_fault, end_fault, chain_fault}
use Rattle.wt_step.proofs.GoodLinks.{good_link, no_link_fault}
use Rattle.wt_chain.specs.Good.{HasGrown, AreGoodSteps, IsGoodRun, IsGoodLoop, IsGoodEnd, IsGoodChain}
use Rattle.wt_chain.proofs.Run.{run_from, equal_same_set}
use Rattle.wt_chain.proofs.Turned.{wide, high}
use Rattle.wt_chain.proofs.Good.{Parts, parts, no_fault}

-- Growth.

grows : (loop : List RawLink) (renaming : List ℕ) (n t : ℕ) → has_grown loop renaming n t ≡ true → HasGrown loop renaming n t
grows loop renaming n t e =
    let b = and_parts (nat_le 2 (width (turn_stages One loop renaming n) t)) (nat_le 2 (width (turn_stages Two loop renaming n) t)) e in
    let w : 2 ≤ width (turn_stages One loop renaming n) t = grind (arith, nat_tests, b.0) in
    let h : 2 ≤ width (turn_stages Two loop renaming n) t = grind (arith, nat_tests, b.1) in
    record { wide = omega (arith, wide loop renaming n t); high = omega (arith, high loop renaming n t) }

grown : (loop : List RawLink) (renaming : List ℕ) (n t : ℕ) → HasGrown loop renaming n t → has_grown loop renaming n t ≡ true
grown loop renaming n t g =
    let w : 2 ≤ width (turn_stages One loop renaming n) t = let s = g.wide in omega (arith, wide loop renaming n t) in
    let h : 2 ≤ width (turn_stages Two loop renaming n) t = let s = g.high in omega (arith, high loop renaming n t) in
    let is_wide : nat_le 2 (width (turn_stages One loop renaming n) t) ≡ true = grind (arith, nat_tests, w) in
    let is_high : nat_le 2 (width (turn_stages Two loop renaming n) t) ≡ true = grind (arith, nat_tests, h) in
    rw (is_wide, is_high) refl

-- Loops.

loop_good : (loop : List RawLink) (rs : List ℕ) (n : ℕ) → loop_fault loop rs n ≡ None → IsGoodLoop loop rs n
loop_good [] rs n e = absurd cc
loop_good (link ∷ links) rs n e =
    let p = neither (option_map Renaming (renaming_fault (last_set (coarse_of link) links).tiles (fine_of link).tiles rs)) (growth_fault (link ∷ links) rs n (length (fine_of link).tiles)) e in (
      renaming (last_set (coarse_of link) links).tiles (fine_of link).tiles rs (none_under Renaming _ p.0),
      λ t lt. grows (link ∷ links) rs n t (holds (has_grown (link ∷ links) rs n t) (Expansion t)
          (none_from (growth_fault_at (link ∷ links) rs n) 0 (length (fine_of link).tiles) t p.1 (omega arith) (omega arith))),
    )

good_loop : (loop : List RawLink) (rs : List ℕ) (n : ℕ) → IsGoodLoop loop rs n → loop_fault loop rs n ≡ None
good_loop [] rs n h = absurd h
good_loop (link ∷ links) rs n h =
    rw (right (last_set (coarse_of link) links).tiles (fine_of link).tiles rs h.0)
    (all_none (growth_fault_at (link ∷ links) rs n) 0 (length (fine_of link).tiles)
    (λ t lo hi. rw (grown (link ∷ links) rs n t (h.1 t (omega arith))) refl))

end_good : (links : List RawLink) (end : End) → end_fault links end ≡ None → IsGoodEnd links end
end_good links Open e = tt
end_good links (Loop start rs n) e = loop_good (drop start links) rs n e

good_end : (links : List RawLink) (end : End) → IsGoodEnd links end → end_fault links end ≡ None
good_end links Open h = refl
good_end links (Loop start rs n) h = good_loop (drop start links) rs n h

-- Steps.

good_steps : (set : TileList) (links : List RawLink) → AreLinked set links → AreGoodSteps set links
good_steps set [] h = tt
good_steps set (link ∷ links) h = (good_link link h.0, h.1, good_steps (coarse_of link) links h.2)

linked_steps : (set : TileList) (links : List RawLink) → AreGoodSteps set links → AreLinked set links
linked_steps set [] h = tt
linked_steps set (link ∷ links) h = (no_link_fault link h.0, h.1, linked_steps (coarse_of link) links h.2)

good_run : (links : List RawLink) → IsRun links → IsGoodRun links
good_run [] h = tt
good_run (link ∷ links) h = good_steps (fine_of link) (link ∷ links) h

-- good steps have no fault
pub linked_run : (links : List RawLink) → IsGoodRun links → IsRun links
linked_run [] h = tt
linked_run (link ∷ links) h = linked_steps (fine_of link) (link ∷ links) h

linked_none : (k : ℕ) (set : TileList) (links : List RawLink) → AreLinked set links → steps_fault_from k (Some set) links ≡ None
linked_none k set [] h = refl
linked_none k set (link ∷ links) h =
    rw (h.0, equal_same_set set (fine_of link) (sym h.1)) (linked_none (k + 1) (coarse_of link) links h.2)

run_none : (links : List RawLink) → IsRun links → steps_fault links ≡ None
run_none [] h = refl
run_none (link ∷ links) h = rw h.0 (linked_none 1 (coarse_of link) links h.2)

-- Chains.

pub good : (c : RawChain) → chain_fault c ≡ None → IsGoodChain c
good c e = let p = parts c e in
    record { some = p.some; few = p.few; version = p.version; run = good_run c.steps (run_from c.steps p.steps); end = end_good c.steps c.end p.end }

pub back : (c : RawChain) → IsGoodChain c → chain_fault c ≡ None
back c g = no_fault c (record { some = g.some; few = g.few; version = g.version; steps = run_none c.steps (linked_run c.steps g.run); end = good_end c.steps c.end g.end })
