-- The light chain of a good chain is good.
use Rattle.std.proofs.Common.{arith, ◌≡◌, ◌+◌, ℕ, zero, suc, List, [], ◌∷◌, length, map, drop, Option, None, Some, option_map, refl, sym, ◌∙◌, ap, subst}
use Rattle.wt_grid.specs.declared.axis.Axis.{Axis}
use Rattle.wt_grid.specs.declared.axis.Axis.TheVariants.{One, Two}
use Rattle.wt_grid.specs.Widths.{Stage}
use Rattle.wt_grid.specs.First.{first_from}
use Rattle.wt_grid.proofs.First.{neither, none_under}
use Rattle.wt_tile.specs.declared.tile.TileList.{TileList}
use Rattle.wt_step.specs.declared.raw.RawLink.{RawLink}
use Rattle.wt_step.specs.declared.raw.RawLink.TheVariants.{Marker, Restrict}
use Rattle.wt_step.specs.Links.{link_fault, fine_of, coarse_of}
use Rattle.wt_chain.specs.declared.raw.RawChain.{RawChain}
use Rattle.wt_chain.specs.declared.raw.End.{End}
use Rattle.wt_chain.specs.declared.raw.End.TheVariants.{Open, Loop}
use Rattle.wt_chain.specs.declared.raw.Refusal.TheVariants.{Step}
use Rattle.wt_chain.specs.Sets.{last_set}
use Rattle.wt_chain.specs.Growth.{stage, stages, renaming_stage, turn_stages, has_grown}
use Rattle.wt_chain.specs.Faults.{step_fault_at, steps_fault_from, growth_fault_at, growth_fault, loop_fault, end_fault, chain_fault}
use Rattle.wt_chain.specs.declared.raw.Version.TheVariants.{Two as VersionTwo}
use Rattle.wt_chain.proofs.Good.{parts, no_fault, step_good}
use Rattle.std.specs.List.{All}
use Rattle.wt_search.specs.Light.{light_link, light}
use Rattle.wt_search.specs.Lightened.{IsFaultless}
use Rattle.wt_search.proofs.LightSteps.{light_step_good}

-- Links.

pub light_link_good : (link : RawLink) → link_fault link ≡ None → link_fault (light_link link) ≡ None
unfolding link_fault
light_link_good (Marker s) e = light_step_good s e
light_link_good (Restrict s) e = e

same_fine : (link : RawLink) → fine_of (light_link link) ≡ fine_of link
same_fine (Marker s) = refl
same_fine (Restrict s) = refl

same_coarse : (link : RawLink) → coarse_of (light_link link) ≡ coarse_of link
same_coarse (Marker s) = refl
same_coarse (Restrict s) = refl

same_stage : (axis : Axis) (link : RawLink) → stage axis (light_link link) ≡ stage axis link
same_stage axis (Marker s) = refl
same_stage axis (Restrict s) = refl

-- Steps.

steps_from : (k : ℕ) (before : Option TileList) (links : List RawLink) → steps_fault_from k before links ≡ None → steps_fault_from k before (map light_link links) ≡ None
steps_from k before [] e = refl
steps_from k before (link ∷ links) e =
    let n = neither (step_fault_at k before link) (steps_fault_from (k + 1) (Some (coarse_of link)) links) e in
    let f = neither (option_map (Step k) (link_fault link)) _ n.0 in
    let here : step_fault_at k before (light_link link) ≡ None = rw (light_link_good link (none_under (Step k) (link_fault link) f.0), same_fine link) f.1 in
    rw (here, same_coarse link) (steps_from (k + 1) (Some (coarse_of link)) links n.1)

-- Ends.

same_drop : (n : ℕ) (links : List RawLink) → drop n (map light_link links) ≡ map light_link (drop n links)
same_drop zero links = refl
same_drop (suc n) [] = refl
same_drop (suc n) (link ∷ links) = same_drop n links

same_last : (set : TileList) (links : List RawLink) → last_set set (map light_link links) ≡ last_set set links
same_last set [] = refl
same_last set (link ∷ links) = ap (λ x. last_set x (map light_link links)) (same_coarse link) ∙ same_last (coarse_of link) links

same_stages : (axis : Axis) (links : List RawLink) (left : List Stage) → stages axis (map light_link links) left ≡ stages axis links left
same_stages axis [] left = refl
same_stages axis (link ∷ links) left = ap (λ x. stages axis (map light_link links) (x ∷ left)) (same_stage axis link) ∙ same_stages axis links (stage axis link ∷ left)

same_turns : (axis : Axis) (loop : List RawLink) (renaming : List ℕ) (n : ℕ) → turn_stages axis (map light_link loop) renaming n ≡ turn_stages axis loop renaming n
same_turns axis loop renaming zero = refl
same_turns axis loop renaming (suc n) =
    ap (λ x. renaming_stage renaming ∷ stages axis (map light_link loop) x) (same_turns axis loop renaming n)
    ∙ ap (λ x. renaming_stage renaming ∷ x) (same_stages axis loop (turn_stages axis loop renaming n))

same_grown : (loop : List RawLink) (renaming : List ℕ) (n t : ℕ) → has_grown (map light_link loop) renaming n t ≡ has_grown loop renaming n t
same_grown loop renaming n t = rw (same_turns One loop renaming n, same_turns Two loop renaming n) refl

same_growth : (loop : List RawLink) (renaming : List ℕ) (n count : ℕ) → growth_fault (map light_link loop) renaming n count ≡ growth_fault loop renaming n count
same_growth loop renaming n count = go 0 count
  where
    go : (i k : ℕ) → first_from (growth_fault_at (map light_link loop) renaming n) i k ≡ first_from (growth_fault_at loop renaming n) i k
    go i zero = refl
    go i (suc k) = rw (same_grown loop renaming n i, go (i + 1) k) refl

same_loop : (loop : List RawLink) (renaming : List ℕ) (n : ℕ) → loop_fault (map light_link loop) renaming n ≡ loop_fault loop renaming n
same_loop [] renaming n = refl
same_loop (link ∷ links) renaming n =
    rw (same_growth (link ∷ links) renaming n (length (fine_of (light_link link)).tiles), same_fine link, same_coarse link, same_last (coarse_of link) links) refl

same_end : (links : List RawLink) (end : End) → end_fault (map light_link links) end ≡ end_fault links end
same_end links Open = refl
same_end links (Loop start renaming n) = rw (same_drop start links) (same_loop (drop start links) renaming n)

same_length : (links : List RawLink) → length (map light_link links) ≡ length links
same_length [] = refl
same_length (link ∷ links) = ap suc (same_length links)

pub light_good : (c : RawChain) → chain_fault c ≡ None → chain_fault (light c) ≡ None
light_good c e =
    let p = parts c e in
    let n = same_length c.steps in
    let lo = p.some in
    let hi = p.few in
    no_fault (light c) (record {
      some = omega arith;
      few = omega arith;
      version = refl;
      steps = steps_from 0 None c.steps p.steps;
      end = same_end c.steps c.end ∙ p.end;
    })

-- the chain as it is put together
pub made_good : (c : RawChain) (steps : List RawLink) (end : End) → chain_fault c ≡ None → steps ≡ map light_link c.steps → end ≡ c.end → chain_fault (record { version = VersionTwo; steps = steps; end = end }) ≡ None
made_good c steps end e p q = subst (λ (x : List RawLink × End). chain_fault (record { version = VersionTwo; steps = x.0; end = x.1 }) ≡ None) (λ i. (sym p i, sym q i)) (light_good c e)

pub all_faultless : (c : RawChain) (links : List RawLink) → chain_fault c ≡ None → links ≡ c.steps → All IsFaultless links
all_faultless c links e p = subst (λ (ls : List RawLink). All IsFaultless ls) (sym p) (λ k d lt. step_good c k d e lt)
