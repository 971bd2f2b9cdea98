-- Every loop has a least power or none, and every tile has a census or a reason against it.
use Rattle.std.proofs.Common.{arith, ◌≡◌, ◌⊎◌, ◌<◌, ◌≤◌, ◌+◌, ◌-◌, ◌^◌, ℕ, zero, suc, Bool, true, false, nat_eq, List, [], ◌∷◌, drop, Option, None, Some, Result, Ok, Err, inl, inr, refl, sym, subst}
use Rattle.std.specs.Prelude.{codes}
use Rattle.std.proofs.lemmas.Bool.{cases_lt}
use Rattle.std.proofs.lemmas.Bool.Decides.{nat_tests}
use Rattle.wt_grid.specs.Grid.{Grid, listed}
use Rattle.wt_grid.proofs.Bridge.{length-listed, get_or-listed}
use Rattle.wt_step.specs.declared.raw.RawLink.{RawLink}
use Rattle.wt_chain.specs.declared.raw.RawChain.{RawChain}
use Rattle.wt_chain.specs.declared.raw.End.{End}
use Rattle.wt_chain.specs.declared.raw.End.TheVariants.{Open, Loop}
use Rattle.wt_chain.specs.Sets.{first_count}
use Rattle.wt_check.specs.declared.counts.CensusFault.{CensusFault}
use Rattle.wt_check.specs.declared.counts.CensusFault.TheVariants as census_faults
use Rattle.wt_check.specs.Powers.{power, count, units, HasLarge}
use Rattle.wt_check.specs.Primitive.{IsMixing, HasNoMixing, IsLoopPower, last_power}
use Rattle.wt_check.specs.Census.{IsTooLarge}
use Rattle.wt_session.specs.Replies.{Reply, says, limit, no_tile, open_chain}
use Rattle.wt_session.specs.Primitive.{IsPowerReply, IsPrimitiveOf, power_text}
use Rattle.wt_session.specs.Census.{MayAnswerCensus, IsCountsReply, IsCensusOf, counts_text}
use Rattle.wt_session.proofs.Decided.{Dec, all_below, IsLeast, least_below, some_below}

-- ---- the least power that mixes

positive : (n : ℕ) → Dec (0 < n)
positive n = elim (cases_lt 0 n) [ inl lt ↦ inl lt | inr le ↦ inr (λ lt. absurd (omega (arith, lt, le))) ]

mixes : (loop : List RawLink) (renaming : List ℕ) (turns : ℕ) → Dec (IsMixing loop renaming turns)
mixes loop renaming turns = elim (all_below (λ a. (b : ℕ) → b < first_count loop → 0 < count b (power loop renaming turns a))
    (λ a. all_below (λ b. 0 < count b (power loop renaming turns a)) (λ b. positive (count b (power loop renaming turns a))) (first_count loop)) (first_count loop)) [
      | inl all ↦ inl (λ a b la lb. all a la b lb)
      | inr not ↦ inr (λ h. not (λ a la b lb. h a b la lb))
    ]

-- turn k + 1 mixes
abbrev Mixes : List RawLink → List ℕ → ℕ → Type 0
Mixes loop renaming k = IsMixing loop renaming (suc k)

power_some : (loop : List RawLink) (renaming : List ℕ) → (o : Option ℕ) × IsLoopPower loop renaming o
power_some loop renaming = by (least_below (Mixes loop renaming) (λ k. mixes loop renaming (suc k)) (last_power (first_count loop)))
  where
    before : (m : ℕ) → ((k : ℕ) → k < m → Mixes loop renaming k → ⊥) → HasNoMixing loop renaming m
    before m none zero ge le h = absurd (omega (arith, ge))
    before m none (suc k) ge le h = none k (omega (arith, le)) h

    by : ((k : ℕ) → k < last_power (first_count loop) → Mixes loop renaming k → ⊥) ⊎ ((k : ℕ) × IsLeast (Mixes loop renaming) (last_power (first_count loop)) k) → (o : Option ℕ) × IsLoopPower loop renaming o
    by (inl none) = (None, before (last_power (first_count loop)) none)
    by (inr found) =
        let lt = found.1.below in
        let same : suc found.0 - 1 ≡ found.0 = omega arith in
        (Some (suc found.0), (omega arith, omega (arith, lt), found.1.holds, subst (HasNoMixing loop renaming) (sym same) (before found.0 found.1.first)))

power_end : (steps : List RawLink) (end : End) → (reply : Reply) × IsPowerReply steps end reply
power_end steps Open = (open_chain, refl)
power_end steps (Loop start renaming expansion) =
    let o = power_some (drop start steps) renaming in
    (says (power_text o.0), (o.0, o.1, refl))

pub primitive_some : (r : Result RawChain Reply) → (reply : Reply) × IsPrimitiveOf r reply
primitive_some (Err stopped) = (stopped, refl)
primitive_some (Ok c) = power_end c.steps c.end

-- ---- counts that are too large

-- the tile stands in the list
abbrev Stands : List ℕ → ℕ → Type 0
Stands [] u = ⊥
Stands (t ∷ ts) u = (t ≡ u) ⊎ Stands ts u

stands : (u : ℕ) (ts : List ℕ) → 1 ≤ units u ts → Stands ts u
stands u [] le = absurd (omega (arith, le))
stands u (t ∷ ts) le = by (nat_eq t u) refl (stands u ts)
  where
    by : (b : Bool) → nat_eq t u ≡ b → (1 ≤ units u ts → Stands ts u) → Stands (t ∷ ts) u
    by true e later = inl (grind (arith, nat_tests, e))
    by false e later = let rest : 1 ≤ 0 + units u ts = rw e at le in inr (later (omega (arith, rest)))

-- one of these tiles stands so often
often : (n : ℕ) (all ts : List ℕ) → ((u : ℕ) × (n ≤ units u all)) ⊎ ((u : ℕ) → Stands ts u → n ≤ units u all → ⊥)
often n all [] = inr (λ u h le. h)
often n all (t ∷ ts) = by (cases_lt (units t all) n) (often n all ts)
  where
    by : (units t all < n) ⊎ (n ≤ units t all) → ((u : ℕ) × (n ≤ units u all)) ⊎ ((u : ℕ) → Stands ts u → n ≤ units u all → ⊥)
        → ((u : ℕ) × (n ≤ units u all)) ⊎ ((u : ℕ) → Stands (t ∷ ts) u → n ≤ units u all → ⊥)
    by (inr ge) rest = inl (t, ge)
    by (inl lt) (inl found) = inl found
    by (inl lt) (inr none) = inr go
      where
        go : (u : ℕ) → Stands (t ∷ ts) u → n ≤ units u all → ⊥
        go u (inl e) le = let here : n ≤ units t all = subst (λ (v : ℕ). n ≤ units v all) (sym e) le in absurd (omega (arith, here, lt))
        go u (inr h) le = none u h le

often_some : (n : ℕ) (ts : List ℕ) → 1 ≤ n → Dec ((u : ℕ) × (n ≤ units u ts))
often_some n ts some = elim (often n ts ts) [
  | inl found ↦ inl found
  | inr none ↦ inr (λ h. let le = h.1 in none h.0 (stands h.0 ts (omega (arith, some, le))) le)
]

large : (g : Grid) → Dec (HasLarge g)
large g = often_some (2 ^ 128) g.cells (omega arith)

too_large : (loop : List RawLink) (renaming : List ℕ) (turns tile : ℕ) → Dec (IsTooLarge loop renaming turns tile)
too_large loop renaming turns tile = elim (some_below (λ k. HasLarge (power loop renaming k tile)) (λ k. large (power loop renaming k tile)) (suc turns)) [
  | inl found ↦ let lt = found.1 in inl (found.0, omega (arith, lt), found.2)
  | inr none ↦ inr (λ h. let le = h.1 in none (h.0, omega (arith, le), h.2))
]

-- ---- the census

abbrev counts_of : (loop : List RawLink) (renaming : List ℕ) (turns tile : ℕ) → List ℕ
counts_of loop renaming turns tile = listed (first_count loop) (λ u. count u (power loop renaming turns tile))

census_some : (steps : List RawLink) (start : ℕ) (renaming : List ℕ) (expansion turns tile : ℕ)
    → (reply : Reply) × (answer : Result (List ℕ) CensusFault) × MayAnswerCensus steps (Loop start renaming expansion) turns tile answer × IsCountsReply tile answer reply
census_some steps start renaming expansion turns tile = by (cases_lt tile (first_count (drop start steps))) (too_large (drop start steps) renaming turns tile)
  where
    loop : List RawLink
    loop = drop start steps

    by : (tile < first_count (drop start steps)) ⊎ (first_count (drop start steps) ≤ tile) → Dec (IsTooLarge (drop start steps) renaming turns tile)
        → (reply : Reply) × (answer : Result (List ℕ) CensusFault) × MayAnswerCensus steps (Loop start renaming expansion) turns tile answer × IsCountsReply tile answer reply
    by (inr ge) dec = (no_tile tile, Err census_faults.NoTile, ge, refl)
    by (inl lt) (inl is) = (limit (codes "limit count\n"), Err census_faults.TooLarge, (lt, is), refl)
    by (inl lt) (inr not) = (
      says (counts_text (counts_of loop renaming turns tile)),
      Ok (counts_of loop renaming turns tile),
      (
        (
          length-listed (first_count loop) (λ u. count u (power loop renaming turns tile)),
          λ u lu. get_or-listed (first_count loop) u (λ u. count u (power loop renaming turns tile)) 0 lu,
        ),
        (lt, not),
      ),
      refl,
    )

census_end : (steps : List RawLink) (end : End) (turns tile : ℕ)
    → (reply : Reply) × (answer : Result (List ℕ) CensusFault) × MayAnswerCensus steps end turns tile answer × IsCountsReply tile answer reply
census_end steps Open turns tile = (open_chain, Err census_faults.OpenChain, refl, refl)
census_end steps (Loop start renaming expansion) turns tile = census_some steps start renaming expansion turns tile

pub census_reply : (turns tile : ℕ) (r : Result RawChain Reply) → (reply : Reply) × IsCensusOf turns tile r reply
census_reply turns tile (Err stopped) = (stopped, refl)
census_reply turns tile (Ok c) = let told = census_end c.steps c.end turns tile in (told.0, (told.1, told.2, told.3))
