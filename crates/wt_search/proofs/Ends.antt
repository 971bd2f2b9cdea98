-- How a search ends, level by level.
use Rattle.std.proofs.Common.{arith, ◌≡◌, ◌⊎◌, ◌<◌, ◌≤◌, ◌-◌, ℕ, zero, suc, List, length, drop, [], ◌∷◌, slice_get, Option, None, Some, option_map, true, false, nat_lt, refl, sym, ◌∙◌, ap, subst, inl, inr}
use Rattle.std.specs.Prelude.{Result, Ok, Err}
use Rattle.std.proofs.lemmas.Bool.{cases_lt}
use Rattle.std.proofs.lemmas.Bool.Decides.{nat_tests}
use Rattle.wt_tile.specs.declared.tile.TileList.{TileList}
use Rattle.wt_bijection.specs.Renaming.{renaming_fault}
use Rattle.wt_bijection.specs.Least.{least_renaming}
use Rattle.wt_grid.proofs.First.{first_found}
use Rattle.wt_bijection.proofs.FirstFound.{found_is}
use Rattle.wt_step.specs.declared.raw.RawLink.{RawLink}
use Rattle.wt_step.specs.Links.{fine_of, coarse_of}
use Rattle.wt_chain.specs.declared.raw.RawChain.{RawChain}
use Rattle.wt_chain.specs.Sets.{set_at, last_set, IsRenamed}
use Rattle.wt_search.specs.declared.end.SearchEnd.{SearchEnd}
use Rattle.wt_search.specs.declared.end.SearchEnd.TheVariants.{OutOfMemory}
use Rattle.wt_search.specs.Asked.{Asked, IsSpent, HasNoMatches}
use Rattle.wt_search.specs.Found.{at_start, meets, meets_at, meeting, going, over, next, progress, outcome, found, SpentAfter, MayEnd}

module _ (s : Asked) (set : TileList) where
  over_later : (n k : ℕ) (r : Result RawChain SearchEnd) → k ≤ n → progress s set k ≡ over r → progress s set n ≡ over r
  over_later zero k r le e = let z : k ≡ 0 = omega arith in ap (progress s set) (sym z) ∙ e
  over_later (suc n) k r le e = elim (cases_lt n k) [
    | inl lt ↦ let same : suc n ≡ k = omega arith in ap (progress s set) same ∙ e
    | inr ge ↦ ap (next s set n) (over_later n k r ge e)
  ]

  over_found : (levels level nodes : ℕ) (links : List RawLink) (r : Result RawChain SearchEnd) → level < levels → progress s set level ≡ going links nodes
      → next s set level (going links nodes) ≡ over r → found s set levels ≡ r
  over_found levels level nodes links r lt come e = ap outcome (over_later levels (suc level) r (omega arith) (ap (next s set level) come ∙ e))

  pub found_by : (levels level nodes : ℕ) (links : List RawLink) (c : RawChain) → level < levels → progress s set level ≡ going links nodes
      → next s set level (going links nodes) ≡ over (Ok c) → found s set levels ≡ Ok c
  found_by levels level nodes links c lt come e = over_found levels level nodes links (Ok c) lt come e

  pub ended : (levels level nodes : ℕ) (links : List RawLink) (e : SearchEnd) → level < levels → progress s set level ≡ going links nodes
      → (e ≡ OutOfMemory) ⊎ IsSpent (last_set set links).tiles s.radius s.budget level e ⊎ (next s set level (going links nodes) ≡ over (Err e)) → MayEnd s set levels e
  ended levels level nodes links e lt come (inl h) = inl h
  ended levels level nodes links e lt come (inr (inl h)) = inr (inl (level, lt, subst (λ p. SpentAfter s set level p e) (sym come) h))
  ended levels level nodes links e lt come (inr (inr h)) = inr (inr (over_found levels level nodes links (Err e) lt come h))

  -- at level 0 no step was made
  begun : (level nodes : ℕ) (links : List RawLink) → level ≡ 0 → progress s set level ≡ going links nodes → links ≡ []
  begun level nodes links z come = sym (by (sym (ap (progress s set) z) ∙ come))
    where
      by : going [] 0 ≡ going links nodes → [] ≡ links
      by e = cc

  -- at budget 0 a search that is given up is so at level 0, or no window is asked
  pub given_up : (level nodes : ℕ) (links : List RawLink) (e : SearchEnd) → (level ≡ 0) ⊎ HasNoMatches set.tiles → progress s set level ≡ going links nodes
      → HasNoMatches (last_set set links).tiles ⊎ (e ≡ OutOfMemory) ⊎ IsSpent (last_set set links).tiles s.radius s.budget level e
      → HasNoMatches set.tiles ⊎ (e ≡ OutOfMemory) ⊎ IsSpent set.tiles s.radius s.budget 0 e
  given_up level nodes links e (inl z) come h =
      subst (λ (n : ℕ). HasNoMatches set.tiles ⊎ (e ≡ OutOfMemory) ⊎ IsSpent set.tiles s.radius s.budget n e) z
      (subst (λ (ls : List RawLink). HasNoMatches (last_set set ls).tiles ⊎ (e ≡ OutOfMemory) ⊎ IsSpent (last_set set ls).tiles s.radius s.budget level e) (begun level nodes links z come) h)
  given_up level nodes links e (inr none) come h = inl none

-- Sets of levels.

record Dropped (links : List RawLink) (k : ℕ) : Type 0 where
  link : RawLink
  rest : List RawLink
  same : drop k links ≡ link ∷ rest
  at : slice_get links k ≡ Some link
  last : (set : TileList) → last_set set links ≡ last_set (coarse_of link) rest

dropped : (links : List RawLink) (k : ℕ) → k < length links → Dropped links k
dropped [] k lt = absurd (omega arith)
dropped (link ∷ rest) zero lt = record { link = link; rest = rest; same = refl; at = refl; last = λ set. refl }
dropped (link ∷ rest) (suc k) lt =
    let d = dropped rest k (omega arith) in
    record { link = d.link; rest = d.rest; same = d.same; at = d.at; last = λ set. d.last (coarse_of link) }

last_at : (set : TileList) (links : List RawLink) (k : ℕ) → length links ≡ suc k → option_map coarse_of (slice_get links k) ≡ Some (last_set set links)
last_at set [] k e = absurd (omega arith)
last_at set (link ∷ []) zero e = refl
last_at set (link ∷ []) (suc k) e = absurd (omega arith)
last_at set (link ∷ x ∷ xs) zero e = absurd (omega arith)
last_at set (link ∷ x ∷ xs) (suc k) e = last_at (coarse_of link) (x ∷ xs) k (omega arith)

-- behind the last step stands the last set
pub set_behind : (set : TileList) (links : List RawLink) → 0 < length links → set_at links (length links) ≡ Some (last_set set links)
set_behind set links lt =
    let no : nat_lt (length links) (length links) ≡ false = grind (arith, nat_tests) in
    rw no (last_at set links (length links - 1) (omega arith))

fine_at : (links : List RawLink) (k : ℕ) (link : RawLink) → k < length links → slice_get links k ≡ Some link → set_at links k ≡ Some (fine_of link)
fine_at links k link lt e =
    let yes : nat_lt k (length links) ≡ true = grind (arith, nat_tests) in
    rw (yes, e) refl

-- what has met is renamed
met_parts : (last earlier : Option TileList) (level : ℕ) (m : ℕ × List ℕ) (a b : TileList) → last ≡ Some a → earlier ≡ Some b → meets last level earlier ≡ Some m
    → (level ≡ m.0) × (least_renaming a.tiles b.tiles ≡ Some m.1)
met_parts None earlier level m a b p q e = absurd cc
met_parts (Some last) None level m a b p q e = absurd cc
met_parts (Some last) (Some earlier) level m a b p q e =
    let x : last ≡ a = cc in
    let y : earlier ≡ b = cc in
    go (least_renaming a.tiles b.tiles) (sym (ap (λ l. option_map (at_start level) (least_renaming l.tiles earlier.tiles)) x ∙ ap (λ l. option_map (at_start level) (least_renaming a.tiles l.tiles)) y) ∙ e)
  where
    go : (r : Option (List ℕ)) → option_map (at_start level) r ≡ Some m → (level ≡ m.0) × (r ≡ Some m.1)
    go None h = absurd cc
    go (Some r) h = let pair : (level, r) ≡ m = cc in (ap (λ x. x.0) pair, ap (λ x. Some x.1) pair)

renamed_rest : (loop : List RawLink) (link : RawLink) (rest : List RawLink) (renaming : List ℕ) → loop ≡ link ∷ rest
    → renaming_fault (last_set (coarse_of link) rest).tiles (fine_of link).tiles renaming ≡ None → IsRenamed loop renaming
renamed_rest loop link rest renaming e h = subst (λ l. IsRenamed l renaming) (sym e) h

pub met_renames : (set : TileList) (links : List RawLink) (m : ℕ × List ℕ) → meeting links ≡ Some m → IsRenamed (drop m.0 links) m.1
met_renames set links m e =
    let f = first_found (meets_at links) 0 (length links) m e in
    let lt : f.0 < length links = omega (arith, f.1) in
    let d = dropped links f.0 lt in
    let p = met_parts (set_at links (length links)) (set_at links f.0) f.0 m (last_set set links) (fine_of d.link) (set_behind set links (omega arith)) (fine_at links f.0 d.link lt d.at) f.2 in
    let r = (found_is (last_set set links).tiles (fine_of d.link).tiles (length (last_set set links).tiles) [] m.1 p.1).0 in
    renamed_rest (drop m.0 links) d.link d.rest m.1 (ap (λ k. drop k links) (sym p.0) ∙ d.same)
    (ap (λ l. renaming_fault l.tiles (fine_of d.link).tiles m.1) (sym (d.last set)) ∙ r)

pub met_is_renamed : (links : List RawLink) (m : ℕ × List ℕ) → meeting links ≡ Some m → IsRenamed (drop m.0 links) m.1
met_is_renamed links m e = met_renames (record { tiles = []; names1 = []; names2 = [] }) links m e

met_number : (last earlier : Option TileList) (level : ℕ) (m : ℕ × List ℕ) → meets last level earlier ≡ Some m → level ≡ m.0
met_number None earlier level m e = absurd cc
met_number (Some last) None level m e = absurd cc
met_number (Some last) (Some earlier) level m e = go (least_renaming last.tiles earlier.tiles) e
  where
    go : (r : Option (List ℕ)) → option_map (at_start level) r ≡ Some m → level ≡ m.0
    go None h = absurd cc
    go (Some r) h = let pair : (level, r) ≡ m = cc in ap (λ x. x.0) pair

pub met_level : (links : List RawLink) (m : ℕ × List ℕ) → meeting links ≡ Some m → m.0 < length links
met_level links m e =
    let f = first_found (meets_at links) 0 (length links) m e in
    let n = met_number (set_at links (length links)) (set_at links f.0) f.0 m f.2 in
    omega (arith, f.1, n)
