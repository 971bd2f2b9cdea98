-- The seeds of a loop are listed in strict order.
use Rattle.std.proofs.Common.{arith, ◌≡◌, ◌<◌, ◌++◌, ℕ, zero, suc, List, [], ◌∷◌, length, Bool, true, false, ◌&&◌, inl, inr, refl}
use Rattle.std.specs.List.{Contains}
use Rattle.std.proofs.lemmas.List.Elements.{Contains-append_left, Contains-append_right, Contains-append_cases, Contains-push}
use Rattle.wt_grid.specs.Order.{IsBefore}
use Rattle.wt_grid.specs.declared.axis.Axis.TheVariants.{One, Two}
use Rattle.wt_tile.specs.declared.tile.Tile.{Tile}
use Rattle.wt_tile.specs.Matching.{matches}
use Rattle.wt_check.specs.Seeds.{gather, when, Corners, is_fixed, seed, seeds_above, seeds_beside, seeds_from, all_seeds, IsAscending}
use Rattle.wt_check.proofs.FixedSquares.{none, only, of_gather, of_when}

-- ---- lists put together

append_ascends : (xs ys : List (List ℕ)) → IsAscending xs → IsAscending ys → ((x y : List ℕ) → Contains xs x → Contains ys y → IsBefore x y) → IsAscending (xs ++ ys)
append_ascends [] ys a b h = b
append_ascends (x ∷ xs) ys a b h = (
  λ y c. elim (Contains-append_cases xs ys y c) [
    | inl l ↦ a.0 y l
    | inr r ↦ h x y (Contains-append_left (x ∷ []) xs x (Contains-push [] x)) r
  ],
  append_ascends xs ys a.1 b (λ p q cp cq. h p q (Contains-append_right (x ∷ []) xs p cp) cq),
)

gather_ascends : (n : ℕ) (f : ℕ → List (List ℕ)) → ((k : ℕ) → IsAscending (f k)) → ((i j : ℕ) (x y : List ℕ) → i < j → Contains (f i) x → Contains (f j) y → IsBefore x y) → IsAscending (gather n f)
unfolding gather
gather_ascends zero f each apart = tt
gather_ascends (suc n) f each apart = append_ascends (gather n f) (f n) (gather_ascends n f each apart) (each n) (λ x y cx cy.
    let r = of_gather n f x cx in
    apart r.0 n x y r.1 r.2 cy)

when_ascends : (b : Bool) (xs : List (List ℕ)) → IsAscending xs → IsAscending (when b xs)
when_ascends true xs a = a
when_ascends false xs a = tt

one_ascends : (x : List ℕ) → IsAscending (x ∷ [])
one_ascends x = (λ y c. absurd (none y c), tt)

-- ---- four tiles that differ first at the first, second, third or fourth

by_fourth : (a b c d h : ℕ) (x y : List ℕ) → d < h → a ∷ b ∷ c ∷ d ∷ [] ≡ x → a ∷ b ∷ c ∷ h ∷ [] ≡ y → IsBefore x y
by_fourth a b c d h x y lt p q = rw (← p) (rw (← q) (3, refl, lt))

by_third : (a b c d g h : ℕ) (x y : List ℕ) → c < g → a ∷ b ∷ c ∷ d ∷ [] ≡ x → a ∷ b ∷ g ∷ h ∷ [] ≡ y → IsBefore x y
by_third a b c d g h x y lt p q = rw (← p) (rw (← q) (2, refl, lt))

by_second : (a b c d f g h : ℕ) (x y : List ℕ) → b < f → a ∷ b ∷ c ∷ d ∷ [] ≡ x → a ∷ f ∷ g ∷ h ∷ [] ≡ y → IsBefore x y
by_second a b c d f g h x y lt p q = rw (← p) (rw (← q) (1, refl, lt))

by_first : (a b c d e f g h : ℕ) (x y : List ℕ) → a < e → a ∷ b ∷ c ∷ d ∷ [] ≡ x → e ∷ f ∷ g ∷ h ∷ [] ≡ y → IsBefore x y
by_first a b c d e f g h x y lt p q = rw (← p) (rw (← q) (0, refl, lt))

-- ---- what the seeds of each loop in another begin with

module _ (ts : List Tile) (k : Corners) where
  of_last : (a b c d : ℕ) (s : List ℕ) → Contains (seed ts k a b c d) s → a ∷ b ∷ c ∷ d ∷ [] ≡ s
  of_last a b c d s h =
      let w = of_when (is_fixed k.lower_left d && (matches ts One c d && matches ts Two b d)) ((a ∷ b ∷ c ∷ d ∷ []) ∷ []) s h in
      only (a ∷ b ∷ c ∷ d ∷ []) s w.1

  of_above : (a b c : ℕ) (s : List ℕ) → Contains (seeds_above ts k a b c) s → (d : ℕ) × (a ∷ b ∷ c ∷ d ∷ [] ≡ s)
  of_above a b c s h =
      let w = of_when (is_fixed k.lower_right c && matches ts Two a c) (gather (length ts) (seed ts k a b c)) s h in
      let r = of_gather (length ts) (seed ts k a b c) s w.1 in
      (r.0, of_last a b c r.0 s r.2)

  of_beside : (a b : ℕ) (s : List ℕ) → Contains (seeds_beside ts k a b) s → (c : ℕ) × (d : ℕ) × (a ∷ b ∷ c ∷ d ∷ [] ≡ s)
  of_beside a b s h =
      let w = of_when (is_fixed k.upper_left b && matches ts One a b) (gather (length ts) (seeds_above ts k a b)) s h in
      let r = of_gather (length ts) (seeds_above ts k a b) s w.1 in
      let q = of_above a b r.0 s r.2 in
      (r.0, q.0, q.1)

  of_from : (a : ℕ) (s : List ℕ) → Contains (seeds_from ts k a) s → (b : ℕ) × (c : ℕ) × (d : ℕ) × (a ∷ b ∷ c ∷ d ∷ [] ≡ s)
  of_from a s h =
      let w = of_when (is_fixed k.upper_right a) (gather (length ts) (seeds_beside ts k a)) s h in
      let r = of_gather (length ts) (seeds_beside ts k a) s w.1 in
      let q = of_beside a r.0 s r.2 in
      (r.0, q.0, q.1, q.2)

  last_apart : (a b c i j : ℕ) (x y : List ℕ) → i < j → Contains (seed ts k a b c i) x → Contains (seed ts k a b c j) y → IsBefore x y
  last_apart a b c i j x y lt cx cy = by_fourth a b c i j x y lt (of_last a b c i x cx) (of_last a b c j y cy)

  above_apart : (a b i j : ℕ) (x y : List ℕ) → i < j → Contains (seeds_above ts k a b i) x → Contains (seeds_above ts k a b j) y → IsBefore x y
  above_apart a b i j x y lt cx cy = let p = of_above a b i x cx in let q = of_above a b j y cy in by_third a b i p.0 j q.0 x y lt p.1 q.1

  beside_apart : (a i j : ℕ) (x y : List ℕ) → i < j → Contains (seeds_beside ts k a i) x → Contains (seeds_beside ts k a j) y → IsBefore x y
  beside_apart a i j x y lt cx cy = let p = of_beside a i x cx in let q = of_beside a j y cy in by_second a i p.0 p.1 j q.0 q.1 x y lt p.2 q.2

  from_apart : (i j : ℕ) (x y : List ℕ) → i < j → Contains (seeds_from ts k i) x → Contains (seeds_from ts k j) y → IsBefore x y
  from_apart i j x y lt cx cy = let p = of_from i x cx in let q = of_from j y cy in by_first i p.0 p.1 p.2 j q.0 q.1 q.2 x y lt p.3 q.3

  last_ascends : (a b c d : ℕ) → IsAscending (seed ts k a b c d)
  last_ascends a b c d = when_ascends (is_fixed k.lower_left d && (matches ts One c d && matches ts Two b d)) ((a ∷ b ∷ c ∷ d ∷ []) ∷ []) (one_ascends (a ∷ b ∷ c ∷ d ∷ []))

  above_ascends : (a b c : ℕ) → IsAscending (seeds_above ts k a b c)
  above_ascends a b c = when_ascends (is_fixed k.lower_right c && matches ts Two a c) (gather (length ts) (seed ts k a b c)) (gather_ascends (length ts) (seed ts k a b c) (last_ascends a b c) (last_apart a b c))

  beside_ascends : (a b : ℕ) → IsAscending (seeds_beside ts k a b)
  beside_ascends a b = when_ascends (is_fixed k.upper_left b && matches ts One a b) (gather (length ts) (seeds_above ts k a b)) (gather_ascends (length ts) (seeds_above ts k a b) (above_ascends a b) (above_apart a b))

  from_ascends : (a : ℕ) → IsAscending (seeds_from ts k a)
  from_ascends a = when_ascends (is_fixed k.upper_right a) (gather (length ts) (seeds_beside ts k a)) (gather_ascends (length ts) (seeds_beside ts k a) (beside_ascends a) (beside_apart a))

  pub seeds_ascend : IsAscending (all_seeds ts k)
  seeds_ascend = gather_ascends (length ts) (seeds_from ts k) from_ascends from_apart
