-- Tiles that meet a colour on a side.
use Rattle.std.proofs.Common.{arith, ◌≡◌, ℕ, ◌+◌, ◌/◌, ◌%◌, ◌<◌, ◌≤◌, Bool, true, false, ◌&&◌, nat_eq, nat_lt, List, [], cond, length, get_or, replicate, inl, inr, refl, sym, ap, ◌∙◌}
use Rattle.std.specs.Prelude.{slice_set}
use Rattle.std.proofs.lemmas.Bool.{cases_lt, cases_eq, lt-ltb, eq-eqb}
use Rattle.std.proofs.lemmas.Bool.Decides.{nat_tests}
use Rattle.std.proofs.lemmas.List.{get_or-set_same, get_or-set_other, get_or-replicate, get_or_past, length-replicate}
use Rattle.wt_tile.specs.declared.tile.Tile.{Tile}
use Rattle.wt_tile.specs.Matching.{matches, tile_at}
use Rattle.wt_lane.specs.Masks.{mask_bit}
use Rattle.wt_lane.proofs.Bits.{no_bit}
use Rattle.wt_grid.specs.declared.limits.TheConstants.{MAX_COLOURS}
use Rattle.wt_mask.specs.declared.sides.Way.{Way}
use Rattle.wt_mask.specs.declared.sides.Way.TheVariants.{Right, Left, Up, Down}
use Rattle.wt_mask.specs.Masks.{bit, mask_at, may_stand, edge, turned, IsMet}

-- a test on the numbers below n + 1: that of n stands beside those below n
below_more : (u n : ℕ) → (u ≡ n → ⊥) → nat_lt u (n + 1) ≡ nat_lt u n
below_more u n other = grind (arith, nat_tests, other)

unequal : (a b : ℕ) → (a ≡ b → ⊥) → nat_eq a b ≡ false
unequal a b n = grind (arith, nat_tests, n)

off : (x b : Bool) → b ≡ false → bit (x && b) ≡ 0
off true b e = rw e refl
off false b e = refl

-- masks that nothing was added to
pub blank_bit : (n a u : ℕ) → a < n → mask_bit (mask_at (replicate n (replicate 4 0)) a) u ≡ 0
blank_bit n a u lt =
    let here : mask_at (replicate n (replicate 4 0)) a ≡ replicate 4 0 = get_or-replicate n a (replicate 4 0) [] lt in
    let word : get_or (replicate {A = ℕ} 4 0) (u / 64) 0 ≡ 0 = elim (cases_lt (u / 64) 4) [
      | inl low ↦ get_or-replicate 4 (u / 64) 0 0 low
      | inr high ↦ get_or_past (replicate {A = ℕ} 4 0) (u / 64) 0 (omega (arith, length-replicate {A = ℕ} 4 0))
    ] in
    ap (λ (k : List ℕ). mask_bit k u) here ∙ no_bit (get_or (replicate {A = ℕ} 4 0) (u / 64) 0) (u % 64) word

-- where there is no bit, none of the first 0 tiles is missed
pub met_none : (ts : List Tile) (way : Way) (colour : ℕ) → colour < MAX_COLOURS → IsMet ts way 0 colour (mask_at (replicate MAX_COLOURS (replicate 4 0)) colour)
met_none ts way colour lt u =
    let none : nat_lt u 0 ≡ false = grind (arith, nat_tests) in
    blank_bit MAX_COLOURS colour u lt ∙ sym (ap (λ (b : Bool). bit (b && nat_eq colour (turned way (tile_at ts u)))) none)

module _ (ts : List Tile) (way : Way) (n : ℕ) where
  -- the mask of the tile's colour has one bit more
  hit : (old new : List ℕ) (colour : ℕ) → colour ≡ turned way (tile_at ts n) → ((k : ℕ) → mask_bit new k ≡ cond (nat_eq k n) 1 (mask_bit old k))
      → IsMet ts way n colour old → IsMet ts way (n + 1) colour new
  hit old new colour e set met u = elim (cases_eq u n) [
    | inl same ↦
        let t : nat_eq u n ≡ true = eq-eqb u n same in
        let low : nat_lt u (n + 1) ≡ true = lt-ltb u (n + 1) (omega arith) in
        let c : nat_eq colour (turned way (tile_at ts u)) ≡ true = eq-eqb colour (turned way (tile_at ts u)) (e ∙ ap (λ (k : ℕ). turned way (tile_at ts k)) (sym same)) in
        set u ∙ ap (λ (b : Bool). cond b 1 (mask_bit old u)) t ∙ sym (ap (λ (b : Bool). bit (b && nat_eq colour (turned way (tile_at ts u)))) low ∙ ap bit c)
    | inr other ↦
        set u ∙ ap (λ (b : Bool). cond b 1 (mask_bit old u)) (unequal u n other) ∙ met u ∙ sym (ap (λ (b : Bool). bit (b && nat_eq colour (turned way (tile_at ts u)))) (below_more u n other))
  ]

  -- the mask of another colour has none more
  missed : (mask : List ℕ) (colour : ℕ) → (colour ≡ turned way (tile_at ts n) → ⊥) → IsMet ts way n colour mask → IsMet ts way (n + 1) colour mask
  missed mask colour apart met u = elim (cases_eq u n) [
    | inl same ↦
        let f : nat_eq colour (turned way (tile_at ts u)) ≡ false = unequal colour (turned way (tile_at ts u)) (λ e. apart (e ∙ ap (λ (k : ℕ). turned way (tile_at ts k)) same)) in
        met u ∙ off (nat_lt u n) (nat_eq colour (turned way (tile_at ts u))) f ∙ sym (off (nat_lt u (n + 1)) (nat_eq colour (turned way (tile_at ts u))) f)
    | inr other ↦ met u ∙ sym (ap (λ (b : Bool). bit (b && nat_eq colour (turned way (tile_at ts u)))) (below_more u n other))
  ]

  pub met_more : (rows : List (List ℕ)) (mask : List ℕ) (at : ℕ) → at ≡ turned way (tile_at ts n) → at < length rows
      → ((k : ℕ) → mask_bit mask k ≡ cond (nat_eq k n) 1 (mask_bit (mask_at rows at) k))
      → ((colour : ℕ) → colour < MAX_COLOURS → IsMet ts way n colour (mask_at rows colour))
      → (colour : ℕ) → colour < MAX_COLOURS → IsMet ts way (n + 1) colour (mask_at (slice_set rows at mask) colour)
  met_more rows mask at e lt set met colour low = elim (cases_eq colour at) [
    | inl same ↦
        let here : mask_at (slice_set rows at mask) colour ≡ mask = ap (mask_at (slice_set rows at mask)) same ∙ get_or-set_same rows at mask [] lt in
        let m : IsMet ts way (n + 1) colour mask = hit (mask_at rows at) mask colour (same ∙ e) set (rw (← same) (met colour low)) in
        λ u. ap (λ (k : List ℕ). mask_bit k u) here ∙ m u
    | inr other ↦
        let there : mask_at (slice_set rows at mask) colour ≡ mask_at rows colour = get_or-set_other rows at colour mask [] other in
        let m : IsMet ts way (n + 1) colour (mask_at rows colour) = missed (mask_at rows colour) colour (λ c. other (c ∙ sym e)) (met colour low) in
        λ u. ap (λ (k : List ℕ). mask_bit k u) there ∙ m u
  ]

  pub met_past : (rows : List (List ℕ)) (at : ℕ) → at ≡ turned way (tile_at ts n) → MAX_COLOURS ≤ at
      → ((colour : ℕ) → colour < MAX_COLOURS → IsMet ts way n colour (mask_at rows colour))
      → (colour : ℕ) → colour < MAX_COLOURS → IsMet ts way (n + 1) colour (mask_at rows colour)
  met_past rows at e le met colour low = missed (mask_at rows colour) colour (λ c. absurd (omega (arith, e, c))) (met colour low)

turn : (a b : ℕ) → nat_eq a b ≡ nat_eq b a
turn a b = grind (arith, nat_tests)

-- a tile meets the colour of a tile's edge exactly where it may stand there
pub met_stands : (ts : List Tile) (way : Way) (t u : ℕ) → nat_eq (edge way (tile_at ts t)) (turned way (tile_at ts u)) ≡ may_stand ts way t u
unfolding matches
met_stands ts Right t u = refl
met_stands ts Left t u = turn (tile_at ts t).west (tile_at ts u).east
met_stands ts Up t u = refl
met_stands ts Down t u = turn (tile_at ts t).south (tile_at ts u).north
