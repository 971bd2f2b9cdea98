-- The seeds of a loop are its fixed 2 by 2 patterns.
use Rattle.std.proofs.Common.{arith, ◌≡◌, ◌<◌, ◌+◌, ◌++◌, ◌↔◌, ℕ, zero, suc, List, [], ◌∷◌, length, Bool, true, false, ◌&&◌, nat_eq, inl, inr, refl, sym, ◌∙◌, ap, subst}
use Rattle.std.specs.List.{Contains}
use Rattle.std.proofs.lemmas.List.Elements.{Contains-append_left, Contains-append_right, Contains-append_cases, Contains-push, Contains-push_cases}
use Rattle.std.proofs.lemmas.Bool.{and_parts, and_from, cases_lt}
use Rattle.std.proofs.lemmas.Bool.Decides.{nat_tests}
use Rattle.wt_grid.specs.declared.axis.Axis.TheVariants.{One, Two}
use Rattle.wt_grid.specs.declared.axis.Axis.{Axis}
use Rattle.wt_grid.specs.Grid.{Grid, IsGrid, cell, along, across, at}
use Rattle.wt_grid.specs.Parts.{AllBelow, IsValid}
use Rattle.wt_tile.specs.declared.tile.Tile.{Tile}
use Rattle.wt_tile.specs.Matching.{matches}
use Rattle.wt_step.specs.declared.raw.RawLink.{RawLink}
use Rattle.wt_check.specs.Seeds.{gather, when, Corners, is_fixed, seed, seeds_above, seeds_beside, seeds_from, all_seeds, power_corners, loop_tiles, loop_seeds, square, IsFixedSquare}

pub none : {A : Type 0} (x : A) → Contains [] x → ⊥
none x h = let lt = h.1 in absurd (omega arith)

pub only : {A : Type 0} (y x : A) → Contains (y ∷ []) x → y ≡ x
only y x h = elim (Contains-push_cases [] y x h) [
  | inl l ↦ absurd (none x l)
  | inr e ↦ e
]

in_gather : {A : Type 0} (n : ℕ) (f : ℕ → List A) (x : A) (k : ℕ) → k < n → Contains (f k) x → Contains (gather n f) x
unfolding gather
in_gather zero f x k lt h = absurd (omega arith)
in_gather (suc n) f x k lt h = elim (cases_lt k n) [
  | inl lo ↦ Contains-append_left (gather n f) (f n) x (in_gather n f x k lo h)
  | inr hi ↦ Contains-append_right (gather n f) (f n) x (let same : k ≡ n = omega arith in subst (λ (m : ℕ). Contains (f m) x) same h)
]

pub of_gather : {A : Type 0} (n : ℕ) (f : ℕ → List A) (x : A) → Contains (gather n f) x → (k : ℕ) × (k < n) × Contains (f k) x
unfolding gather
of_gather zero f x h = absurd (none x h)
of_gather (suc n) f x h = elim (Contains-append_cases (gather n f) (f n) x h) [
  | inl l ↦ let r = of_gather n f x l in let lt = r.1 in (r.0, omega arith, r.2)
  | inr r ↦ (n, omega arith, r)
]

in_when : {A : Type 0} (b : Bool) (xs : List A) (x : A) → b ≡ true → Contains xs x → Contains (when b xs) x
in_when true xs x e h = h
in_when false xs x e h = absurd (cc e)

pub of_when : {A : Type 0} (b : Bool) (xs : List A) (x : A) → Contains (when b xs) x → (b ≡ true) × Contains xs x
of_when true xs x h = (refl, h)
of_when false xs x h = absurd (none x h)

-- four tiles that stand as a seed does
record IsTold (ts : List Tile) (k : Corners) (a b c d : ℕ) : Type 0 where
  below_a : a < length ts
  below_b : b < length ts
  below_c : c < length ts
  below_d : d < length ts
  fixed_a : is_fixed k.upper_right a ≡ true
  fixed_b : is_fixed k.upper_left b ≡ true
  fixed_c : is_fixed k.lower_right c ≡ true
  fixed_d : is_fixed k.lower_left d ≡ true
  lower : matches ts One a b ≡ true
  left : matches ts Two a c ≡ true
  upper : matches ts One c d ≡ true
  right : matches ts Two b d ≡ true

of_seeds : (ts : List Tile) (k : Corners) (s : List ℕ) → Contains (all_seeds ts k) s
    → (a : ℕ) × (b : ℕ) × (c : ℕ) × (d : ℕ) × (s ≡ a ∷ b ∷ c ∷ d ∷ []) × IsTold ts k a b c d
of_seeds ts k s h =
    let x = of_gather (length ts) (seeds_from ts k) s h in
    let a = x.0 in
    let wa = of_when (is_fixed k.upper_right a) (gather (length ts) (seeds_beside ts k a)) s x.2 in
    let y = of_gather (length ts) (seeds_beside ts k a) s wa.1 in
    let b = y.0 in
    let wb = of_when (is_fixed k.upper_left b && matches ts One a b) (gather (length ts) (seeds_above ts k a b)) s y.2 in
    let z = of_gather (length ts) (seeds_above ts k a b) s wb.1 in
    let c = z.0 in
    let wc = of_when (is_fixed k.lower_right c && matches ts Two a c) (gather (length ts) (seed ts k a b c)) s z.2 in
    let w = of_gather (length ts) (seed ts k a b c) s wc.1 in
    let d = w.0 in
    let wd = of_when (is_fixed k.lower_left d && (matches ts One c d && matches ts Two b d)) ((a ∷ b ∷ c ∷ d ∷ []) ∷ []) s w.2 in
    let pb = and_parts (is_fixed k.upper_left b) (matches ts One a b) wb.0 in
    let pc = and_parts (is_fixed k.lower_right c) (matches ts Two a c) wc.0 in
    let pd = and_parts (is_fixed k.lower_left d) (matches ts One c d && matches ts Two b d) wd.0 in
    let pm = and_parts (matches ts One c d) (matches ts Two b d) pd.1 in (
      a,
      b,
      c,
      d,
      sym (only (a ∷ b ∷ c ∷ d ∷ []) s wd.1),
      record {
        below_a = x.1;
        below_b = y.1;
        below_c = z.1;
        below_d = w.1;
        fixed_a = wa.0;
        fixed_b = pb.0;
        fixed_c = pc.0;
        fixed_d = pd.0;
        lower = pb.1;
        left = pc.1;
        upper = pm.0;
        right = pm.1;
      },
    )

in_seeds : (ts : List Tile) (k : Corners) (a b c d : ℕ) → IsTold ts k a b c d → Contains (all_seeds ts k) (a ∷ b ∷ c ∷ d ∷ [])
in_seeds ts k a b c d t =
    let s : List ℕ = a ∷ b ∷ c ∷ d ∷ [] in
    let wd = in_when (is_fixed k.lower_left d && (matches ts One c d && matches ts Two b d)) (s ∷ []) s
    (and_from (is_fixed k.lower_left d) (matches ts One c d && matches ts Two b d) t.fixed_d (and_from (matches ts One c d) (matches ts Two b d) t.upper t.right))
    (Contains-push [] s) in
    let wc = in_when (is_fixed k.lower_right c && matches ts Two a c) (gather (length ts) (seed ts k a b c)) s
    (and_from (is_fixed k.lower_right c) (matches ts Two a c) t.fixed_c t.left) (in_gather (length ts) (seed ts k a b c) s d t.below_d wd) in
    let wb = in_when (is_fixed k.upper_left b && matches ts One a b) (gather (length ts) (seeds_above ts k a b)) s
    (and_from (is_fixed k.upper_left b) (matches ts One a b) t.fixed_b t.lower) (in_gather (length ts) (seeds_above ts k a b) s c t.below_c wc) in
    let wa = in_when (is_fixed k.upper_right a) (gather (length ts) (seeds_beside ts k a)) s
    t.fixed_a (in_gather (length ts) (seeds_beside ts k a) s b t.below_b wb) in
    in_gather (length ts) (seeds_from ts k) s a t.below_a wa

same_four : (ts : List Tile) (k : Corners) (a b c d e f g h : ℕ) → Path (List ℕ) (a ∷ b ∷ c ∷ d ∷ []) (e ∷ f ∷ g ∷ h ∷ []) → IsTold ts k e f g h → IsTold ts k a b c d
same_four ts k a b c d e f g h same t =
    let p : a ≡ e = cc in
    let q : b ≡ f = cc in
    let r : c ≡ g = cc in
    let s : d ≡ h = cc in
    rw (p, q, r, s) t

equal_fixed : (f : ℕ → ℕ) (t : ℕ) → is_fixed f t ≡ true → f t ≡ t
equal_fixed f t e = grind (arith, nat_tests, e)

fixed_equal : (f : ℕ → ℕ) (t : ℕ) → f t ≡ t → is_fixed f t ≡ true
fixed_equal f t e = grind (arith, nat_tests, e)

square_grid : (a b c d : ℕ) → IsGrid (square a b c d)
square_grid a b c d = record { wide = omega arith; high = omega arith; whole = refl }

square_below : (n a b c d : ℕ) → a < n → b < n → c < n → d < n → AllBelow n (square a b c d)
square_below n a b c d la lb lc ld zero zero lx ly = la
square_below n a b c d la lb lc ld (suc zero) zero lx ly = lb
square_below n a b c d la lb lc ld zero (suc zero) lx ly = lc
square_below n a b c d la lb lc ld (suc zero) (suc zero) lx ly = ld
square_below n a b c d la lb lc ld (suc (suc x)) y lx ly = absurd (omega arith)
square_below n a b c d la lb lc ld zero (suc (suc y)) lx ly = absurd (omega arith)
square_below n a b c d la lb lc ld (suc zero) (suc (suc y)) lx ly = absurd (omega arith)

square_valid : (ts : List Tile) (a b c d : ℕ) → matches ts One a b ≡ true → matches ts Two a c ≡ true → matches ts One c d ≡ true → matches ts Two b d ≡ true → IsValid (matches ts) (square a b c d)
square_valid ts a b c d lower left upper right One zero zero li lj = lower
square_valid ts a b c d lower left upper right One zero (suc zero) li lj = upper
square_valid ts a b c d lower left upper right One zero (suc (suc j)) li lj = absurd (omega arith)
square_valid ts a b c d lower left upper right One (suc i) j li lj = absurd (omega arith)
square_valid ts a b c d lower left upper right Two zero zero li lj = left
square_valid ts a b c d lower left upper right Two zero (suc zero) li lj = right
square_valid ts a b c d lower left upper right Two zero (suc (suc j)) li lj = absurd (omega arith)
square_valid ts a b c d lower left upper right Two (suc i) j li lj = absurd (omega arith)

module _ (loop : List RawLink) (renaming : List ℕ) (q : ℕ) where
  abbrev tiles : List Tile
  tiles = loop_tiles loop

  abbrev corners : Corners
  corners = power_corners loop renaming q

  told_square : (a b c d : ℕ) → IsTold tiles corners a b c d → IsFixedSquare loop renaming q a b c d
  told_square a b c d t = record {
    pattern = (
      square_grid a b c d,
      square_below (length tiles) a b c d t.below_a t.below_b t.below_c t.below_d,
      square_valid tiles a b c d t.lower t.left t.upper t.right,
    );
    lower_left = equal_fixed corners.upper_right a t.fixed_a;
    lower_right = equal_fixed corners.upper_left b t.fixed_b;
    upper_left = equal_fixed corners.lower_right c t.fixed_c;
    upper_right = equal_fixed corners.lower_left d t.fixed_d;
  }

  square_told : (a b c d : ℕ) → IsFixedSquare loop renaming q a b c d → IsTold tiles corners a b c d
  square_told a b c d f =
      let below = f.pattern.1 in
      let valid = f.pattern.2 in
      let o : 0 < 2 = omega arith in
      let l : 1 < 2 = omega arith in
      record {
        below_a = below 0 0 o o;
        below_b = below 1 0 l o;
        below_c = below 0 1 o l;
        below_d = below 1 1 l l;
        fixed_a = fixed_equal corners.upper_right a f.lower_left;
        fixed_b = fixed_equal corners.upper_left b f.lower_right;
        fixed_c = fixed_equal corners.lower_right c f.upper_left;
        fixed_d = fixed_equal corners.lower_left d f.upper_right;
        lower = valid One 0 0 l o;
        left = valid Two 0 0 l o;
        upper = valid One 0 1 l l;
        right = valid Two 0 1 l l;
      }

  pub fixed_squares : (a b c d : ℕ) → Contains (loop_seeds loop renaming q) (a ∷ b ∷ c ∷ d ∷ []) ↔ IsFixedSquare loop renaming q a b c d
  fixed_squares a b c d = (there, back)
    where
      there : Contains (loop_seeds loop renaming q) (a ∷ b ∷ c ∷ d ∷ []) → IsFixedSquare loop renaming q a b c d
      there h =
          let r = of_seeds tiles corners (a ∷ b ∷ c ∷ d ∷ []) h in
          told_square a b c d (same_four tiles corners a b c d r.0 r.1 r.2 r.3 r.4 r.5)

      back : IsFixedSquare loop renaming q a b c d → Contains (loop_seeds loop renaming q) (a ∷ b ∷ c ∷ d ∷ [])
      back f = in_seeds tiles corners a b c d (square_told a b c d f)

  pub four_tiles : (s : List ℕ) → Contains (loop_seeds loop renaming q) s → (a : ℕ) × (b : ℕ) × (c : ℕ) × (d : ℕ) × (s ≡ a ∷ b ∷ c ∷ d ∷ [])
  four_tiles s h = let r = of_seeds tiles corners s h in (r.0, r.1, r.2, r.3, r.4)
