-- Lists gathered number by number.
use Rattle.std.proofs.Common.{arith, ◌≡◌, ◌<◌, ◌+◌, ◌++◌, ℕ, zero, suc, List, [], ◌∷◌, length, append_assoc, Bool, true, false, ◌&&◌, nat_eq, refl, sym, ◌∙◌, ap}
use Rattle.wt_grid.specs.declared.axis.Axis.TheVariants.{One, Two}
use Rattle.wt_tile.specs.declared.tile.Tile.{Tile}
use Rattle.wt_tile.specs.Matching.{matches}
use Rattle.wt_step.specs.declared.raw.RawLink.{RawLink}
use Rattle.wt_chain.specs.Sets.{first_count}
use Rattle.wt_check.specs.declared.fixed.Tables.{Tables}
use Rattle.wt_check.specs.Corners.{AreCorners}
use Rattle.wt_check.specs.Seeds.{gather, when, Corners, is_fixed, seed, seeds_above, seeds_beside, seeds_from, all_seeds, told, power_corners, loop_tiles, loop_seeds}

pub gathered_none : {A : Type 0} (xs : List A) (f : ℕ → List A) → xs ≡ xs ++ gather 0 f
unfolding gather
gathered_none [] f = refl
gathered_none (x ∷ xs) f = ap (λ (ys : List _). x ∷ ys) (gathered_none xs f)

pub gathered_more : {A : Type 0} (out now new : List A) (n : ℕ) (f : ℕ → List A) → now ≡ out ++ gather n f → new ≡ now ++ f n → new ≡ out ++ gather (n + 1) f
unfolding gather
gathered_more out now new n f e m = let s : n + 1 ≡ suc n = omega arith in m ∙ (ap (λ (xs : List _). xs ++ f n) e ∙ rw s (append_assoc out (gather n f) (f n)))

gather_same : {A : Type 0} (n : ℕ) (f g : ℕ → List A) → ((k : ℕ) → k < n → f k ≡ g k) → gather n f ≡ gather n g
unfolding gather
gather_same zero f g h = refl
gather_same (suc n) f g h = rw (h n (omega arith), gather_same n f g (λ k lt. h k (omega arith))) refl

pub record SameCorners (n : ℕ) (k l : Corners) : Type 0 where
  pub upper_right : (t : ℕ) → t < n → k.upper_right t ≡ l.upper_right t
  pub upper_left : (t : ℕ) → t < n → k.upper_left t ≡ l.upper_left t
  pub lower_right : (t : ℕ) → t < n → k.lower_right t ≡ l.lower_right t
  pub lower_left : (t : ℕ) → t < n → k.lower_left t ≡ l.lower_left t

-- corners that agree on the tiles of a set have the same seeds
pub seeds_same : (ts : List Tile) (k l : Corners) → SameCorners (length ts) k l → all_seeds ts k ≡ all_seeds ts l
seeds_same ts k l same =
    gather_same (length ts) (seeds_from ts k) (seeds_from ts l) (λ a la. rw (same.upper_right a la) (ap (when (is_fixed l.upper_right a))
    (gather_same (length ts) (seeds_beside ts k a) (seeds_beside ts l a) (λ b lb. rw (same.upper_left b lb) (ap (when (is_fixed l.upper_left b && matches ts One a b))
    (gather_same (length ts) (seeds_above ts k a b) (seeds_above ts l a b) (λ c lc. rw (same.lower_right c lc) (ap (when (is_fixed l.lower_right c && matches ts Two a c))
    (gather_same (length ts) (seed ts k a b c) (seed ts l a b c) (λ d ld. rw (same.lower_left d ld) refl))))))))))

-- ---- corners of powers

pub tiles_counted : (loop : List RawLink) → length (loop_tiles loop) ≡ first_count loop
tiles_counted [] = refl
tiles_counted (link ∷ links) = refl

pub corners_seeds : (loop : List RawLink) (renaming : List ℕ) (power : ℕ) (t : Tables)
    → AreCorners (record { right = true; upper = true }) loop renaming power t.upper_right
    → AreCorners (record { right = false; upper = true }) loop renaming power t.upper_left
    → AreCorners (record { right = true; upper = false }) loop renaming power t.lower_right
    → AreCorners (record { right = false; upper = false }) loop renaming power t.lower_left
    → all_seeds (loop_tiles loop) (told t) ≡ loop_seeds loop renaming power
corners_seeds loop renaming power t a b c d =
    let n = tiles_counted loop in
    seeds_same (loop_tiles loop) (told t) (power_corners loop renaming power) (record {
      upper_right = λ k lt. a k (omega (arith, n, lt));
      upper_left = λ k lt. b k (omega (arith, n, lt));
      lower_right = λ k lt. c k (omega (arith, n, lt));
      lower_left = λ k lt. d k (omega (arith, n, lt));
    })

pub no_seeds : (loop : List RawLink) (renaming : List ℕ) (power : ℕ) → length loop < 1 → [] ≡ loop_seeds loop renaming power
unfolding gather
no_seeds [] renaming power lt = refl
no_seeds (link ∷ links) renaming power lt = absurd (omega arith)
