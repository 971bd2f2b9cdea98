-- The demanded images: each is right, each comes once, and none is missing.
use Rattle.std.proofs.Common.{arith, ◌≡◌, ℕ, ◌<◌, Bool, true, false, nat_lt, List, [], ◌∷◌, refl, inl, inr}
use Rattle.std.proofs.lemmas.Bool.{or_cases}
use Rattle.std.specs.List.{list_any}
use Rattle.wt_grid.specs.declared.image.Image.TheVariants.{One as Single, Two as Double}
use Rattle.wt_grid.specs.declared.image.Image.{Image}
use Rattle.wt_grid.specs.declared.axis.Side.{Side}
use Rattle.std.proofs.lemmas.Bool.Decides.{nat_tests}
use Rattle.wt_grid.specs.Pairs.{pair_before, pairs_follow, is_this_pair}
use Rattle.wt_step.specs.Words.{joined, same_image}
use Rattle.wt_marker.specs.Gather.{gather, only_if, pairs_of}
use Rattle.wt_marker.specs.Demanded.{is_single, single_at, doubles, demanded}
use Rattle.wt_marker.proofs.Listed.{Each, Sorted, each_gather, each_only, each_of, each_append, has_gather, has_only, has_left, has_right, sorted_gather, sorted_only, sorted_append}
use Rattle.wt_marker.proofs.Pairs.{Listed, each_listed, pairs_sorted, is_pair_same, own_pair}

-- single tiles by their number, then pairs by the first and the second
abbrev pub image_before : Image → Image → Bool
image_before (Single a) (Single b) = nat_lt a b
image_before (Single a) (Double c d) = true
image_before (Double a b) (Single c) = false
image_before (Double a b) (Double c d) = pair_before c d (a, b)

pub image_apart : (x y : Image) → image_before x y ≡ true → same_image y x ≡ false
image_apart (Single a) (Single b) e = grind (arith, nat_tests, e)
image_apart (Single a) (Double c d) e = refl
image_apart (Double a b) (Single c) e = refl
image_apart (Double a b) (Double c d) e = grind (arith, nat_tests, e)

module _ (side : Side) (m : ℕ → Bool) where
  pub each_double : (P : Image → Type 0) (Q : ℕ × ℕ → Type 0) (qs : List (ℕ × ℕ)) → ((q : ℕ × ℕ) → Q q → joined side (m q.0) (m q.1) ≡ true → P (Double q.0 q.1)) → Each Q qs → Each P (doubles side m qs)
  each_double P Q [] h e = tt
  each_double P Q (q ∷ qs) h e = each_append P (only_if (joined side (m q.0) (m q.1)) (Double q.0 q.1)) (doubles side m qs)
      (each_only P (joined side (m q.0) (m q.1)) (Double q.0 q.1) (h q e.0)) (each_double P Q qs h e.1)

  pub doubles_sorted : (qs : List (ℕ × ℕ)) → Sorted pairs_follow qs → Sorted image_before (doubles side m qs)
  doubles_sorted [] s = tt
  doubles_sorted (q ∷ qs) s = sorted_append image_before (only_if (joined side (m q.0) (m q.1)) (Double q.0 q.1)) (doubles side m qs)
      (sorted_only image_before (joined side (m q.0) (m q.1)) (Double q.0 q.1)) (doubles_sorted qs s.1)
      (each_only (λ x. Each (λ y. image_before x y ≡ true) (doubles side m qs)) (joined side (m q.0) (m q.1)) (Double q.0 q.1)
      (λ j. each_double (λ y. image_before (Double q.0 q.1) y ≡ true) (λ r. pairs_follow q r ≡ true) qs (λ r e k. e) s.0))

  pub has_double : (a b : ℕ) (qs : List (ℕ × ℕ)) → joined side (m a) (m b) ≡ true → list_any (is_this_pair a b) qs ≡ true → list_any (same_image (Double a b)) (doubles side m qs) ≡ true
  has_double a b [] j e = absurd cc
  has_double a b (q ∷ qs) j e = elim (or_cases (is_this_pair a b q) (list_any (is_this_pair a b) qs) e) [
    | inl t ↦
        let s = is_pair_same a b q t in
        has_left (same_image (Double a b)) (only_if (joined side (m q.0) (m q.1)) (Double q.0 q.1)) (doubles side m qs)
        (has_only (same_image (Double a b)) (joined side (m q.0) (m q.1)) (Double q.0 q.1) (rw (s.0, s.1) j) (rw (s.0, s.1) (own_image a b)))
    | inr t ↦ has_right (same_image (Double a b)) (only_if (joined side (m q.0) (m q.1)) (Double q.0 q.1)) (doubles side m qs) (has_double a b qs j t)
  ]
    where
      own_image : (a b : ℕ) → same_image (Double a b) (Double a b) ≡ true
      own_image a b = own_pair a b

module _ (side : Side) (f : ℕ → ℕ → Bool) (m : ℕ → Bool) (n : ℕ) where
  pub singles_sorted : Sorted image_before (gather (single_at side f m n) 0 n)
  singles_sorted = sorted_gather image_before (single_at side f m n) 0 n (λ u. sorted_only image_before (is_single side f m n u) (Single u))
      (λ k l lt. each_only (λ x. Each (λ y. image_before x y ≡ true) (single_at side f m n l)) (is_single side f m n k) (Single k)
      (λ e. each_only (λ y. image_before (Single k) y ≡ true) (is_single side f m n l) (Single l) (λ g. grind (arith, nat_tests, lt))))

  pub each_single : (P : Image → Type 0) → ((u : ℕ) → u < n → is_single side f m n u ≡ true → P (Single u)) → Each P (gather (single_at side f m n) 0 n)
  each_single P h = each_gather P (single_at side f m n) 0 n (λ u lo hi. each_only P (is_single side f m n u) (Single u) (λ e. h u (omega arith) e))

  pub demanded_sorted : Sorted image_before (demanded side f (pairs_of f n) m n)
  demanded_sorted = sorted_append image_before (gather (single_at side f m n) 0 n) (doubles side m (pairs_of f n)) singles_sorted (doubles_sorted side m (pairs_of f n) (pairs_sorted f n))
      (each_single (λ x. Each (λ y. image_before x y ≡ true) (doubles side m (pairs_of f n)))
      (λ u lt e. each_double side m (λ y. image_before (Single u) y ≡ true) (λ q. Unit {0}) (pairs_of f n) (λ q t j. refl) (each_of (λ q. Unit {0}) (pairs_of f n) (λ q. tt))))

  pub each_demanded : (P : Image → Type 0) → ((u : ℕ) → u < n → is_single side f m n u ≡ true → P (Single u))
      → ((a b : ℕ) → a < n → b < n → f a b ≡ true → joined side (m a) (m b) ≡ true → P (Double a b)) → Each P (demanded side f (pairs_of f n) m n)
  each_demanded P h k = each_append P (gather (single_at side f m n) 0 n) (doubles side m (pairs_of f n)) (each_single P h)
      (each_double side m P (Listed f n) (pairs_of f n) (λ q l j. k q.0 q.1 l.first l.second l.passes j) (each_listed f n))

  pub has_single : (u : ℕ) → u < n → is_single side f m n u ≡ true → list_any (same_image (Single u)) (demanded side f (pairs_of f n) m n) ≡ true
  has_single u lt e = has_left (same_image (Single u)) (gather (single_at side f m n) 0 n) (doubles side m (pairs_of f n))
      (has_gather (same_image (Single u)) (single_at side f m n) 0 n u (omega arith) (omega arith)
      (has_only (same_image (Single u)) (is_single side f m n u) (Single u) e (grind (arith, nat_tests))))
