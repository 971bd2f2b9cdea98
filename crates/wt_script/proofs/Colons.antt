-- A token cut at its first colon.
use Rattle.std.proofs.Common.{arith, ◌≡◌, ◌≢◌, ℕ, suc, ◌+◌, ◌<◌, true, false, nat_eq, List, [], ◌∷◌, ◌++◌, length, None, Some, refl, ap, ◌∙◌}
use Rattle.std.specs.Prelude.{All}
use Rattle.std.proofs.lemmas.Bool.Decides.{nat_tests}
use Rattle.wt_script.specs.Tokens.{at_colon}

other_test : (b c : ℕ) → b ≢ c → nat_eq b c ≡ false
other_test b c n = grind (arith, nat_tests)

front_free : (b : ℕ) (t : List ℕ) → All (λ x. x ≢ 58) (b ∷ t) → nat_eq b 58 ≡ false
front_free b t h = other_test b 58 (h 0 0 (omega arith))

rest_free : (b : ℕ) (t : List ℕ) → All (λ x. x ≢ 58) (b ∷ t) → All (λ x. x ≢ 58) t
rest_free b t h = λ k d lt. h (suc k) d (omega arith)

cut_there : (a d : List ℕ) → All (λ x. x ≢ 58) a → at_colon (a ++ 58 ∷ d) ≡ Some (a, d)
cut_there [] d h = refl
cut_there (b ∷ a) d h = rw (front_free b a h, cut_there a d (rest_free b a h)) refl

pub first_colon : (t a d : List ℕ) → t ≡ a ++ 58 ∷ d → All (λ x. x ≢ 58) a → at_colon t ≡ Some (a, d)
first_colon t a d e h = ap at_colon e ∙ cut_there a d h

pub no_colon : (t : List ℕ) → All (λ x. x ≢ 58) t → at_colon t ≡ None
no_colon [] h = refl
no_colon (b ∷ t) h = rw (front_free b t h, no_colon t (rest_free b t h)) refl
