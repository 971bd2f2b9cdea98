-- A token is a number's decimal exactly where it spells the number.
use Rattle.std.proofs.Common.{arith, ◌≡◌, ◌≢◌, ◌<◌, ◌^◌, ◌-◌, ℕ, List, Bool, true, false, Option, Some, None, min, refl, ap, ◌∙◌}
use Rattle.std.specs.Str.{bytes_eq}
use Rattle.std.specs.Fmt.{decimal}
use Rattle.std.proofs.lemmas.Slice.Eq.{bytes_eq-Decides}
use Rattle.wt_text.specs.Words.{number}
use Rattle.wt_text.proofs.Numbers.{number_found, number_again}
use Rattle.wt_line.specs.Given.{held}

held_is : (r : Option ℕ) (n : ℕ) → n < 2 ^ 64 - 1 → held r ≡ Some n → r ≡ Some n
held_is None n lt e = absurd cc
held_is (Some m) n lt e = let same : min m (2 ^ 64 - 1) ≡ n = cc in ap (λ (x : ℕ). Some x) (omega (arith, same, lt))

pub same_number : (token : List ℕ) (n : ℕ) → n < 2 ^ 32 → held (number token) ≡ Some n → bytes_eq token (decimal n) ≡ true
same_number token n lt e = (bytes_eq-Decides token (decimal n)).1 (number_found token n (held_is (number token) n (omega (arith, lt)) e) (omega (arith, lt)))

pub other_number : (token : List ℕ) (n : ℕ) → n < 2 ^ 32 → held (number token) ≢ Some n → bytes_eq token (decimal n) ≡ false
other_number token n lt other = go (bytes_eq token (decimal n)) refl
  where
    go : (b : Bool) → bytes_eq token (decimal n) ≡ b → b ≡ false
    go false e = refl
    go true e =
        let same : token ≡ decimal n = (bytes_eq-Decides token (decimal n)).0 e in
        let spelled : number token ≡ Some n = ap number same ∙ number_again n (omega (arith, lt)) in
        let kept : min n (2 ^ 64 - 1) ≡ n = omega (arith, lt) in
        absurd (other (ap held spelled ∙ ap (λ (x : ℕ). Some x) kept))
