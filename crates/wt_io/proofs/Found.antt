-- Where a byte was found, or that it was not.
use Rattle.std.proofs.Common.{arith, ◌≡◌, ◌≢◌, ℕ, ◌<◌, ◌+◌, ◌-◌, true, nat_eq, List, ◌∷◌, ◌++◌, length, get_or, take, drop, length-take, length-drop, Some, None, sym, ap, ◌∙◌, drop-cons, add-one}
use Rattle.std.specs.Prelude.{All}
use Rattle.std.proofs.lemmas.Bool.{eqb-true}
use Rattle.std.proofs.lemmas.Bool.Decides.{nat_tests}
use Rattle.std.proofs.lemmas.List.{get_or_default, get_or-take, take-append-drop, take_all}
use Rattle.memchr.specs.Find.{IsFirstByte, Nowhere, Passes, is_byte}

is_same : (b c : ℕ) → b ≡ c → nat_eq b c ≡ true
is_same b c e = grind (arith, nat_tests)

pub all_other : (byte : ℕ) (bytes : List ℕ) → IsFirstByte (is_byte byte) bytes None → All (λ b. b ≢ byte) bytes
all_other byte bytes n = λ k d lt e. n k (omega arith) lt (is_same (get_or bytes k 0) byte (get_or_default bytes k 0 d lt ∙ e))

-- before it none is found, and behind it stand the others
pub found_at : (byte at : ℕ) (bytes front behind : List ℕ) → IsFirstByte (is_byte byte) bytes (Some at) → front ≡ take at bytes → behind ≡ take (length bytes - (at + 1)) (drop (at + 1) bytes)
    → (bytes ≡ front ++ byte ∷ behind) × All (λ b. b ≢ byte) front
found_at byte at bytes front behind f e r =
    let lt : at < length bytes = f.0.high in
    let same : get_or bytes at 0 ≡ byte = eqb-true (get_or bytes at 0) byte f.1 in
    let here : drop at bytes ≡ byte ∷ drop (at + 1) bytes = rw add-one (drop-cons bytes at 0 lt) ∙ ap (λ (x : ℕ). x ∷ drop (at + 1) bytes) same in
    let all : behind ≡ drop (at + 1) bytes = r ∙ take_all (length bytes - (at + 1)) (drop (at + 1) bytes) (omega (arith, length-drop (at + 1) bytes)) in (
      sym (take-append-drop at bytes) ∙ ap (λ (x : List ℕ). take at bytes ++ x) here ∙ ap (λ (x : List ℕ). x ++ byte ∷ drop (at + 1) bytes) (sym e) ∙ ap (λ (x : List ℕ). front ++ byte ∷ x) (sym all),
      rw e (none_before f.0.before lt),
    )
  where
    none_before : Nowhere (Passes (is_byte byte) bytes) 0 at → at < length bytes → All (λ b. b ≢ byte) (take at bytes)
    none_before n lt = λ k d less same.
        let low : k < at = omega (arith, less, length-take at bytes) in
        n k (omega arith) low (is_same (get_or bytes k 0) byte (get_or_default bytes k 0 d (omega (arith, low, lt)) ∙ sym (get_or-take at bytes k d low) ∙ same))
