-- What a name is bound to, where one is bound.
use Rattle.std.proofs.Common.{◌≡◌, ℕ, Bool, true, false, cond, List, [], ◌∷◌, Option, None, Some, refl, sym, ap, ◌∙◌, Ordering, Less, Equal, Greater}
use Rattle.std.specs.Prelude.{◌≢◌}
use Rattle.std.specs.Ordering.{nat_cmp, is_eq}
use Rattle.std.specs.Cmp.Lexicographic.{slice_cmp}
use Rattle.std.specs.Str.{bytes_eq}
use Rattle.std.proofs.lemmas.Map.Text.{is_eq-slice_cmp}
use Rattle.std.proofs.lemmas.Slice.Eq.{bytes_eq-Decides}
use Rattle.wt_session.specs.declared.value.Value.{Value}
use Rattle.wt_session.specs.Names.{Names, find, bind}

-- names are equal exactly where their order says so
same : (m n : List ℕ) → is_eq (slice_cmp nat_cmp m n) ≡ true → m ≡ n
same m n e = (bytes_eq-Decides m n).0 (sym (is_eq-slice_cmp m n) ∙ e)

self : (n : List ℕ) → is_eq (slice_cmp nat_cmp n n) ≡ true
self n = is_eq-slice_cmp n n ∙ (bytes_eq-Decides n n).1 refl

differ : (m n : List ℕ) → m ≢ n → is_eq (slice_cmp nat_cmp m n) ≡ false
differ m n ne = by (is_eq (slice_cmp nat_cmp m n)) refl
  where
    by : (b : Bool) → is_eq (slice_cmp nat_cmp m n) ≡ b → is_eq (slice_cmp nat_cmp m n) ≡ false
    by true e = absurd (ne (same m n e))
    by false e = e

pub new_value : (n : List ℕ) (v : Value) (names : Names) → find n (bind n v names) ≡ Some v
new_value n v [] = rw (self n) refl
new_value n v (e ∷ es) = by (slice_cmp nat_cmp n e.0) refl (new_value n v es)
  where
    by : (o : Ordering) → slice_cmp nat_cmp n e.0 ≡ o → find n (bind n v es) ≡ Some v → find n (bind n v (e ∷ es)) ≡ Some v
    by Less p h = rw p (rw (self n) refl)
    by Equal p h =
        let k : is_eq (slice_cmp nat_cmp n e.0) ≡ true = ap is_eq p in
        rw p (rw k refl)
    by Greater p h =
        let k : is_eq (slice_cmp nat_cmp n e.0) ≡ false = ap is_eq p in
        rw p (rw k h)

pub other_values : (m n : List ℕ) (v : Value) (names : Names) → m ≢ n → find m (bind n v names) ≡ find m names
other_values m n v [] ne = rw (differ m n ne) refl
other_values m n v (e ∷ es) ne = by (slice_cmp nat_cmp n e.0) refl (other_values m n v es ne)
  where
    by : (o : Ordering) → slice_cmp nat_cmp n e.0 ≡ o → find m (bind n v es) ≡ find m es → find m (bind n v (e ∷ es)) ≡ find m (e ∷ es)
    by Less p h = rw p (rw (differ m n ne) refl)
    by Equal p h =
        let k : is_eq (slice_cmp nat_cmp n e.0) ≡ true = ap is_eq p in
        let other : is_eq (slice_cmp nat_cmp m e.0) ≡ false = differ m e.0 (λ i. ne (i ∙ sym (same n e.0 k))) in
        rw p (rw other refl)
    by Greater p h = rw p (ap (λ (r : Option Value). cond (is_eq (slice_cmp nat_cmp m e.0)) (Some e.1) r) h)
