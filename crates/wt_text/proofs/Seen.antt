-- Parts seen as values of another kind.
use Rattle.std.proofs.Common.{◌≡◌, ℕ, List, ◌++◌, Result, Ok, Err, refl, sym, ap, ◌∙◌, subst}
use Rattle.wt_text.specs.Lines.{Line}
use Rattle.wt_text.specs.Readers.{◌then◌, TextFault, seen_as}
use Rattle.wt_text.proofs.Texts.{IsPart, then_ok, ok_pair}

pub seen_part : {W A B : Type 0} {read : ℕ × List Line → Result (A × (ℕ × List Line)) (TextFault W)} {spell : A → List Line} {Fits : A → Type 0} (to : A → B) (from : B → A) → ((a : A) → Fits a → from (to a) ≡ a)
    → IsPart read spell Fits → IsPart (seen_as to read) (λ b. spell (from b)) (λ b. Fits (from b) × (to (from b) ≡ b))
unfolding seen_as
seen_part {W} {A} {B} {read} {spell} {Fits} to from back f = record {
  found = λ p x q e.
      let a = then_ok (read p) _ (x, q) e in
      let h = ok_pair (to a.0.0) x a.0.1 q a.2 in
      let g = f.found p a.0.0 a.0.1 a.1 in
      let b = back a.0.0 g.1 in
      let P : B → Type 0 = λ y. (p.1 ≡ spell (from y) ++ q.1) × (Fits (from y) × (to (from y) ≡ y)) in
      let left : spell a.0.0 ++ a.0.1.1 ≡ spell (from (to a.0.0)) ++ q.1 = ap (λ (y : ℕ × List Line). spell a.0.0 ++ y.1) h.1 ∙ ap (λ (y : A). spell y ++ q.1) (sym b) in
      subst P h.0 (g.0 ∙ left, (subst Fits (sym b) g.1, ap to b));
  again = λ x n rest fits.
      let a = f.again (from x) n rest fits.0 in
      (a.0, rw a.1 (ap (λ (y : B). Ok (y, (a.0, rest))) fits.1));
  clean = λ x fits. f.clean (from x) fits.0;
}
