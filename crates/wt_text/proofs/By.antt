-- A part that goes by the one before it.
use Rattle.std.proofs.Common.{◌≡◌, ℕ, List, ◌++◌, Result, Ok, Err, refl, sym, ap, ◌∙◌, append_assoc, subst}
use Rattle.wt_text.specs.Lines.{Line}
use Rattle.wt_text.specs.Readers.{◌then◌, TextFault, part_by}
use Rattle.wt_text.specs.Spellings.{both_spelling}
use Rattle.wt_text.proofs.Texts.{IsPart, then_ok, ok_pair, clean_lines}

pub next_part : {W A B : Type 0} {ra : ℕ × List Line → Result (A × (ℕ × List Line)) (TextFault W)} {sa : A → List Line} {Fa : A → Type 0} {rb : A → ℕ × List Line → Result (B × (ℕ × List Line)) (TextFault W)} {sb : B → List Line} {Fb : A → B → Type 0}
    → IsPart ra sa Fa → ((a : A) → IsPart (rb a) sb (Fb a)) → IsPart (part_by ra rb) (both_spelling sa sb) (λ x. Fa x.0 × Fb x.0 x.1)
unfolding part_by
next_part {W} {A} {B} {ra} {sa} {Fa} {rb} {sb} {Fb} f g = record {
  found = λ p x q e.
      let a = then_ok (ra p) _ (x, q) e in
      let b = then_ok (rb a.0.0 a.0.1) _ (x, q) a.2 in
      let h = ok_pair (a.0.0, b.0.0) x b.0.1 q b.2 in
      let fa = f.found p a.0.0 a.0.1 a.1 in
      let fb = (g a.0.0).found a.0.1 b.0.0 b.0.1 b.1 in
      let P : A × B → Type 0 = λ y. (p.1 ≡ both_spelling sa sb y ++ q.1) × (Fa y.0 × Fb y.0 y.1) in
      let left : sb b.0.0 ++ b.0.1.1 ≡ sb b.0.0 ++ q.1 = ap (λ (y : ℕ × List Line). sb b.0.0 ++ y.1) h.1 in
      subst P h.0 (fa.0 ∙ ap (λ (r : List Line). sa a.0.0 ++ r) (fb.0 ∙ left) ∙ sym (append_assoc (sa a.0.0) (sb b.0.0) q.1), (fa.1, fb.1));
  again = λ x n rest fits.
      let a = f.again x.0 n (sb x.1 ++ rest) fits.0 in
      let b = (g x.0).again x.1 a.0 rest fits.1 in
      (b.0, rw (append_assoc (sa x.0) (sb x.1) rest, a.1, b.1) refl);
  clean = λ x fits. clean_lines (sa x.0) (sb x.1) (f.clean x.0 fits.0) ((g x.0).clean x.1 fits.1);
}
