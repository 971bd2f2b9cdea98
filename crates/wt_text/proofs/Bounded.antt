-- Counted parts whose states are good for as many parts as are left.
use Rattle.std.proofs.Common.{◌≡◌, ℕ, zero, suc, List, [], ◌∷◌, ◌++◌, length, Result, Ok, Err, refl, sym, ap, ◌∙◌, append_assoc, subst}
use Rattle.wt_text.specs.Lines.{Line}
use Rattle.wt_text.specs.Readers.{◌then◌, TextFault, many_parts, counted_parts}
use Rattle.wt_text.specs.Spellings.{flat_in_turn, FitInTurn}
use Rattle.wt_text.proofs.Split.{AllClean}
use Rattle.wt_text.proofs.Texts.{IsPart, then_ok, ok_pair, clean_lines, no_lines}

module _ {W A S : Type 0} {read : S → ℕ × List Line → Result (A × (ℕ × List Line)) (TextFault W)} {spell : S → A → List Line} {Fits : S → A → Type 0} (next : S → A → S) (Can : S → ℕ → Type 0)
    (f : (s : S) (n : ℕ) → Can s (suc n) → IsPart (read s) (spell s) (Fits s)) (keep : (s : S) (x : A) (n : ℕ) → Can s (suc n) → Can (next s x) n) where
  many_found : (s : S) (n : ℕ) → Can s n → (p : ℕ × List Line) (xs : List A) (q : ℕ × List Line) → many_parts read next s n p ≡ Ok (xs, q)
      → (p.1 ≡ flat_in_turn spell next s xs ++ q.1) × (length xs ≡ n) × FitInTurn Fits next s xs
  many_found s zero c p xs q e =
      let h = ok_pair [] xs p q e in
      let P : List A → Type 0 = λ y. (p.1 ≡ flat_in_turn spell next s y ++ q.1) × (length y ≡ 0) × FitInTurn Fits next s y in
      subst P h.0 (ap (λ (y : ℕ × List Line). y.1) h.1, refl, tt)
  many_found s (suc n) c p xs q e =
      let a = then_ok (read s p) _ (xs, q) e in
      let b = then_ok (many_parts read next (next s a.0.0) n a.0.1) _ (xs, q) a.2 in
      let h = ok_pair (a.0.0 ∷ b.0.0) xs b.0.1 q b.2 in
      let one = (f s n c).found p a.0.0 a.0.1 a.1 in
      let others = many_found (next s a.0.0) n (keep s a.0.0 n c) a.0.1 b.0.0 b.0.1 b.1 in
      let P : List A → Type 0 = λ y. (p.1 ≡ flat_in_turn spell next s y ++ q.1) × (length y ≡ suc n) × FitInTurn Fits next s y in
      let left : flat_in_turn spell next (next s a.0.0) b.0.0 ++ b.0.1.1 ≡ flat_in_turn spell next (next s a.0.0) b.0.0 ++ q.1 = ap (λ (y : ℕ × List Line). flat_in_turn spell next (next s a.0.0) b.0.0 ++ y.1) h.1 in
      subst P h.0 (
        one.0 ∙ ap (λ (r : List Line). spell s a.0.0 ++ r) (others.0 ∙ left) ∙ sym (append_assoc (spell s a.0.0) (flat_in_turn spell next (next s a.0.0) b.0.0) q.1),
        ap suc others.1,
        (one.1, others.2),
      )

  many_again : (s : S) (xs : List A) → Can s (length xs) → (n : ℕ) (rest : List Line) → FitInTurn Fits next s xs → (m : ℕ) × (many_parts read next s (length xs) (n, flat_in_turn spell next s xs ++ rest) ≡ Ok (xs, (m, rest)))
  many_again s [] c n rest fits = (n, refl)
  many_again s (x ∷ xs) c n rest fits =
      let a = (f s (length xs) c).again x n (flat_in_turn spell next (next s x) xs ++ rest) fits.0 in
      let b = many_again (next s x) xs (keep s x (length xs) c) a.0 rest fits.1 in
      (b.0, rw (append_assoc (spell s x) (flat_in_turn spell next (next s x) xs) rest, a.1, b.1) refl)

  many_clean : (s : S) (xs : List A) → Can s (length xs) → FitInTurn Fits next s xs → AllClean (flat_in_turn spell next s xs)
  many_clean s [] c fits = no_lines
  many_clean s (x ∷ xs) c fits = clean_lines (spell s x) (flat_in_turn spell next (next s x) xs) ((f s (length xs) c).clean x fits.0) (many_clean (next s x) xs (keep s x (length xs) c) fits.1)

  pub bounded_part : {count : ℕ × List Line → Result (ℕ × (ℕ × List Line)) (TextFault W)} {sc : ℕ → List Line} {Fc : ℕ → Type 0} → IsPart count sc Fc
      → (s : S) → ((n : ℕ) → Fc n → Can s n) → IsPart (counted_parts count read next s) (λ xs. sc (length xs) ++ flat_in_turn spell next s xs) (λ xs. Fc (length xs) × FitInTurn Fits next s xs)
  unfolding counted_parts
  bounded_part {count} {sc} {Fc} c s start = record {
    found = λ p xs q e.
        let n = then_ok (count p) _ (xs, q) e in
        let k = c.found p n.0.0 n.0.1 n.1 in
        let h = many_found s n.0.0 (start n.0.0 k.1) n.0.1 xs q n.2 in
        let P : ℕ → Type 0 = λ m. (p.1 ≡ sc m ++ n.0.1.1) × Fc m in
        let g = subst P (sym h.1) k in
        (g.0 ∙ ap (λ (r : List Line). sc (length xs) ++ r) h.0 ∙ sym (append_assoc (sc (length xs)) (flat_in_turn spell next s xs) q.1), (g.1, h.2));
    again = λ xs n rest fits.
        let a = c.again (length xs) n (flat_in_turn spell next s xs ++ rest) fits.0 in
        let b = many_again s xs (start (length xs) fits.0) a.0 rest fits.1 in
        (b.0, rw (append_assoc (sc (length xs)) (flat_in_turn spell next s xs) rest, a.1) b.1);
    clean = λ xs fits. clean_lines (sc (length xs)) (flat_in_turn spell next s xs) (c.clean (length xs) fits.0) (many_clean s xs (start (length xs) fits.0) fits.1);
  }
