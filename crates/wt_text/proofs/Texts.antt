-- Readers of a text put together.
use Rattle.std.proofs.Common.{rules, arith, ◌≡◌, ℕ, zero, suc, ◌+◌, ◌≤◌, ◌<◌, Bool, true, false, cond, List, [], ◌∷◌, ◌++◌, length, Option, Some, None, Result, Ok, Err, refl, sym, ap, ◌∙◌, append_assoc, subst}
use Rattle.std.proofs.lemmas.List.{append-nil}
use Rattle.std.specs.List.{flat_map}
use Rattle.wt_text.specs.Words.{tokens, spaced}
use Rattle.wt_text.specs.Lines.{Line, line_of, lines, bytes_of}
use Rattle.wt_text.specs.Readers.{◌then◌, LineFault, wrong, past, TextFault, syntax_at, limit_at, faulty, line_read, line_at, one_line, both_parts, many_parts, counted_parts, ended_here, whole_text}
use Rattle.wt_text.specs.Spellings.{IsClean, AllFit, IsNotEmpty, both_spelling, line_spelling, FitInTurn}
use Rattle.wt_text.proofs.Split.{spaced_tokens, tokens_spaced, AllClean, lines_again, bytes_lines}
use Rattle.wt_text.proofs.Formats.{IsLine}

-- the value of a step that did not fail
pub then_ok : {A B E : Type 0} (r : Result A E) (f : A → Result B E) (y : B) → (r then f) ≡ Ok y → (x : A) × (r ≡ Ok x) × (f x ≡ Ok y)
then_ok (Ok x) f y e = (x, refl, e)
then_ok (Err w) f y e = absurd cc

pub ok_is : {A E : Type 0} (x y : A) → ◌≡◌ {A = Result A E} (Ok x) (Ok y) → x ≡ y
ok_is x y e = cc

pub ok_pair : {X Y E : Type 0} (r r' : X) (q q' : Y) → ◌≡◌ {A = Result (X × Y) E} (Ok (r, q)) (Ok (r', q')) → (r ≡ r') × (q ≡ q')
ok_pair {X} {Y} r r' q q' e = let p : (r, q) ≡ (r', q') = ok_is _ _ e in (ap (λ (y : X × Y). y.0) p, ap (λ (y : X × Y). y.1) p)

-- a reader of a part of a text, and a spelling of the values that fit
pub record IsPart {W A : Type 0} (read : ℕ × List Line → Result (A × (ℕ × List Line)) (TextFault W)) (spell : A → List Line) (Fits : A → Type 0) : Type 0 where
  pub found : (p : ℕ × List Line) (x : A) (q : ℕ × List Line) → read p ≡ Ok (x, q) → (p.1 ≡ spell x ++ q.1) × Fits x
  pub again : (x : A) (n : ℕ) (rest : List Line) → Fits x → (m : ℕ) × (read (n, spell x ++ rest) ≡ Ok (x, (m, rest)))
  pub clean : (x : A) → Fits x → AllClean (spell x)

pub clean_lines : (as' bs : List Line) → AllClean as' → AllClean bs → AllClean (as' ++ bs)
unfolding AllClean
clean_lines [] bs a b = b
clean_lines (x ∷ as') bs a b = (a.0, clean_lines as' bs a.1 b)

pub no_lines : AllClean []
unfolding AllClean
no_lines = tt

pub first_clean : (ts : List (List ℕ)) → AllFit IsClean ts → AllClean (line_of ts ∷ [])
unfolding AllClean
first_clean ts c = ((ts, refl, c), tt)

pub line_part : {W A : Type 0} {read : List (List ℕ) → Result A (LineFault W)} {spell : A → List (List ℕ)} {Fits : A → Type 0} → IsLine read spell Fits → IsPart (one_line read) (line_spelling spell) Fits
unfolding one_line
line_part {W} {A} {read} {spell} {Fits} f = record {
  found = λ p x q e. found p.0 p.1 x q e;
  again = λ x n rest fits.
      let e : read (tokens (spaced (spell x))) ≡ Ok x = ap read (tokens_spaced (spell x) (f.some x fits) (f.clean x fits)) ∙ f.again x fits in
      (n + 1, rw e refl);
  clean = λ x fits. first_clean (spell x) (f.clean x fits);
}
  where
    ok_line : (n : ℕ) (ls : List Line) (r : Result A (LineFault W)) (x : A) (q : ℕ × List Line) → line_read n ls r ≡ Ok (x, q) → (r ≡ Ok x) × (ls ≡ q.1)
    ok_line n ls (Ok a) x q e = let p = ok_pair a x (n + 1, ls) q e in (ap (λ (y : A). Ok y) p.0, ap (λ (y : ℕ × List Line). y.1) p.1)
    ok_line n ls (Err w) x q e = absurd cc

    go : (n : ℕ) (text : List ℕ) (b : Bool) (ls : List Line) (x : A) (q : ℕ × List Line) → cond b (line_read n ls (read (tokens text))) (Err (syntax_at n)) ≡ Ok (x, q)
        → (record { text = text; ended = b } ∷ ls ≡ line_of (spell x) ∷ q.1) × Fits x
    go n text false ls x q e = absurd cc
    go n text true ls x q e =
        let k = ok_line n ls (read (tokens text)) x q e in
        let g = f.found (tokens text) x k.0 in
        let same : text ≡ spaced (spell x) = sym (spaced_tokens text) ∙ ap spaced g.0 in
        let left : ls ≡ q.1 = k.1 in
        (ap (λ (t : List ℕ). record { text = t; ended = true } ∷ ls) same ∙ ap (λ (r : List Line). line_of (spell x) ∷ r) left, g.1)

    found : (n : ℕ) (ls : List Line) (x : A) (q : ℕ × List Line) → line_at read n ls ≡ Ok (x, q) → (ls ≡ line_of (spell x) ∷ q.1) × Fits x
    found n [] x q e = absurd cc
    found n (l ∷ ls) x q e = go n l.text l.ended ls x q e

pub both_part : {W A B : Type 0} {ra : ℕ × List Line → Result (A × (ℕ × List Line)) (TextFault W)} {sa : A → List Line} {Fa : A → Type 0} {rb : ℕ × List Line → Result (B × (ℕ × List Line)) (TextFault W)} {sb : B → List Line} {Fb : B → Type 0}
    → IsPart ra sa Fa → IsPart rb sb Fb → IsPart (both_parts ra rb) (both_spelling sa sb) (λ x. Fa x.0 × Fb x.1)
unfolding both_parts
both_part {W} {A} {B} {ra} {sa} {Fa} {rb} {sb} {Fb} f g = record {
  found = λ p x q e.
      let a = then_ok (ra p) _ (x, q) e in
      let b = then_ok (rb a.0.1) _ (x, q) a.2 in
      let h = ok_pair (a.0.0, b.0.0) x b.0.1 q b.2 in
      let fa = f.found p a.0.0 a.0.1 a.1 in
      let fb = g.found a.0.1 b.0.0 b.0.1 b.1 in
      let P : A × B → Type 0 = λ y. (p.1 ≡ both_spelling sa sb y ++ q.1) × (Fa y.0 × Fb y.1) in
      let left : sb b.0.0 ++ b.0.1.1 ≡ sb b.0.0 ++ q.1 = ap (λ (y : ℕ × List Line). sb b.0.0 ++ y.1) h.1 in
      subst P h.0 (fa.0 ∙ ap (λ (r : List Line). sa a.0.0 ++ r) (fb.0 ∙ left) ∙ sym (append_assoc (sa a.0.0) (sb b.0.0) q.1), (fa.1, fb.1));
  again = λ x n rest fits.
      let a = f.again x.0 n (sb x.1 ++ rest) fits.0 in
      let b = g.again x.1 a.0 rest fits.1 in
      (b.0, rw (append_assoc (sa x.0) (sb x.1) rest, a.1, b.1) refl);
  clean = λ x fits. clean_lines (sa x.0) (sb x.1) (f.clean x.0 fits.0) (g.clean x.1 fits.1);
}

module _ {W A S : Type 0} {read : S → ℕ × List Line → Result (A × (ℕ × List Line)) (TextFault W)} {spell : A → List Line} {Fits : S → A → Type 0} (next : S → A → S) (f : (s : S) → IsPart (read s) spell (Fits s)) where
  many_found : (s : S) (n : ℕ) (p : ℕ × List Line) (xs : List A) (q : ℕ × List Line) → many_parts read next s n p ≡ Ok (xs, q)
      → (p.1 ≡ flat_map spell xs ++ q.1) × (length xs ≡ n) × FitInTurn Fits next s xs
  many_found s zero p xs q e =
      let h = ok_pair [] xs p q e in
      let P : List A → Type 0 = λ y. (p.1 ≡ flat_map spell y ++ q.1) × (length y ≡ 0) × FitInTurn Fits next s y in
      subst P h.0 (ap (λ (y : ℕ × List Line). y.1) h.1, refl, tt)
  many_found s (suc n) p xs q e =
      let a = then_ok (read s p) _ (xs, q) e in
      let b = then_ok (many_parts read next (next s a.0.0) n a.0.1) _ (xs, q) a.2 in
      let h = ok_pair (a.0.0 ∷ b.0.0) xs b.0.1 q b.2 in
      let one = (f s).found p a.0.0 a.0.1 a.1 in
      let others = many_found (next s a.0.0) n a.0.1 b.0.0 b.0.1 b.1 in
      let P : List A → Type 0 = λ y. (p.1 ≡ flat_map spell y ++ q.1) × (length y ≡ suc n) × FitInTurn Fits next s y in
      let left : flat_map spell b.0.0 ++ b.0.1.1 ≡ flat_map spell b.0.0 ++ q.1 = ap (λ (y : ℕ × List Line). flat_map spell b.0.0 ++ y.1) h.1 in
      subst P h.0 (
        one.0 ∙ ap (λ (r : List Line). spell a.0.0 ++ r) (others.0 ∙ left) ∙ sym (append_assoc (spell a.0.0) (flat_map spell b.0.0) q.1),
        ap suc others.1,
        (one.1, others.2),
      )

  many_again : (s : S) (xs : List A) (n : ℕ) (rest : List Line) → FitInTurn Fits next s xs → (m : ℕ) × (many_parts read next s (length xs) (n, flat_map spell xs ++ rest) ≡ Ok (xs, (m, rest)))
  many_again s [] n rest fits = (n, refl)
  many_again s (x ∷ xs) n rest fits =
      let a = (f s).again x n (flat_map spell xs ++ rest) fits.0 in
      let b = many_again (next s x) xs a.0 rest fits.1 in
      (b.0, rw (append_assoc (spell x) (flat_map spell xs) rest, a.1, b.1) refl)

  many_clean : (s : S) (xs : List A) → FitInTurn Fits next s xs → AllClean (flat_map spell xs)
  many_clean s [] fits = no_lines
  many_clean s (x ∷ xs) fits = clean_lines (spell x) (flat_map spell xs) ((f s).clean x fits.0) (many_clean (next s x) xs fits.1)

  pub many_part : (s : S) (n : ℕ) → IsPart (many_parts read next s n) (flat_map spell) (λ xs. (length xs ≡ n) × FitInTurn Fits next s xs)
  many_part s n = record {
    found = λ p xs q e. let h = many_found s n p xs q e in (h.0, (h.1, h.2));
    again = λ xs m rest fits.
        let a = many_again s xs m rest fits.1 in
        let P : ℕ → Type 0 = λ k. (m' : ℕ) × (many_parts read next s k (m, flat_map spell xs ++ rest) ≡ Ok (xs, (m', rest))) in
        subst P fits.0 a;
    clean = λ xs fits. many_clean s xs fits.1;
  }

  pub counted_part : {count : ℕ × List Line → Result (ℕ × (ℕ × List Line)) (TextFault W)} {sc : ℕ → List Line} {Fc : ℕ → Type 0} → IsPart count sc Fc
      → (s : S) → IsPart (counted_parts count read next s) (λ xs. sc (length xs) ++ flat_map spell xs) (λ xs. Fc (length xs) × FitInTurn Fits next s xs)
  unfolding counted_parts
  counted_part {count} {sc} {Fc} c s = record {
    found = λ p xs q e.
        let n = then_ok (count p) _ (xs, q) e in
        let h = many_found s n.0.0 n.0.1 xs q n.2 in
        let k = c.found p n.0.0 n.0.1 n.1 in
        let P : ℕ → Type 0 = λ m. (p.1 ≡ sc m ++ n.0.1.1) × Fc m in
        let g = subst P (sym h.1) k in
        (g.0 ∙ ap (λ (r : List Line). sc (length xs) ++ r) h.0 ∙ sym (append_assoc (sc (length xs)) (flat_map spell xs) q.1), (g.1, h.2));
    again = λ xs n rest fits.
        let a = c.again (length xs) n (flat_map spell xs ++ rest) fits.0 in
        let b = many_again s xs a.0 rest fits.1 in
        (b.0, rw (append_assoc (sc (length xs)) (flat_map spell xs) rest, a.1) b.1);
    clean = λ xs fits. clean_lines (sc (length xs)) (flat_map spell xs) (c.clean (length xs) fits.0) (many_clean s xs fits.1);
  }

-- a whole text, over its bytes
pub record IsWhole {W A : Type 0} (read : List Line → Result A (TextFault W)) (spell : A → List Line) (Fits : A → Type 0) : Type 0 where
  pub found : (bytes : List ℕ) (x : A) → read (lines bytes) ≡ Ok x → (bytes ≡ bytes_of (spell x)) × Fits x
  pub again : (x : A) → Fits x → read (lines (bytes_of (spell x))) ≡ Ok x

pub text_whole : {W A : Type 0} {read : ℕ × List Line → Result (A × (ℕ × List Line)) (TextFault W)} {spell : A → List Line} {Fits : A → Type 0} → IsPart read spell Fits → IsWhole (whole_text read) spell Fits
unfolding whole_text
text_whole {W} {A} {read} {spell} {Fits} f = record {
  found = λ bytes x e.
      let a = then_ok (read (1, lines bytes)) _ x e in
      let h = at_end a.0.0 x a.0.1.0 a.0.1.1 a.2 in
      let g = f.found (1, lines bytes) a.0.0 a.0.1 a.1 in
      let P : A → Type 0 = λ y. (lines bytes ≡ spell y) × Fits y in
      let k = subst P h.0 (g.0 ∙ ap (λ (r : List Line). spell a.0.0 ++ r) h.1 ∙ append-nil (spell a.0.0), g.1) in
      (sym (bytes_lines bytes) ∙ ap bytes_of k.0, k.1);
  again = λ x fits.
      let a = f.again x 1 [] fits in
      let e : lines (bytes_of (spell x)) ≡ spell x ++ [] = lines_again (spell x) (f.clean x fits) ∙ sym (append-nil (spell x)) in
      rw (e, a.1) refl;
}
  where
    at_end : (a x : A) (n : ℕ) (ls : List Line) → ended_here {W = W} a n ls ≡ Ok x → (a ≡ x) × (ls ≡ [])
    at_end a x n [] e = (ok_is _ _ e, refl)
    at_end a x n (l ∷ ls) e = absurd cc
