-- Parts read one after the other, as a loop does.
use Rattle.std.proofs.Common.{◌≡◌, ℕ, suc, ◌-◌, ◌+◌, ◌≤◌, ◌<◌, List, [], ◌∷◌, ◌++◌, Result, Ok, Err, refl, sym, ap, ◌∙◌, append_assoc, arith}
use Rattle.std.proofs.lemmas.List.{append-nil}
use Rattle.wt_line.specs.declared.faults.What.{What}
use Rattle.wt_line.specs.declared.faults.TextFault.{TextFault}
use Rattle.wt_line.specs.declared.faults.TextFault.TheVariants as text
use Rattle.wt_line.specs.Faults.{TextFails}
use Rattle.wt_text.specs.Lines.{Line}
use Rattle.wt_text.specs.Readers as words
use Rattle.wt_text.specs.Readers.{◌then◌, many_parts}

-- what was read before, and what is still read
abbrev pub with_front : {A : Type 0} → List A → Result (List A × (ℕ × List Line)) (words.TextFault What) → Result (List A × (ℕ × List Line)) (words.TextFault What)
with_front front read = read then λ x. Ok (front ++ x.0, x.1)

module _ {A S : Type 0} (read : S → ℕ × List Line → Result (A × (ℕ × List Line)) (words.TextFault What)) (next : S → A → S) where
  regroup : (front : List A) (a : A) (r : Result (List A × (ℕ × List Line)) (words.TextFault What)) → with_front front (r then λ x. Ok (a ∷ x.0, x.1)) ≡ with_front (front ++ a ∷ []) r
  regroup front a (Ok x) = ap (λ (as' : List A). Ok (as', x.1)) (simp append_assoc)
  regroup front a (Err e) = refl

  pub goes_on : (front : List A) (count i : ℕ) (s : S) (p : ℕ × List Line) (a : A) (q : ℕ × List Line) (total : Result (List A × (ℕ × List Line)) (words.TextFault What)) → i < count → read s p ≡ Ok (a, q)
      → with_front front (many_parts read next s (count - i) p) ≡ total → with_front (front ++ a ∷ []) (many_parts read next (next s a) (count - (i + 1)) q) ≡ total
  goes_on front count i s p a q total lt h so_far =
      let k : count - i ≡ suc (count - (i + 1)) = omega arith in
      let one : with_front front (many_parts read next s (count - i) p) ≡ with_front (front ++ a ∷ []) (many_parts read next (next s a) (count - (i + 1)) q) = rw (k, h) (regroup front a (many_parts read next (next s a) (count - (i + 1)) q)) in
      sym one ∙ so_far

  fails : (front : List A) (n : ℕ) (s : S) (p : ℕ × List Line) (e : words.TextFault What) → read s p ≡ Err e → with_front front (many_parts read next s (suc n) p) ≡ Err e
  fails front n s p e h = rw h refl

  pub ends : (e : TextFault) (front : List A) (count i : ℕ) (s : S) (p : ℕ × List Line) (total : Result (List A × (ℕ × List Line)) (words.TextFault What)) → i < count → TextFails e (read s p)
      → with_front front (many_parts read next s (count - i) p) ≡ total → TextFails e total
  ends text.OutOfMemory front count i s p total lt h so_far = tt
  ends (text.Syntax n) front count i s p total lt h so_far =
      let k : count - i ≡ suc (count - (i + 1)) = omega arith in
      sym so_far ∙ ap (λ (m : ℕ). with_front front (many_parts read next s m p)) k ∙ fails front (count - (i + 1)) s p (words.syntax_at n) h
  ends (text.Limit what n) front count i s p total lt h so_far =
      let k : count - i ≡ suc (count - (i + 1)) = omega arith in
      sym so_far ∙ ap (λ (m : ℕ). with_front front (many_parts read next s m p)) k ∙ fails front (count - (i + 1)) s p (words.limit_at what n) h

  pub is_done : (front : List A) (count i : ℕ) (s : S) (p : ℕ × List Line) (total : Result (List A × (ℕ × List Line)) (words.TextFault What)) → count ≤ i → with_front front (many_parts read next s (count - i) p) ≡ total → total ≡ Ok (front, p)
  is_done front count i s p total le so_far =
      let k : count - i ≡ 0 = omega arith in
      let one : with_front front (many_parts read next s (count - i) p) ≡ Ok (front, p) = rw k (ap (λ (as' : List A). Ok (as', p)) (append-nil front)) in
      sym so_far ∙ one
