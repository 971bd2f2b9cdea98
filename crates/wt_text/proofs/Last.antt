-- Readers that go to the end of a line.
use Rattle.std.proofs.Common.{rules, arith, ◌≡◌, ◌⊎◌, inl, inr, ℕ, zero, suc, ◌+◌, ◌≤◌, ◌<◌, ◌^◌, Bool, true, false, cond, nat_le, nat_eq, List, [], ◌∷◌, ◌++◌, length, map, Option, Some, None, Result, Ok, Err, refl, sym, ap, ◌∙◌, append_assoc, subst, eq-eqb}
use Rattle.std.proofs.lemmas.List.{append-nil}
use Rattle.std.specs.Fmt.{decimal}
use Rattle.std.specs.Str.{bytes_eq}
use Rattle.std.proofs.lemmas.Bool.{eqb-true, leb-true, le-leb}
use Rattle.std.proofs.lemmas.Slice.Eq.{bytes_eq-Decides}
use Rattle.wt_text.specs.Words.{number}
use Rattle.wt_text.specs.Readers.{◌>>=◌, pair, after, within, number_to, either_word, value_behind, both, value_in_front, counted, numbers_to, counted_numbers, LineFault, wrong, past, judged, judge, whole}
use Rattle.wt_text.specs.Spellings.{IsClean, AllFit, IsNotEmpty, number_spelling, behind_spelling, both_spelling, counted_spelling}
use Rattle.wt_text.proofs.Numbers.{number_found, number_again, decimal_clean, some_is, if_some}
use Rattle.wt_text.proofs.Formats.{IsFormat, IsLine, bind_some, read_is, pair_ok, within_ok, within_again, after_found, after_again, clean_both, judge_ok, numbers_found, numbers_again, numbers_clean}

pub record IsLast {W A : Type 0} (read : List (List ℕ) → Option (Result A W × List (List ℕ))) (spell : A → List (List ℕ)) (Fits : A → Type 0) : Type 0 where
  pub found : (ts : List (List ℕ)) (x : A) (rest : List (List ℕ)) → read ts ≡ Some (Ok x, rest) → (ts ≡ spell x ++ rest) × Fits x
  pub again : (x : A) → Fits x → read (spell x) ≡ Some (Ok x, [])
  pub clean : (x : A) → Fits x → AllFit IsClean (spell x)

pub last_of : {W A : Type 0} {read : List (List ℕ) → Option (Result A W × List (List ℕ))} {spell : A → List (List ℕ)} {Fits : A → Type 0} → IsFormat read spell Fits → IsLast read spell Fits
last_of {read = read} {spell = spell} f = record { found = f.found; again = λ x fits. ap read (sym (append-nil (spell x))) ∙ f.again x [] fits; clean = f.clean }

pub behind_last : {W A : Type 0} {read : List (List ℕ) → Option (Result A W × List (List ℕ))} {spell : A → List (List ℕ)} {Fits : A → Type 0} (w : List ℕ) → IsClean w
    → IsLast read spell Fits → IsLast (value_behind w read) (behind_spelling w spell) Fits
unfolding value_behind
behind_last {read = read} {spell = spell} w c f = record {
  found = λ ts x rest e.
      let a = bind_some (after w ts) read (Ok x, rest) e in
      let g = f.found a.0 x rest a.2 in
      (after_found w ts a.0 a.1 ∙ ap (λ (r : List (List ℕ)). w ∷ r) g.0, g.1);
  again = λ x fits. rw (after_again w (spell x)) (f.again x fits);
  clean = λ x fits. (c, f.clean x fits);
}

pub both_last : {W A B : Type 0} {ra : List (List ℕ) → Option (Result A W × List (List ℕ))} {sa : A → List (List ℕ)} {Fa : A → Type 0} {rb : List (List ℕ) → Option (Result B W × List (List ℕ))} {sb : B → List (List ℕ)} {Fb : B → Type 0}
    → IsFormat ra sa Fa → IsLast rb sb Fb → IsLast (both ra rb) (both_spelling sa sb) (λ x. Fa x.0 × Fb x.1)
unfolding both
both_last {W} {A} {B} {ra} {sa} {Fa} {rb} {sb} {Fb} f g = record {
  found = λ ts x rest e.
      let a = bind_some (ra ts) _ (Ok x, rest) e in
      let b = bind_some (rb a.0.1) _ (Ok x, rest) a.2 in
      let p = read_is (pair a.0.0 b.0.0) (Ok x) b.0.1 rest b.2 in
      let oks = pair_ok a.0.0 b.0.0 x p.0 in
      let ea : ra ts ≡ Some (Ok x.0, a.0.1) = a.1 ∙ ap (λ (y : Result A W). Some (y, a.0.1)) oks.0 in
      let eb : rb a.0.1 ≡ Some (Ok x.1, rest) = b.1 ∙ ap (λ (y : Result B W). Some (y, b.0.1)) oks.1 ∙ ap (λ (y : List (List ℕ)). Some (Ok x.1, y)) p.1 in
      let fa = f.found ts x.0 a.0.1 ea in
      let fb = g.found a.0.1 x.1 rest eb in
      (fa.0 ∙ ap (λ (r : List (List ℕ)). sa x.0 ++ r) fb.0 ∙ sym (append_assoc (sa x.0) (sb x.1) rest), (fa.1, fb.1));
  again = λ x fits. rw (f.again x.0 (sb x.1) fits.0, g.again x.1 fits.1) refl;
  clean = λ x fits. clean_both (sa x.0) (sb x.1) (f.clean x.0 fits.0) (g.clean x.1 fits.1);
}

pub whole_last : {W A : Type 0} {read : List (List ℕ) → Option (Result A W × List (List ℕ))} {spell : A → List (List ℕ)} {Fits : A → Type 0}
    → ((x : A) → IsNotEmpty (spell x)) → IsLast read spell Fits → IsLine (whole read) spell Fits
unfolding whole
whole_last {read = read} {spell = spell} some f = record {
  found = λ ts x e. let g = f.found ts x [] (judge_ok (read ts) x e) in (g.0 ∙ append-nil (spell x), g.1);
  again = λ x fits. rw (f.again x fits) refl;
  clean = f.clean;
  some = λ x fits. some x;
}

-- one of two words
pub word_format : {W A : Type 0} (v : List ℕ) (a : A) (w : List ℕ) (b : A) (spell : A → List ℕ) → spell a ≡ v → spell b ≡ w → IsClean v → IsClean w → bytes_eq w v ≡ false → ((x : A) → (x ≡ a) ⊎ (x ≡ b))
    → IsFormat {W = W} (either_word v a w b) (λ x. spell x ∷ []) (λ x. Unit {0})
word_format {W} {A} v a w b spell ea eb cv cw apart which = record {
  found = found;
  again = λ x rest fits. again x rest (which x);
  clean = λ x fits. (clean x (which x), tt);
}
  where
    second : (t : List ℕ) (ts : List (List ℕ)) (x : A) (rest : List (List ℕ)) (c : Bool) → bytes_eq t w ≡ c → ◌≡◌ {A = Option (Result A W × List (List ℕ))} (cond c (Some (Ok b, ts)) None) (Some (Ok x, rest)) → (t ∷ ts ≡ spell x ∷ rest) × Unit {0}
    second t ts x rest true k e =
        let p = read_is (Ok b) (Ok x) ts rest e in
        let same : t ≡ w = (bytes_eq-Decides t w).0 k in
        let value : b ≡ x = cc (p.0) in
        let s : t ≡ spell x = same ∙ sym eb ∙ ap spell value in
        let left : ts ≡ rest = p.1 in
        (cc, tt)
    second t ts x rest false k e = absurd cc

    first : (t : List ℕ) (ts : List (List ℕ)) (x : A) (rest : List (List ℕ)) (c : Bool) → bytes_eq t v ≡ c
        → ◌≡◌ {A = Option (Result A W × List (List ℕ))} (cond c (Some (Ok a, ts)) (cond (bytes_eq t w) (Some (Ok b, ts)) None)) (Some (Ok x, rest)) → (t ∷ ts ≡ spell x ∷ rest) × Unit {0}
    first t ts x rest true k e =
        let p = read_is (Ok a) (Ok x) ts rest e in
        let same : t ≡ v = (bytes_eq-Decides t v).0 k in
        let value : a ≡ x = cc (p.0) in
        let s : t ≡ spell x = same ∙ sym ea ∙ ap spell value in
        let left : ts ≡ rest = p.1 in
        (cc, tt)
    first t ts x rest false k e = second t ts x rest (bytes_eq t w) refl e

    found : (ts : List (List ℕ)) (x : A) (rest : List (List ℕ)) → either_word {W = W} v a w b ts ≡ Some (Ok x, rest) → (ts ≡ (spell x ∷ []) ++ rest) × Unit {0}
    found [] x rest e = absurd cc
    found (t ∷ ts) x rest e = first t ts x rest (bytes_eq t v) refl e

    again : (x : A) (rest : List (List ℕ)) → (x ≡ a) ⊎ (x ≡ b) → either_word {W = W} v a w b (spell x ∷ rest) ≡ Some (Ok x, rest)
    again x rest (inl e) =
        let s : spell x ≡ v = ap spell e ∙ ea in
        let t : bytes_eq (spell x) v ≡ true = (bytes_eq-Decides (spell x) v).1 s in
        rw t (ap (λ (y : A). Some (Ok y, rest)) (sym e))
    again x rest (inr e) =
        let s : spell x ≡ w = ap spell e ∙ eb in
        let f : bytes_eq (spell x) v ≡ false = ap (λ (y : List ℕ). bytes_eq y v) s ∙ apart in
        let t : bytes_eq (spell x) w ≡ true = (bytes_eq-Decides (spell x) w).1 s in
        rw (f, t) (ap (λ (y : A). Some (Ok y, rest)) (sym e))

    clean : (x : A) → (x ≡ a) ⊎ (x ≡ b) → IsClean (spell x)
    clean x (inl e) = subst IsClean (sym (ap spell e ∙ ea)) cv
    clean x (inr e) = subst IsClean (sym (ap spell e ∙ eb)) cw

counted_ok : {W A : Type 0} (n : Result ℕ W) (r : Result A W) (x : A) → counted n r ≡ Ok x → (k : ℕ) × (n ≡ Ok k) × (r ≡ Ok x)
counted_ok (Ok n) r x e = (n, refl, e)
counted_ok (Err w) r x e = absurd cc

length_map : (ns : List ℕ) → length (map decimal ns) ≡ length ns
length_map [] = refl
length_map (n ∷ ns) = ap suc (length_map ns)

-- a count, and n numbers
pub numbers_last : {W : Type 0} (many : ℕ) (kind : W) (most : ℕ) (what : W) → many < 2 ^ 64 → most < 2 ^ 64
    → IsLast (counted_numbers many kind most what) counted_spelling (λ ns. (length ns ≤ many) × AllFit (λ n. n ≤ most) ns)
numbers_last {W} many kind most what small_many small = record {
  found = found;
  again = λ ns fits.
      let le : length ns ≤ many = fits.0 in
      let size : nat_eq (length (map decimal ns)) (length ns) ≡ true = eq-eqb _ _ (length_map ns) in
      rw (number_again (length ns) (omega (arith, le)), size, numbers_again most what small ns fits.1, within_again many kind (length ns) le) refl;
  clean = λ ns fits. let le : length ns ≤ many = fits.0 in (decimal_clean (length ns) (omega (arith, le)), numbers_clean most what small ns fits.1);
}
  where
    found : (ts : List (List ℕ)) (x : List ℕ) (rest : List (List ℕ)) → counted_numbers many kind most what ts ≡ Some (Ok x, rest) → (ts ≡ counted_spelling x ++ rest) × ((length x ≤ many) × AllFit (λ n. n ≤ most) x)
    found [] x rest e = absurd cc
    found (t ∷ ts) x rest e =
        let n = bind_some (number t) _ (Ok x, rest) e in
        let i = if_some (nat_eq (length ts) n.0) _ (Ok x, rest) n.2 in
        let r = bind_some (numbers_to most what ts) _ (Ok x, rest) i.1 in
        let p = read_is (counted (within many kind n.0) r.0) (Ok x) [] rest r.2 in
        let k = counted_ok (within many kind n.0) r.0 x p.0 in
        let w = within_ok many kind n.0 k.0 k.1 in
        let h = numbers_found most what small ts x (r.1 ∙ ap (λ (y : Result (List ℕ) W). Some y) k.2) in
        let size : length ts ≡ n.0 = eqb-true _ _ i.0 in
        let same : length ts ≡ length x = ap length h.0 ∙ length_map x in
        let le : length x ≤ many = omega (arith, size, same, w.0, w.1) in
        let spelled : t ≡ decimal n.0 = number_found t n.0 n.1 (omega (arith, size, same, le, small_many)) in
        let front : t ≡ decimal (length x) = spelled ∙ ap decimal (sym size ∙ same) in
        let left : ts ≡ map decimal x ++ rest = h.0 ∙ sym (append-nil (map decimal x)) ∙ ap (λ (y : List (List ℕ)). map decimal x ++ y) p.1 in
        (cc, (le, h.1))
