-- Readers of a line put together: what is read is spelled so, and what is spelled so is read.
use Rattle.std.proofs.Common.{rules, arith, ◌≡◌, ℕ, zero, suc, ◌+◌, ◌≤◌, ◌<◌, ◌^◌, Bool, true, false, cond, nat_le, nat_eq, List, [], ◌∷◌, ◌++◌, length, map, Option, Some, None, Result, Ok, Err, refl, sym, ap, ◌∙◌, append_assoc, subst}
use Rattle.std.proofs.lemmas.List.{append-nil}
use Rattle.std.specs.Fmt.{decimal}
use Rattle.std.specs.Str.{bytes_eq}
use Rattle.std.proofs.lemmas.Bool.{eqb-true, leb-true, le-leb}
use Rattle.std.proofs.lemmas.Slice.Eq.{bytes_eq-Decides}
use Rattle.wt_text.specs.Words.{number}
use Rattle.wt_text.specs.Readers.{◌>>=◌, pair, after, within, number_to, either_word, value_behind, both, value_in_front, counted, numbers_to, counted_numbers, LineFault, wrong, past, judged, judge, whole}
use Rattle.wt_text.specs.Spellings.{IsClean, AllFit, IsNotEmpty, number_spelling, behind_spelling, both_spelling, counted_spelling}
use Rattle.wt_text.proofs.Numbers.{number_found, number_again, decimal_clean, some_is}

-- the value of a step that did not fail
pub bind_some : {A B : Type 0} (r : Option A) (f : A → Option B) (y : B) → (r >>= f) ≡ Some y → (x : A) × (r ≡ Some x) × (f x ≡ Some y)
bind_some (Some x) f y e = (x, refl, e)
bind_some None f y e = absurd cc

-- what was read, part by part
pub read_is : {X Y : Type 0} (r r' : X) (ts ts' : Y) → ◌≡◌ {A = Option (X × Y)} (Some (r, ts)) (Some (r', ts')) → (r ≡ r') × (ts ≡ ts')
read_is {X} {Y} r r' ts ts' e = let p : (r, ts) ≡ (r', ts') = some_is _ _ e in (ap (λ (y : X × Y). y.0) p, ap (λ (y : X × Y). y.1) p)

-- a reader, and a spelling of the values that fit
pub record IsFormat {W A : Type 0} (read : List (List ℕ) → Option (Result A W × List (List ℕ))) (spell : A → List (List ℕ)) (Fits : A → Type 0) : Type 0 where
  pub found : (ts : List (List ℕ)) (x : A) (rest : List (List ℕ)) → read ts ≡ Some (Ok x, rest) → (ts ≡ spell x ++ rest) × Fits x
  pub again : (x : A) (rest : List (List ℕ)) → Fits x → read (spell x ++ rest) ≡ Some (Ok x, rest)
  pub clean : (x : A) → Fits x → AllFit IsClean (spell x)

pub within_ok : {W : Type 0} (most : ℕ) (what : W) (n x : ℕ) → within most what n ≡ Ok x → (n ≡ x) × (x ≤ most)
within_ok most what n x e = go (nat_le n most) refl e
  where
    go : (b : Bool) → nat_le n most ≡ b → cond b (Ok n) (Err what) ≡ Ok x → (n ≡ x) × (x ≤ most)
    go true t h = let same : n ≡ x = cc in let le : n ≤ most = leb-true n most t in (same, omega (arith, same, le))
    go false t h = absurd cc

pub within_again : {W : Type 0} (most : ℕ) (what : W) (n : ℕ) → n ≤ most → within most what n ≡ Ok n
within_again most what n le = rw (le-leb n most le) refl

pub clean_both : (as' bs : List (List ℕ)) → AllFit IsClean as' → AllFit IsClean bs → AllFit IsClean (as' ++ bs)
clean_both [] bs a b = b
clean_both (x ∷ as') bs a b = (a.0, clean_both as' bs a.1 b)

pub number_format : {W : Type 0} (most : ℕ) (what : W) → most < 2 ^ 64 → IsFormat (number_to most what) number_spelling (λ n. n ≤ most)
number_format {W} most what small = record { found = found; again = again; clean = λ n le. (decimal_clean n (omega arith), tt) }
  where
    found : (ts : List (List ℕ)) (x : ℕ) (rest : List (List ℕ)) → number_to most what ts ≡ Some (Ok x, rest) → (ts ≡ number_spelling x ++ rest) × (x ≤ most)
    found [] x rest e = absurd cc
    found (t ∷ ts) x rest e =
        let n = bind_some (number t) (λ m. Some (within most what m, ts)) (Ok x, rest) e in
        let p = read_is (within most what n.0) (Ok x) ts rest n.2 in
        let w = within_ok most what n.0 x p.0 in
        let spelled : t ≡ decimal x = number_found t n.0 n.1 (omega (arith, w.0, w.1)) ∙ ap decimal w.0 in
        let left : ts ≡ rest = p.1 in
        (cc, w.1)

    again : (x : ℕ) (rest : List (List ℕ)) → x ≤ most → number_to most what (number_spelling x ++ rest) ≡ Some (Ok x, rest)
    again x rest le = rw (number_again x (omega arith), within_again most what x le) refl

pub after_found : (w : List ℕ) (ts rest : List (List ℕ)) → after w ts ≡ Some rest → ts ≡ w ∷ rest
after_found w [] rest e = absurd cc
after_found w (t ∷ ts) rest e = go (bytes_eq t w) refl e
  where
    go : (b : Bool) → bytes_eq t w ≡ b → cond b (Some ts) None ≡ Some rest → t ∷ ts ≡ w ∷ rest
    go true h k = let same : t ≡ w = (bytes_eq-Decides t w).0 h in cc
    go false h k = absurd cc

pub after_again : (w : List ℕ) (rest : List (List ℕ)) → after w (w ∷ rest) ≡ Some rest
after_again w rest = let same : bytes_eq w w ≡ true = (bytes_eq-Decides w w).1 refl in rw same refl

pub behind_format : {W A : Type 0} {read : List (List ℕ) → Option (Result A W × List (List ℕ))} {spell : A → List (List ℕ)} {Fits : A → Type 0} (w : List ℕ) → IsClean w
    → IsFormat read spell Fits → IsFormat (value_behind w read) (behind_spelling w spell) Fits
unfolding value_behind
behind_format {read = read} {spell = spell} w c f = record {
  found = λ ts x rest e.
      let a = bind_some (after w ts) read (Ok x, rest) e in
      let g = f.found a.0 x rest a.2 in
      (after_found w ts a.0 a.1 ∙ ap (λ (r : List (List ℕ)). w ∷ r) g.0, g.1);
  again = λ x rest fits. rw (after_again w (spell x ++ rest)) (f.again x rest fits);
  clean = λ x fits. (c, f.clean x fits);
}

pub pair_ok : {W A B : Type 0} (a : Result A W) (b : Result B W) (x : A × B) → pair a b ≡ Ok x → (a ≡ Ok x.0) × (b ≡ Ok x.1)
pair_ok (Ok a) (Ok b) x e = let same : (a, b) ≡ x = cc in (ap (λ (y : _). Ok y.0) same, ap (λ (y : _). Ok y.1) same)
pair_ok (Ok a) (Err w) x e = absurd cc
pair_ok (Err w) b x e = absurd cc

pub both_format : {W A B : Type 0} {ra : List (List ℕ) → Option (Result A W × List (List ℕ))} {sa : A → List (List ℕ)} {Fa : A → Type 0} {rb : List (List ℕ) → Option (Result B W × List (List ℕ))} {sb : B → List (List ℕ)} {Fb : B → Type 0}
    → IsFormat ra sa Fa → IsFormat rb sb Fb → IsFormat (both ra rb) (both_spelling sa sb) (λ x. Fa x.0 × Fb x.1)
unfolding both
both_format {W} {A} {B} {ra} {sa} {Fa} {rb} {sb} {Fb} f g = record {
  found = λ ts x rest e.
      let a = bind_some (ra ts) _ (Ok x, rest) e in
      let b = bind_some (rb a.0.1) _ (Ok x, rest) a.2 in
      let p : (pair a.0.0 b.0.0, b.0.1) ≡ (Ok x, rest) = some_is _ _ b.2 in
      let oks = pair_ok a.0.0 b.0.0 x (ap (λ (y : Result (A × B) W × List (List ℕ)). y.0) p) in
      let left : b.0.1 ≡ rest = ap (λ (y : Result (A × B) W × List (List ℕ)). y.1) p in
      let ea : ra ts ≡ Some (Ok x.0, a.0.1) = a.1 ∙ ap (λ (y : Result A W). Some (y, a.0.1)) oks.0 in
      let eb : rb a.0.1 ≡ Some (Ok x.1, rest) = b.1 ∙ ap (λ (y : Result B W). Some (y, b.0.1)) oks.1 ∙ ap (λ (y : List (List ℕ)). Some (Ok x.1, y)) left in
      let fa = f.found ts x.0 a.0.1 ea in
      let fb = g.found a.0.1 x.1 rest eb in
      (fa.0 ∙ ap (λ (r : List (List ℕ)). sa x.0 ++ r) fb.0 ∙ sym (append_assoc (sa x.0) (sb x.1) rest), (fa.1, fb.1));
  again = λ x rest fits. rw (append_assoc (sa x.0) (sb x.1) rest, f.again x.0 (sb x.1 ++ rest) fits.0, g.again x.1 rest fits.1) refl;
  clean = λ x fits. clean_both (sa x.0) (sb x.1) (f.clean x.0 fits.0) (g.clean x.1 fits.1);
}

pub joined_ok : {W A : Type 0} (a : Result A W) (r : Result (List A) W) (xs : List A) → value_in_front a r ≡ Ok xs → (x : A) × (ys : List A) × (xs ≡ x ∷ ys) × (a ≡ Ok x) × (r ≡ Ok ys)
joined_ok (Ok a) (Ok as') xs e = (a, as', cc, refl, refl)
joined_ok (Ok a) (Err w) xs e = absurd cc
joined_ok (Err w) r xs e = absurd cc

module _ {W : Type 0} (most : ℕ) (what : W) (small : most < 2 ^ 64) where
  pub numbers_found : (ts : List (List ℕ)) (ns : List ℕ) → numbers_to most what ts ≡ Some (Ok ns) → (ts ≡ map decimal ns) × AllFit (λ n. n ≤ most) ns
  numbers_found [] ns e = let same : [] ≡ ns = cc in let P : List ℕ → Type 0 = λ y. ([] ≡ map decimal y) × AllFit (λ n. n ≤ most) y in subst P same (refl, tt)
  numbers_found (t ∷ ts) ns e =
      let n = bind_some (number t) _ (Ok ns) e in
      let r = bind_some (numbers_to most what ts) _ (Ok ns) n.2 in
      let j = joined_ok (within most what n.0) r.0 ns (some_is _ _ r.2) in
      let w = within_ok most what n.0 j.0 j.3 in
      let spelled : t ≡ decimal n.0 = number_found t n.0 n.1 (omega (arith, w.0, w.1, small)) in
      let h = numbers_found ts j.1 (r.1 ∙ ap (λ (y : Result (List ℕ) W). Some y) j.4) in
      let P : List ℕ → Type 0 = λ y. (t ∷ ts ≡ map decimal y) × AllFit (λ n. n ≤ most) y in
      let front : t ≡ decimal j.0 = spelled ∙ ap decimal w.0 in
      subst P (sym j.2) (cc, (w.1, h.1))

  pub numbers_again : (ns : List ℕ) → AllFit (λ n. n ≤ most) ns → numbers_to most what (map decimal ns) ≡ Some (Ok ns)
  numbers_again [] fits = refl
  numbers_again (n ∷ ns) fits = let le : n ≤ most = fits.0 in rw (number_again n (omega (arith, le, small)), numbers_again ns fits.1, within_again most what n le) refl

  pub numbers_clean : (ns : List ℕ) → AllFit (λ n. n ≤ most) ns → AllFit IsClean (map decimal ns)
  numbers_clean [] fits = tt
  numbers_clean (n ∷ ns) fits = let le : n ≤ most = fits.0 in (decimal_clean n (omega (arith, le, small)), numbers_clean ns fits.1)

-- a reader of whole lines, and a spelling of the values that fit
pub record IsLine {W A : Type 0} (read : List (List ℕ) → Result A (LineFault W)) (spell : A → List (List ℕ)) (Fits : A → Type 0) : Type 0 where
  pub found : (ts : List (List ℕ)) (x : A) → read ts ≡ Ok x → (ts ≡ spell x) × Fits x
  pub again : (x : A) → Fits x → read (spell x) ≡ Ok x
  pub clean : (x : A) → Fits x → AllFit IsClean (spell x)
  pub some : (x : A) → Fits x → IsNotEmpty (spell x)

pub judge_ok : {W A : Type 0} (r : Option (Result A W × List (List ℕ))) (x : A) → judge r ≡ Ok x → r ≡ Some (Ok x, [])
judge_ok None x e = absurd cc
judge_ok {W} {A} (Some y) x e = go y.0 y.1 e
  where
    go : (r : Result A W) (ts : List (List ℕ)) → judged r ts ≡ Ok x → ◌≡◌ {A = Option (Result A W × List (List ℕ))} (Some (r, ts)) (Some (Ok x, []))
    go (Ok a) [] h = let same : a ≡ x = cc in cc
    go (Err w) [] h = absurd cc
    go (Ok a) (t ∷ ts) h = absurd cc
    go (Err w) (t ∷ ts) h = absurd cc

pub fit_line : {W A : Type 0} {read : List (List ℕ) → Option (Result A W × List (List ℕ))} {spell : A → List (List ℕ)} {Fits : A → Type 0}
    → ((x : A) → Fits x → IsNotEmpty (spell x)) → IsFormat read spell Fits → IsLine (whole read) spell Fits
unfolding whole
fit_line {read = read} {spell = spell} some f = record {
  found = λ ts x e. let g = f.found ts x [] (judge_ok (read ts) x e) in (g.0 ∙ append-nil (spell x), g.1);
  again = λ x fits. let e : read (spell x) ≡ Some (Ok x, []) = ap read (sym (append-nil (spell x))) ∙ f.again x [] fits in rw e refl;
  clean = f.clean;
  some = some;
}

pub whole_line : {W A : Type 0} {read : List (List ℕ) → Option (Result A W × List (List ℕ))} {spell : A → List (List ℕ)} {Fits : A → Type 0}
    → ((x : A) → IsNotEmpty (spell x)) → IsFormat read spell Fits → IsLine (whole read) spell Fits
whole_line some f = fit_line (λ x fits. some x) f
