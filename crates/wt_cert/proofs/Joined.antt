-- More readers put together: words that tell kinds apart, values seen as others, parts that go by the line before them.
use Rattle.std.proofs.Common.{◌≡◌, ℕ, Bool, true, false, cond, List, [], ◌∷◌, ◌++◌, Option, Some, None, Result, Ok, Err, refl, sym, ap, ◌∙◌, append_assoc, subst}
use Rattle.wt_names.proofs.Numbered.{self_equal}
use Rattle.std.specs.Str.{bytes_eq}
use Rattle.std.proofs.lemmas.Slice.Eq.{bytes_eq-Decides}
use Rattle.wt_text.specs.Lines.{Line}
use Rattle.wt_text.specs.Readers.{TextFault, given, mapped, seen_value, Either, first, second, either_behind, seen_as, part_behind, no_part}
use Rattle.wt_text.specs.Spellings.{IsClean, AllFit}
use Rattle.wt_text.proofs.Split.{AllClean}
use Rattle.wt_text.proofs.Formats.{IsFormat, read_is}
use Rattle.wt_text.proofs.Texts.{IsPart, then_ok, ok_pair, clean_lines, no_lines}

-- ---- in a line

mapped_ok : {W A B : Type 0} (to : A → B) (r : Result A W) (y : B) → mapped to r ≡ Ok y → (a : A) × (r ≡ Ok a) × (to a ≡ y)
mapped_ok to (Ok a) y e = (a, refl, cc)
mapped_ok to (Err w) y e = absurd cc

pub seen_ok : {W A B : Type 0} (to : A → B) (r : Option (Result A W × List (List ℕ))) (y : B) (rest : List (List ℕ)) → seen_value to r ≡ Some (Ok y, rest) → (a : A) × (r ≡ Some (Ok a, rest)) × (to a ≡ y)
seen_ok {W} {A} {B} to None y rest e = absurd cc
seen_ok {W} {A} {B} to (Some x) y rest e =
    let p = read_is (mapped to x.0) (Ok y) x.1 rest e in
    let m = mapped_ok to x.0 y p.0 in
    (m.0, ap (λ (z : Result A W). Some (z, x.1)) m.1 ∙ ap (λ (z : List (List ℕ)). Some (Ok m.0, z)) p.1, m.2)

pub given_format : {W A : Type 0} (x : A) → IsFormat {W = W} (given x) (λ y. []) (λ y. y ≡ x)
given_format {W} {A} x = record {
  found = λ ts y rest e. let p = read_is {X = Result A W} (Ok x) (Ok y) ts rest e in let same : x ≡ y = cc (p.0) in (p.1, sym same);
  again = λ y rest fits. ap (λ (z : A). Some (Ok z, rest)) (sym fits);
  clean = λ y fits. tt;
}

-- a value of the first kind alone
abbrev pub FirstFits : {A B : Type 0} → (A → Type 0) → Either A B → Type 0
FirstFits Fa (first a) = Fa a
FirstFits Fa (second b) = ⊥

pub first_format : {W A B : Type 0} {read : List (List ℕ) → Option (Result A W × List (List ℕ))} {sa : A → List (List ℕ)} {Fa : A → Type 0} (spell : Either A B → List (List ℕ)) → ((a : A) → spell (first a) ≡ sa a)
    → IsFormat read sa Fa → IsFormat (λ ts. seen_value first (read ts)) spell (FirstFits Fa)
first_format {W} {A} {B} {read} {sa} {Fa} spell same f = record { found = found; again = again; clean = clean }
  where
    found : (ts : List (List ℕ)) (x : Either A B) (rest : List (List ℕ)) → seen_value first (read ts) ≡ Some (Ok x, rest) → (ts ≡ spell x ++ rest) × FirstFits Fa x
    found ts x rest e =
        let s = seen_ok first (read ts) x rest e in
        let g = f.found ts s.0 rest s.1 in
        let P : Either A B → Type 0 = λ y. (ts ≡ spell y ++ rest) × FirstFits Fa y in
        subst P s.2 (g.0 ∙ ap (λ (y : List (List ℕ)). y ++ rest) (sym (same s.0)), g.1)

    again : (x : Either A B) (rest : List (List ℕ)) → FirstFits Fa x → seen_value first (read (spell x ++ rest)) ≡ Some (Ok x, rest)
    again (first a) rest fits = rw (same a, f.again a rest fits) refl
    again (second b) rest fits = absurd fits

    clean : (x : Either A B) → FirstFits Fa x → AllFit IsClean (spell x)
    clean (first a) fits = rw (same a) (f.clean a fits)
    clean (second b) fits = absurd fits

abbrev pub either_spelling : {A B : Type 0} → List ℕ → (A → List (List ℕ)) → List ℕ → (B → List (List ℕ)) → Either A B → List (List ℕ)
either_spelling v sa w sb (first a) = v ∷ sa a
either_spelling v sa w sb (second b) = w ∷ sb b

abbrev pub EitherFits : {A B : Type 0} → (A → Type 0) → (B → Type 0) → Either A B → Type 0
EitherFits Fa Fb (first a) = Fa a
EitherFits Fa Fb (second b) = Fb b

pub either_format : {W A B : Type 0} (v : List ℕ) {ra : List (List ℕ) → Option (Result A W × List (List ℕ))} {sa : A → List (List ℕ)} {Fa : A → Type 0} (w : List ℕ) {rb : List (List ℕ) → Option (Result B W × List (List ℕ))} {sb : B → List (List ℕ)} {Fb : B → Type 0}
    → IsClean v → IsClean w → bytes_eq w v ≡ false → IsFormat ra sa Fa → IsFormat rb sb Fb → IsFormat (either_behind v ra w rb) (either_spelling v sa w sb) (EitherFits Fa Fb)
either_format {W} {A} {B} v {ra} {sa} {Fa} w {rb} {sb} {Fb} cv cw apart f g = record { found = found; again = again; clean = clean }
  where
    left : (t : List ℕ) (ts : List (List ℕ)) (x : Either A B) (rest : List (List ℕ)) → bytes_eq t v ≡ true → seen_value first (ra ts) ≡ Some (Ok x, rest) → (t ∷ ts ≡ either_spelling v sa w sb x ++ rest) × EitherFits Fa Fb x
    left t ts x rest k e =
        let s = seen_ok first (ra ts) x rest e in
        let h = f.found ts s.0 rest s.1 in
        let word : t ≡ v = (bytes_eq-Decides t v).0 k in
        let others : ts ≡ sa s.0 ++ rest = h.0 in
        let P : Either A B → Type 0 = λ y. (t ∷ ts ≡ either_spelling v sa w sb y ++ rest) × EitherFits Fa Fb y in
        subst P s.2 (cc, h.1)

    right : (t : List ℕ) (ts : List (List ℕ)) (x : Either A B) (rest : List (List ℕ)) (c : Bool) → bytes_eq t w ≡ c → cond c (seen_value second (rb ts)) None ≡ Some (Ok x, rest) → (t ∷ ts ≡ either_spelling v sa w sb x ++ rest) × EitherFits Fa Fb x
    right t ts x rest false k e = absurd cc
    right t ts x rest true k e =
        let s = seen_ok second (rb ts) x rest e in
        let h = g.found ts s.0 rest s.1 in
        let word : t ≡ w = (bytes_eq-Decides t w).0 k in
        let others : ts ≡ sb s.0 ++ rest = h.0 in
        let P : Either A B → Type 0 = λ y. (t ∷ ts ≡ either_spelling v sa w sb y ++ rest) × EitherFits Fa Fb y in
        subst P s.2 (cc, h.1)

    choose : (t : List ℕ) (ts : List (List ℕ)) (x : Either A B) (rest : List (List ℕ)) (c : Bool) → bytes_eq t v ≡ c → cond c (seen_value first (ra ts)) (cond (bytes_eq t w) (seen_value second (rb ts)) None) ≡ Some (Ok x, rest)
        → (t ∷ ts ≡ either_spelling v sa w sb x ++ rest) × EitherFits Fa Fb x
    choose t ts x rest true k e = left t ts x rest k e
    choose t ts x rest false k e = right t ts x rest (bytes_eq t w) refl e

    found : (ts : List (List ℕ)) (x : Either A B) (rest : List (List ℕ)) → either_behind v ra w rb ts ≡ Some (Ok x, rest) → (ts ≡ either_spelling v sa w sb x ++ rest) × EitherFits Fa Fb x
    found [] x rest e = absurd cc
    found (t ∷ ts) x rest e = choose t ts x rest (bytes_eq t v) refl e

    again : (x : Either A B) (rest : List (List ℕ)) → EitherFits Fa Fb x → either_behind v ra w rb (either_spelling v sa w sb x ++ rest) ≡ Some (Ok x, rest)
    again (first a) rest fits = rw (self_equal v, f.again a rest fits) refl
    again (second b) rest fits = rw (apart, self_equal w, g.again b rest fits) refl

    clean : (x : Either A B) → EitherFits Fa Fb x → AllFit IsClean (either_spelling v sa w sb x)
    clean (first a) fits = (cv, f.clean a fits)
    clean (second b) fits = (cw, g.clean b fits)

-- the same format in other words
pub same_format : {W A : Type 0} {read : List (List ℕ) → Option (Result A W × List (List ℕ))} {spell : A → List (List ℕ)} {Fits : A → Type 0} (spell' : A → List (List ℕ)) (Fits' : A → Type 0) → ((a : A) → spell a ≡ spell' a) → ((a : A) → Fits a → Fits' a) → ((a : A) → Fits' a → Fits a)
    → IsFormat read spell Fits → IsFormat read spell' Fits'
same_format {W} {A} {read} spell' Fits' same to from f = record {
  found = λ ts x rest e. let g = f.found ts x rest e in (g.0 ∙ ap (λ (y : List (List ℕ)). y ++ rest) (same x), to x g.1);
  again = λ x rest fits. ap (λ (y : List (List ℕ)). read (y ++ rest)) (sym (same x)) ∙ f.again x rest (from x fits);
  clean = λ x fits. subst (AllFit IsClean) (same x) (f.clean x (from x fits));
}

-- ---- in a text

-- a part seen as values of another kind, in the words of that kind
pub seen_by : {W A B : Type 0} {read : ℕ × List Line → Result (A × (ℕ × List Line)) (TextFault W)} {spell : A → List Line} {Fits : A → Type 0} (to : A → B) (spell' : B → List Line) (Fits' : B → Type 0)
    → ((a : A) → Fits a → (spell a ≡ spell' (to a)) × Fits' (to a)) → ((b : B) → Fits' b → (a : A) × (to a ≡ b) × Fits a) → IsPart read spell Fits → IsPart (seen_as to read) spell' Fits'
unfolding seen_as
seen_by {W} {A} {B} {read} {spell} {Fits} to spell' Fits' forth back f = record {
  found = λ p x q e.
      let a = then_ok (read p) _ (x, q) e in
      let h = ok_pair (to a.0.0) x a.0.1 q a.2 in
      let g = f.found p a.0.0 a.0.1 a.1 in
      let k = forth a.0.0 g.1 in
      let P : B → Type 0 = λ y. (p.1 ≡ spell' y ++ q.1) × Fits' y in
      let left : spell a.0.0 ++ a.0.1.1 ≡ spell' (to a.0.0) ++ q.1 = ap (λ (y : ℕ × List Line). spell a.0.0 ++ y.1) h.1 ∙ ap (λ (y : List Line). y ++ q.1) k.0 in
      subst P h.0 (g.0 ∙ left, k.1);
  again = λ x n rest fits.
      let b = back x fits in
      let same : spell' x ≡ spell b.0 = ap spell' (sym b.1) ∙ sym (forth b.0 b.2).0 in
      let a = f.again b.0 n rest b.2 in
      (a.0, rw (same, a.1) (ap (λ (y : B). Ok (y, (a.0, rest))) b.1));
  clean = λ x fits.
      let b = back x fits in
      let same : spell b.0 ≡ spell' x = (forth b.0 b.2).0 ∙ ap spell' b.1 in
      subst AllClean same (f.clean b.0 b.2);
}

-- the same part in other words
pub same_part : {W A : Type 0} {read : ℕ × List Line → Result (A × (ℕ × List Line)) (TextFault W)} {spell : A → List Line} {Fits : A → Type 0} (spell' : A → List Line) (Fits' : A → Type 0)
    → ((a : A) → Fits a → (spell a ≡ spell' a) × Fits' a) → ((a : A) → Fits' a → Fits a) → IsPart read spell Fits → IsPart read spell' Fits'
same_part {W} {A} {read} {spell} {Fits} spell' Fits' to from f = record {
  found = λ p x q e. let g = f.found p x q e in let k = to x g.1 in (g.0 ∙ ap (λ (y : List Line). y ++ q.1) k.0, k.1);
  again = λ x n rest fits.
      let a = f.again x n rest (from x fits) in
      let same : spell' x ≡ spell x = sym (to x (from x fits)).0 in
      (a.0, ap (λ (y : List Line). read (n, y ++ rest)) same ∙ a.1);
  clean = λ x fits. subst AllClean (to x (from x fits)).0 (f.clean x (from x fits));
}

-- a part, and what stands behind it, which holds what the part says
pub behind_part : {W A B : Type 0} {ra : ℕ × List Line → Result (A × (ℕ × List Line)) (TextFault W)} {sa : A → List Line} {Fa : A → Type 0} {rb : A → ℕ × List Line → Result (B × (ℕ × List Line)) (TextFault W)} {sb : B → List Line} {Fb : A → B → Type 0}
    (head : B → A) → ((a : A) (b : B) → Fb a b → head b ≡ a) → IsPart ra sa Fa → ((a : A) → Fa a → IsPart (rb a) sb (Fb a)) → IsPart (part_behind ra rb) (λ b. sa (head b) ++ sb b) (λ b. Fa (head b) × Fb (head b) b)
unfolding part_behind
behind_part {W} {A} {B} {ra} {sa} {Fa} {rb} {sb} {Fb} head same f g = record {
  found = λ p x q e.
      let a = then_ok (ra p) _ (x, q) e in
      let fa = f.found p a.0.0 a.0.1 a.1 in
      let fb = (g a.0.0 fa.1).found a.0.1 x q a.2 in
      let P : A → Type 0 = λ y. (p.1 ≡ (sa y ++ sb x) ++ q.1) × (Fa y × Fb y x) in
      subst P (sym (same a.0.0 x fb.1)) (fa.0 ∙ ap (λ (r : List Line). sa a.0.0 ++ r) fb.0 ∙ sym (append_assoc (sa a.0.0) (sb x) q.1), (fa.1, fb.1));
  again = λ x n rest fits.
      let a = f.again (head x) n (sb x ++ rest) fits.0 in
      let b = (g (head x) fits.0).again x a.0 rest fits.1 in
      (b.0, rw (append_assoc (sa (head x)) (sb x) rest, a.1) b.1);
  clean = λ x fits. clean_lines (sa (head x)) (sb x) (f.clean (head x) fits.0) ((g (head x) fits.0).clean x fits.1);
}

-- no line
pub none_part : {W A : Type 0} (x : A) → IsPart {W = W} (no_part x) (λ y. []) (λ y. y ≡ x)
none_part {W} {A} x = record {
  found = λ p y q e. let h = ok_pair {E = TextFault W} x y p q e in (ap (λ (z : ℕ × List Line). z.1) h.1, sym h.0);
  again = λ y n rest fits. (n, ap (λ (z : A). Ok (z, (n, rest))) (sym fits));
  clean = λ y fits. no_lines;
}
