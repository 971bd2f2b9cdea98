-- More readers of tokens that give what their form says: words, counted numbers, and one of two kinds.
use Rattle.std.proofs.Common.{◌≡◌, ℕ, ◌<◌, ◌^◌, List, [], ◌∷◌, length, Option, Some, None, Bool, true, false, cond, nat_le, nat_eq, Result, Ok, Err, refl, sym, ap, ◌∙◌, eq-eqb}
use Rattle.std.specs.Str.{bytes_eq}
use Rattle.std.specs.Fmt.{decimal}
use Rattle.std.proofs.lemmas.Bool.{eqb-true}
use Rattle.std.proofs.lemmas.Slice.Eq.{bytes_eq-Decides}
use Rattle.wt_line.specs.declared.faults.What.{What}
use Rattle.wt_text.specs.Words.{number}
use Rattle.wt_text.specs.Readers.{◌>>=◌, after, within, value_in_front, counted, first, second, mapped, seen_value, either_word, either_behind, value_behind, given, numbers_to, counted_numbers}
use Rattle.wt_text.proofs.Numbers.{number_found, number_again, some_is}
use Rattle.wt_faults.specs.Grammars.{Quantity, first_past}
use Rattle.wt_faults.specs.Forms.{quantity, this_number, a_word, known, as_said, seen, either_of, numbers, counted_list}
use Rattle.wt_faults.proofs.FormLaws.{held, tokens_say, IsSaid, within_held, held_front}

pub word_said : {A : Type 0} (v : List ℕ) (a : A) (w : List ℕ) (b : A) → IsSaid (either_word v a w b) (a_word v a w b)
word_said {A} v a w b = record { same = same }
  where
    by : (x y : Bool) (ts : List (List ℕ)) → ◌≡◌ {A = Option (Result A What × List (List ℕ))} (cond x (Some (Ok a, ts)) (cond y (Some (Ok b, ts)) None)) (tokens_say (cond x (Some ((a, []), ts)) (cond y (Some ((b, []), ts)) None)))
    by true y ts = refl
    by false true ts = refl
    by false false ts = refl

    same : (ts : List (List ℕ)) → either_word v a w b ts ≡ tokens_say (a_word v a w b ts)
    same [] = refl
    same (t ∷ ts) = by (bytes_eq t v) (bytes_eq t w) ts

pub known_said : {A : Type 0} (x : A) → IsSaid (given x) (known x)
known_said x = record { same = λ ts. refl }

mapped_held : {A B : Type 0} (to : A → B) (a : A) (o : Option What) → mapped to (held a o) ≡ held (to a) o
mapped_held to a None = refl
mapped_held to a (Some what) = refl

seen_said : {A B : Type 0} (to : A → B) (o : Option ((A × List Quantity) × List (List ℕ))) → seen_value to (tokens_say o) ≡ tokens_say (o >>= λ x. Some (as_said to x))
seen_said to None = refl
seen_said {A} {B} to (Some x) = ap (λ (r : Result B What). Some (r, x.1)) (mapped_held to x.0.0 (first_past x.0.1))

-- a reader whose values are seen as others
pub as_seen : {A B : Type 0} {read : List (List ℕ) → Option (Result A What × List (List ℕ))} {form : List (List ℕ) → Option ((A × List Quantity) × List (List ℕ))} (to : A → B)
    → IsSaid read form → IsSaid (λ ts. seen_value to (read ts)) (seen to form)
as_seen {A} {read = read} {form = form} to f = record { same = λ ts. ap (λ (o : Option (Result A What × List (List ℕ))). seen_value to o) (f.same ts) ∙ seen_said to (form ts) }

pub either_said : {A B : Type 0} (v : List ℕ) {ra : List (List ℕ) → Option (Result A What × List (List ℕ))} {fa : List (List ℕ) → Option ((A × List Quantity) × List (List ℕ))} (w : List ℕ) {rb : List (List ℕ) → Option (Result B What × List (List ℕ))} {fb : List (List ℕ) → Option ((B × List Quantity) × List (List ℕ))}
    → IsSaid ra fa → IsSaid rb fb → IsSaid (either_behind v ra w rb) (either_of v fa w fb)
either_said {A} {B} v {ra} {fa} w {rb} {fb} f g = record { same = same }
  where
    by : (x y : Bool) (ts : List (List ℕ)) → cond x (seen_value first (ra ts)) (cond y (seen_value second (rb ts)) None) ≡ tokens_say (cond x (seen first fa ts) (cond y (seen second fb ts) None))
    by true y ts = (as_seen first f).same ts
    by false true ts = (as_seen second g).same ts
    by false false ts = refl

    same : (ts : List (List ℕ)) → either_behind v ra w rb ts ≡ tokens_say (either_of v fa w fb ts)
    same [] = refl
    same (t ∷ ts) = by (bytes_eq t v) (bytes_eq t w) ts

-- the token of a number that is known
pub this_said : {A : Type 0} {read : List (List ℕ) → Option (Result A What × List (List ℕ))} {form : List (List ℕ) → Option ((A × List Quantity) × List (List ℕ))} (k : ℕ) → k < 2 ^ 64
    → IsSaid read form → IsSaid (value_behind (decimal k) read) (this_number k form)
unfolding value_behind
this_said {A} {read} {form} k small f = record { same = same }
  where
    right : (t : List ℕ) (ts : List (List ℕ)) → number t ≡ Some k → (cond (bytes_eq t (decimal k)) (Some ts) None >>= read) ≡ tokens_say (form ts)
    right t ts is = let same : bytes_eq t (decimal k) ≡ true = (bytes_eq-Decides t (decimal k)).1 (number_found t k is small) in rw same (f.same ts)

    wrong : (t : List ℕ) (ts : List (List ℕ)) → (number t ≡ Some k → ⊥) → (cond (bytes_eq t (decimal k)) (Some ts) None >>= read) ≡ None
    wrong t ts other = go (bytes_eq t (decimal k)) refl
      where
        go : (b : Bool) → bytes_eq t (decimal k) ≡ b → (cond b (Some ts) None >>= read) ≡ None
        go true e = absurd (other (ap number ((bytes_eq-Decides t (decimal k)).0 e) ∙ number_again k small))
        go false e = refl

    apart : (n : ℕ) → nat_eq n k ≡ false → n ≡ k → ⊥
    apart n e same = let t : true ≡ false = sym (eq-eqb n k same) ∙ e in cc

    by : (t : List ℕ) (ts : List (List ℕ)) (o : Option ℕ) → number t ≡ o → (cond (bytes_eq t (decimal k)) (Some ts) None >>= read) ≡ tokens_say (o >>= λ n. cond (nat_eq n k) (form ts) None)
    by t ts None is = wrong t ts (λ e. let no' : None ≡ Some k = sym is ∙ e in cc)
    by t ts (Some n) is = go (nat_eq n k) refl
      where
        go : (b : Bool) → nat_eq n k ≡ b → (cond (bytes_eq t (decimal k)) (Some ts) None >>= read) ≡ tokens_say (cond b (form ts) None)
        go true e = right t ts (is ∙ ap (λ (m : ℕ). Some m) (eqb-true n k e))
        go false e = wrong t ts (λ h. apart n e (some_is n k (sym is ∙ h)))

    same : (ts : List (List ℕ)) → (after (decimal k) ts >>= read) ≡ tokens_say (this_number k form ts)
    same [] = refl
    same (t ∷ ts) = by t ts (number t) refl

-- ---- numbers to the end of a line

-- what numbers to the end say
abbrev pub list_says : Option (List ℕ × List Quantity) → Option (Result (List ℕ) What)
list_says None = None
list_says (Some x) = Some (held x.0 (first_past x.1))

numbers_said : (most : ℕ) (what : What) (ts : List (List ℕ)) → numbers_to most what ts ≡ list_says (numbers most what ts)
numbers_said most what [] = refl
numbers_said most what (t ∷ ts) = by (number t) (numbers_said most what ts)
  where
    right : (n : ℕ) (o : Option (List ℕ × List Quantity)) → (list_says o >>= λ ns. Some (value_in_front (within most what n) ns)) ≡ list_says (o >>= λ x. Some (n ∷ x.0, quantity what most n ∷ x.1))
    right n None = refl
    right n (Some x) =
        ap (λ (r : Result ℕ What). Some (value_in_front r (held x.0 (first_past x.1)))) (within_held most what n)
        ∙ ap (λ (r : Result (List ℕ) What). Some r) (held_front n x.0 (quantity what most n ∷ []) x.1)

    by : (o : Option ℕ) → numbers_to most what ts ≡ list_says (numbers most what ts)
        → (o >>= λ n. numbers_to most what ts >>= λ ns. Some (value_in_front (within most what n) ns)) ≡ list_says (o >>= λ n. numbers most what ts >>= λ x. Some (n ∷ x.0, quantity what most n ∷ x.1))
    by None later = refl
    by (Some n) later = ap (λ (o : Option (Result (List ℕ) What)). o >>= λ ns. Some (value_in_front (within most what n) ns)) later ∙ right n (numbers most what ts)

pub counted_said : (many : ℕ) (kind : What) (most : ℕ) (what : What) → IsSaid (counted_numbers many kind most what) (counted_list many kind most what)
counted_said many kind most what = record { same = same }
  where
    hold : (n : ℕ) (x : List ℕ × List Quantity) → counted (within many kind n) (held x.0 (first_past x.1)) ≡ held x.0 (first_past (quantity kind many n ∷ x.1))
    hold n x = go (nat_le n many)
      where
        go : (b : Bool) → counted (cond b (Ok n) (Err kind)) (held x.0 (first_past x.1)) ≡ held x.0 (cond b (first_past x.1) (Some kind))
        go true = refl
        go false = refl

    right : (n : ℕ) (o : Option (List ℕ × List Quantity)) → ◌≡◌ {A = Option (Result (List ℕ) What × List (List ℕ))} (list_says o >>= λ ns. Some (counted (within many kind n) ns, [])) (tokens_say (o >>= λ x. Some ((x.0, quantity kind many n ∷ x.1), [])))
    right n None = refl
    right n (Some x) = ap (λ (r : Result (List ℕ) What). Some (r, [])) (hold n x)

    test : (ts : List (List ℕ)) (n : ℕ) (b : Bool) → ◌≡◌ {A = Option (Result (List ℕ) What × List (List ℕ))} (cond b (numbers_to most what ts >>= λ ns. Some (counted (within many kind n) ns, [])) None) (tokens_say (cond b (numbers most what ts >>= λ x. Some ((x.0, quantity kind many n ∷ x.1), [])) None))
    test ts n true = ap (λ (o : Option (Result (List ℕ) What)). o >>= λ ns. Some (counted (within many kind n) ns, [])) (numbers_said most what ts) ∙ right n (numbers most what ts)
    test ts n false = refl

    by : (ts : List (List ℕ)) (o : Option ℕ) → (o >>= λ n. cond (nat_eq (length ts) n) (numbers_to most what ts >>= λ ns. Some (counted (within many kind n) ns, [])) None)
        ≡ tokens_say (o >>= λ n. cond (nat_eq (length ts) n) (numbers most what ts >>= λ x. Some ((x.0, quantity kind many n ∷ x.1), [])) None)
    by ts None = refl
    by ts (Some n) = test ts n (nat_eq (length ts) n)

    same : (ts : List (List ℕ)) → counted_numbers many kind most what ts ≡ tokens_say (counted_list many kind most what ts)
    same [] = refl
    same (t ∷ ts) = by ts (number t)
