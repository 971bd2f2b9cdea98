-- Readers of tokens give what their form says, or the first limit that is passed.
use Rattle.std.proofs.Common.{◌≡◌, ℕ, zero, suc, List, [], ◌∷◌, ◌++◌, Option, Some, None, Bool, true, false, cond, nat_le, nat_eq, Result, Ok, Err, refl, sym, ap, ◌∙◌}
use Rattle.wt_line.specs.declared.faults.What.{What}
use Rattle.wt_line.specs.Limits.{number_from_one}
use Rattle.wt_text.specs.Words.{number}
use Rattle.wt_text.specs.Readers.{◌>>=◌, pair, after, within, number_to, value_behind, both, value_in_front, LineFault, wrong, judged, judge, whole}
use Rattle.wt_names.specs.Rows.{is_name, name_word}
use Rattle.wt_pattern.specs.PatternRows.{times}
use Rattle.wt_faults.specs.Grammars.{Quantity, first_past}
use Rattle.wt_faults.specs.Forms.{quantity, a_number, a_number_from_one, a_name, behind_word, joined, two, led, so_many, no_more, alone}
use Rattle.wt_faults.proofs.Follows.{unless_past, line_says, IsOfForm}

-- what is said, or the limit that is passed
abbrev pub held : {A : Type 0} → A → Option What → Result A What
held x None = Ok x
held x (Some what) = Err what

-- what a reader of tokens gives, by what they say
abbrev pub tokens_say : {A : Type 0} → Option ((A × List Quantity) × List (List ℕ)) → Option (Result A What × List (List ℕ))
tokens_say None = None
tokens_say (Some x) = Some (held x.0.0 (first_past x.0.1), x.1)

-- a reader of tokens gives what this form says
pub record IsSaid {A : Type 0} (read : List (List ℕ) → Option (Result A What × List (List ℕ))) (form : List (List ℕ) → Option ((A × List Quantity) × List (List ℕ))) : Type 0 where
  pub same : (ts : List (List ℕ)) → read ts ≡ tokens_say (form ts)

pub within_held : (most : ℕ) (what : What) (n : ℕ) → within most what n ≡ held n (first_past (quantity what most n ∷ []))
within_held most what n = by (nat_le n most)
  where
    by : (b : Bool) → cond b (Ok n) (Err what) ≡ held n (cond b None (Some what))
    by true = refl
    by false = refl

pub number_said : (most : ℕ) (what : What) → IsSaid (number_to most what) (a_number most what)
number_said most what = record { same = same }
  where
    by : (ts : List (List ℕ)) (o : Option ℕ) → (o >>= λ n. Some (within most what n, ts)) ≡ tokens_say (o >>= λ n. Some ((n, quantity what most n ∷ []), ts))
    by ts None = refl
    by ts (Some n) = ap (λ (r : Result ℕ What). Some (r, ts)) (within_held most what n)

    same : (ts : List (List ℕ)) → number_to most what ts ≡ tokens_say (a_number most what ts)
    same [] = refl
    same (t ∷ ts) = by ts (number t)

pub from_one_said : (most : ℕ) (what : What) → IsSaid (number_from_one most what) (a_number_from_one most what)
from_one_said most what = record { same = same }
  where
    zero' : (ts : List (List ℕ)) (n : ℕ) (b : Bool) → cond b None (Some (within most what n, ts)) ≡ tokens_say (cond b None (Some ((n, quantity what most n ∷ []), ts)))
    zero' ts n true = refl
    zero' ts n false = ap (λ (r : Result ℕ What). Some (r, ts)) (within_held most what n)

    by : (ts : List (List ℕ)) (o : Option ℕ) → (o >>= λ n. cond (nat_eq n 0) None (Some (within most what n, ts))) ≡ tokens_say (o >>= λ n. cond (nat_eq n 0) None (Some ((n, quantity what most n ∷ []), ts)))
    by ts None = refl
    by ts (Some n) = zero' ts n (nat_eq n 0)

    same : (ts : List (List ℕ)) → number_from_one most what ts ≡ tokens_say (a_number_from_one most what ts)
    same [] = refl
    same (t ∷ ts) = by ts (number t)

pub name_said : IsSaid name_word a_name
name_said = record { same = same }
  where
    by : (t : List ℕ) (ts : List (List ℕ)) (b : Bool) → ◌≡◌ {A = Option (Result (List ℕ) What × List (List ℕ))} (cond b (Some (Ok t, ts)) None) (tokens_say (cond b (Some ((t, []), ts)) None))
    by t ts true = refl
    by t ts false = refl

    same : (ts : List (List ℕ)) → name_word ts ≡ tokens_say (a_name ts)
    same [] = refl
    same (t ∷ ts) = by t ts (is_name t)

pub behind_said : {A : Type 0} {read : List (List ℕ) → Option (Result A What × List (List ℕ))} {form : List (List ℕ) → Option ((A × List Quantity) × List (List ℕ))} (w : List ℕ)
    → IsSaid read form → IsSaid (value_behind w read) (behind_word w form)
unfolding value_behind
behind_said {read = read} {form = form} w law = record { same = λ ts. by (after w ts) }
  where
    by : (o : Option (List (List ℕ))) → (o >>= read) ≡ tokens_say (o >>= form)
    by None = refl
    by (Some ts) = law.same ts

-- the limits of the first come before those of the second
pub past_left : (qs rs : List Quantity) (what : What) → first_past qs ≡ Some what → first_past (qs ++ rs) ≡ Some what
past_left [] rs what e = absurd cc
past_left (q ∷ qs) rs what e = by (nat_le q.size q.most) (past_left qs rs what) e
  where
    by : (b : Bool) → (first_past qs ≡ Some what → first_past (qs ++ rs) ≡ Some what) → cond b (first_past qs) (Some q.what) ≡ Some what → cond b (first_past (qs ++ rs)) (Some q.what) ≡ Some what
    by true later k = later k
    by false later k = k

pub past_right : (qs rs : List Quantity) → first_past qs ≡ None → first_past (qs ++ rs) ≡ first_past rs
past_right [] rs e = refl
past_right (q ∷ qs) rs e = by (nat_le q.size q.most) (past_right qs rs) e
  where
    by : (b : Bool) → (first_past qs ≡ None → first_past (qs ++ rs) ≡ first_past rs) → cond b (first_past qs) (Some q.what) ≡ None → cond b (first_past (qs ++ rs)) (Some q.what) ≡ first_past rs
    by true later k = later k
    by false later k = absurd cc

pub held_both : {A B : Type 0} (a : A) (b : B) (qs rs : List Quantity) → pair (held a (first_past qs)) (held b (first_past rs)) ≡ held (a, b) (first_past (qs ++ rs))
held_both {A} {B} a b qs rs = by (first_past qs) refl
  where
    right : (o : Option What) → pair (Ok a) (held b o) ≡ held (a, b) o
    right None = refl
    right (Some what) = refl

    by : (o : Option What) → first_past qs ≡ o → pair (held a o) (held b (first_past rs)) ≡ held (a, b) (first_past (qs ++ rs))
    by None e = right (first_past rs) ∙ ap (λ (o : Option What). held (a, b) o) (sym (past_right qs rs e))
    by (Some what) e = ap (λ (o : Option What). held (a, b) o) (sym (past_left qs rs what e))

pub both_said : {A B : Type 0} {ra : List (List ℕ) → Option (Result A What × List (List ℕ))} {fa : List (List ℕ) → Option ((A × List Quantity) × List (List ℕ))} {rb : List (List ℕ) → Option (Result B What × List (List ℕ))} {fb : List (List ℕ) → Option ((B × List Quantity) × List (List ℕ))}
    → IsSaid ra fa → IsSaid rb fb → IsSaid (both ra rb) (two fa fb)
unfolding both
both_said {A} {B} {ra} {fa} {rb} {fb} f g = record { same = λ ts. ap (λ (o : Option (Result A What × List (List ℕ))). o >>= λ a. rb a.1 >>= λ b. Some (pair a.0 b.0, b.1)) (f.same ts) ∙ left (fa ts) }
  where
    right : (a : A × List Quantity) (o : Option ((B × List Quantity) × List (List ℕ))) → (tokens_say o >>= λ b. Some (pair (held a.0 (first_past a.1)) b.0, b.1)) ≡ tokens_say (o >>= λ b. Some (joined a b))
    right a None = refl
    right a (Some b) = ap (λ (r : Result (A × B) What). Some (r, b.1)) (held_both a.0 b.0.0 a.1 b.0.1)

    left : (o : Option ((A × List Quantity) × List (List ℕ))) → (tokens_say o >>= λ a. rb a.1 >>= λ b. Some (pair a.0 b.0, b.1)) ≡ tokens_say (o >>= λ a. fb a.1 >>= λ b. Some (joined a.0 b))
    left None = refl
    left (Some a) = ap (λ (o : Option (Result B What × List (List ℕ))). o >>= λ b. Some (pair (held a.0.0 (first_past a.0.1)) b.0, b.1)) (g.same a.1) ∙ right a.0 (fb a.1)

pub held_front : {A : Type 0} (a : A) (b : List A) (qs rs : List Quantity) → value_in_front (held a (first_past qs)) (held b (first_past rs)) ≡ held (a ∷ b) (first_past (qs ++ rs))
held_front {A} a b qs rs = by (first_past qs) refl
  where
    right : (o : Option What) → value_in_front (Ok a) (held b o) ≡ held (a ∷ b) o
    right None = refl
    right (Some what) = refl

    by : (o : Option What) → first_past qs ≡ o → value_in_front (held a o) (held b (first_past rs)) ≡ held (a ∷ b) (first_past (qs ++ rs))
    by None e = right (first_past rs) ∙ ap (λ (o : Option What). held (a ∷ b) o) (sym (past_right qs rs e))
    by (Some what) e = ap (λ (o : Option What). held (a ∷ b) o) (sym (past_left qs rs what e))

pub times_said : {A : Type 0} {read : List (List ℕ) → Option (Result A What × List (List ℕ))} {form : List (List ℕ) → Option ((A × List Quantity) × List (List ℕ))} → IsSaid read form
    → (n : ℕ) → IsSaid (times read n) (so_many form n)
times_said f zero = record { same = λ ts. refl }
times_said {A} {read} {form} f (suc n) = record { same = λ ts. ap (λ (o : Option (Result A What × List (List ℕ))). o >>= λ a. times read n a.1 >>= λ x. Some (value_in_front a.0 x.0, x.1)) (f.same ts) ∙ left (λ us. (times_said f n).same us) (form ts) }
  where
    right : (a : A × List Quantity) (o : Option ((List A × List Quantity) × List (List ℕ))) → (tokens_say o >>= λ b. Some (value_in_front (held a.0 (first_past a.1)) b.0, b.1)) ≡ tokens_say (o >>= λ b. Some (led a b))
    right a None = refl
    right a (Some b) = ap (λ (r : Result (List A) What). Some (r, b.1)) (held_front a.0 b.0.0 a.1 b.0.1)

    left : ((us : List (List ℕ)) → times read n us ≡ tokens_say (so_many form n us)) → (o : Option ((A × List Quantity) × List (List ℕ)))
        → (tokens_say o >>= λ a. times read n a.1 >>= λ x. Some (value_in_front a.0 x.0, x.1)) ≡ tokens_say (o >>= λ a. so_many form n a.1 >>= λ b. Some (led a.0 b))
    left later None = refl
    left later (Some a) = ap (λ (o : Option (Result (List A) What × List (List ℕ))). o >>= λ b. Some (value_in_front (held a.0.0 (first_past a.0.1)) b.0, b.1)) (later a.1) ∙ right a.0 (so_many form n a.1)

-- a line, whole
pub whole_said : {A : Type 0} {read : List (List ℕ) → Option (Result A What × List (List ℕ))} {form : List (List ℕ) → Option ((A × List Quantity) × List (List ℕ))} → IsSaid read form → IsOfForm (whole read) (alone form)
unfolding whole
whole_said {A} {read} {form} f = record { says = λ ts. ap (λ (o : Option (Result A What × List (List ℕ))). judge o) (f.same ts) ∙ by (form ts) }
  where
    end : (x : A) (o : Option What) (ts : List (List ℕ)) → judged (held x o) ts ≡ elim ts as (λ u. Result A (LineFault What)) [ [] ↦ unless_past x o | t ∷ ts' ↦ Err wrong ]
    end x None [] = refl
    end x (Some what) [] = refl
    end x None (t ∷ ts) = refl
    end x (Some what) (t ∷ ts) = refl

    last : (x : A × List Quantity) (ts : List (List ℕ)) → judged (held x.0 (first_past x.1)) ts ≡ line_says (no_more x ts)
    last x [] = end x.0 (first_past x.1) []
    last x (t ∷ ts) = end x.0 (first_past x.1) (t ∷ ts)

    by : (o : Option ((A × List Quantity) × List (List ℕ))) → judge (tokens_say o) ≡ line_says (o >>= λ x. no_more x.0 x.1)
    by None = refl
    by (Some x) = last x.0 x.1
