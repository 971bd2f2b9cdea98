-- Readers that follow a grammar.
use Rattle.std.proofs.Common.{◌≡◌, ℕ, zero, suc, ◌+◌, List, [], ◌∷◌, Option, Some, None, Bool, true, false, ◌&&◌, cond, Result, Ok, Err, refl, sym, ap, ◌∙◌}
use Rattle.wt_line.specs.declared.faults.What.{What}
use Rattle.wt_text.specs.Words.{tokens}
use Rattle.wt_text.specs.Lines.{Line}
use Rattle.wt_text.specs.Readers.{◌then◌, LineFault, wrong, past, TextFault, syntax_at, line_read, line_at, one_line, both_parts, many_parts, counted_parts, ended_here, whole_text, seen_as, part_by, part_behind, no_part}
use Rattle.wt_faults.specs.Grammars.{Grammar, ends, Quantity, first_past, has_form, quantities, going_on, one, many, many_in_turn}
use Rattle.wt_faults.proofs.First.{past_or, first_fault}

-- the fault of a part, or what comes behind it
abbrev pub outcome : {A : Type 0} → (A → ℕ → List Line → Option (TextFault What)) → Result (A × (ℕ × List Line)) (TextFault What) → Option (TextFault What)
outcome later (Ok x) = later x.0 x.1.0 x.1.1
outcome later (Err f) = Some f

-- a reader has the faults of this grammar, whatever comes behind it
pub record IsRead {A : Type 0} (read : ℕ × List Line → Result (A × (ℕ × List Line)) (TextFault What)) (part : (A → Grammar) → Grammar) : Type 0 where
  pub same : (next : A → Grammar) (p : ℕ × List Line) → first_fault (part next) p.0 p.1 ≡ outcome (λ x n ls. first_fault (next x) n ls) (read p)

-- ---- one line

-- what a line says, or the limit that it passes
abbrev pub unless_past : {A : Type 0} → A → Option What → Result A (LineFault What)
unless_past x None = Ok x
unless_past x (Some what) = Err (past what)

-- what a reader of lines gives, by what the line says
abbrev pub line_says : {A : Type 0} → Option (A × List Quantity) → Result A (LineFault What)
line_says None = Err wrong
line_says (Some x) = unless_past x.0 (first_past x.1)

-- a reader of lines gives what lines of this form say
pub record IsOfForm {A : Type 0} (read : List (List ℕ) → Result A (LineFault What)) (form : List (List ℕ) → Option (A × List Quantity)) : Type 0 where
  pub says : (ts : List (List ℕ)) → read ts ≡ line_says (form ts)

pub one_read : {A : Type 0} {read : List (List ℕ) → Result A (LineFault What)} {form : List (List ℕ) → Option (A × List Quantity)} → IsOfForm read form → IsRead (one_line read) (one form)
unfolding one_line
one_read {A} {read} {form} law = record { same = λ next p. by next p.0 p.1 }
  where
    through : (next : A → Grammar) (n : ℕ) (ls : List Line) (o : Option (A × List Quantity))
        → cond (has_form o) (past_or n (first_past (quantities o)) (first_fault (going_on next o) (n + 1) ls)) (Some (syntax_at n)) ≡ outcome (λ x n ls. first_fault (next x) n ls) (line_read n ls (line_says o))
    through next n ls None = refl
    through next n ls (Some x) = go (first_past x.1)
      where
        go : (o : Option What) → past_or n o (first_fault (next x.0) (n + 1) ls) ≡ outcome (λ x n ls. first_fault (next x) n ls) (line_read n ls (unless_past x.0 o))
        go None = refl
        go (Some what) = refl

    whole : (next : A → Grammar) (n : ℕ) (ls : List Line) (ended : Bool) (ts : List (List ℕ))
        → cond (ended && has_form (form ts)) (past_or n (first_past (quantities (form ts))) (first_fault (going_on next (form ts)) (n + 1) ls)) (Some (syntax_at n))
        ≡ outcome (λ x n ls. first_fault (next x) n ls) (cond ended (line_read n ls (read ts)) (Err (syntax_at n)))
    whole next n ls false ts = refl
    whole next n ls true ts = through next n ls (form ts) ∙ ap (λ (r : Result A (LineFault What)). outcome (λ x n ls. first_fault (next x) n ls) (line_read n ls r)) (sym (law.says ts))

    by : (next : A → Grammar) (n : ℕ) (ls : List Line) → first_fault (one form next) n ls ≡ outcome (λ x n ls. first_fault (next x) n ls) (line_at read n ls)
    by next n [] = refl
    by next n (l ∷ ls) = whole next n ls l.ended (tokens l.text)

-- ---- parts

-- what is read behind a part
then_outcome : {A B : Type 0} (later : B → ℕ → List Line → Option (TextFault What)) (r : Result (A × (ℕ × List Line)) (TextFault What)) (f : A × (ℕ × List Line) → Result (B × (ℕ × List Line)) (TextFault What))
    → outcome later (r then f) ≡ outcome (λ x n ls. outcome later (f (x, (n, ls)))) r
then_outcome later (Ok x) f = refl
then_outcome later (Err e) f = refl

-- what comes behind a part may be said in another way
same_outcome : {A : Type 0} (f g : A → ℕ → List Line → Option (TextFault What)) (r : Result (A × (ℕ × List Line)) (TextFault What)) → ((x : A) (n : ℕ) (ls : List Line) → f x n ls ≡ g x n ls) → outcome f r ≡ outcome g r
same_outcome f g (Ok x) same = same x.0 x.1.0 x.1.1
same_outcome f g (Err e) same = refl

pub seen_read : {A B : Type 0} (to : A → B) {read : ℕ × List Line → Result (A × (ℕ × List Line)) (TextFault What)} {part : (A → Grammar) → Grammar} → IsRead read part → IsRead (seen_as to read) (λ next. part (λ x. next (to x)))
unfolding seen_as
seen_read to {read} {part} f = record { same = λ next p. f.same (λ x. next (to x)) p ∙ sym (then_outcome (λ x n ls. first_fault (next x) n ls) (read p) (λ x. Ok (to x.0, x.1))) }

pub behind_read : {A B : Type 0} {ra : ℕ × List Line → Result (A × (ℕ × List Line)) (TextFault What)} {pa : (A → Grammar) → Grammar} {rb : A → ℕ × List Line → Result (B × (ℕ × List Line)) (TextFault What)} {pb : A → (B → Grammar) → Grammar}
    → IsRead ra pa → ((a : A) → IsRead (rb a) (pb a)) → IsRead (part_behind ra rb) (λ next. pa (λ a. pb a next))
unfolding part_behind
behind_read {ra = ra} {rb = rb} {pb = pb} f g = record {
  same = λ next p.
      f.same (λ a. pb a next) p
      ∙ same_outcome _ (λ x n ls. outcome (λ y m more. first_fault (next y) m more) (rb x (n, ls))) (ra p) (λ x n ls. (g x).same next (n, ls))
      ∙ sym (then_outcome (λ y m more. first_fault (next y) m more) (ra p) (λ a. rb a.0 a.1));
}

pub by_read : {A B : Type 0} {ra : ℕ × List Line → Result (A × (ℕ × List Line)) (TextFault What)} {pa : (A → Grammar) → Grammar} {rb : A → ℕ × List Line → Result (B × (ℕ × List Line)) (TextFault What)} {pb : A → (B → Grammar) → Grammar}
    → IsRead ra pa → ((a : A) → IsRead (rb a) (pb a)) → IsRead (part_by ra rb) (λ next. pa (λ a. pb a (λ b. next (a, b))))
unfolding part_by
by_read {A} {B} {ra} {pa} {rb} {pb} f g = record {
  same = λ next p.
      f.same (λ a. pb a (λ b. next (a, b))) p
      ∙ same_outcome _ (λ x n ls. outcome (λ y m more. first_fault (next y) m more) (rb x (n, ls) then λ b. Ok ((x, b.0), b.1))) (ra p)
      (λ x n ls. (g x).same (λ b. next (x, b)) (n, ls) ∙ sym (then_outcome (λ y m more. first_fault (next y) m more) (rb x (n, ls)) (λ b. Ok ((x, b.0), b.1))))
      ∙ sym (then_outcome (λ y m more. first_fault (next y) m more) (ra p) (λ a. rb a.0 a.1 then λ b. Ok ((a.0, b.0), b.1)));
}

pub both_read : {A B : Type 0} {ra : ℕ × List Line → Result (A × (ℕ × List Line)) (TextFault What)} {pa : (A → Grammar) → Grammar} {rb : ℕ × List Line → Result (B × (ℕ × List Line)) (TextFault What)} {pb : (B → Grammar) → Grammar}
    → IsRead ra pa → IsRead rb pb → IsRead (both_parts ra rb) (λ next. pa (λ a. pb (λ b. next (a, b))))
unfolding both_parts
both_read {A} {B} {ra} {pa} {rb} {pb} f g = record {
  same = λ next p.
      f.same (λ a. pb (λ b. next (a, b))) p
      ∙ same_outcome _ (λ x n ls. outcome (λ y m more. first_fault (next y) m more) (rb (n, ls) then λ b. Ok ((x, b.0), b.1))) (ra p)
      (λ x n ls. g.same (λ b. next (x, b)) (n, ls) ∙ sym (then_outcome (λ y m more. first_fault (next y) m more) (rb (n, ls)) (λ b. Ok ((x, b.0), b.1))))
      ∙ sym (then_outcome (λ y m more. first_fault (next y) m more) (ra p) (λ a. rb a.1 then λ b. Ok ((a.0, b.0), b.1)));
}

pub none_read : {A : Type 0} (x : A) → IsRead (no_part x) (λ next. next x)
none_read x = record { same = λ next p. refl }

-- parts that are read alike, one after the other
pub many_read : {A S : Type 0} {read : S → ℕ × List Line → Result (A × (ℕ × List Line)) (TextFault What)} {part : (A → Grammar) → Grammar} (next : S → A → S) → ((s : S) → IsRead (read s) part)
    → (s : S) (n : ℕ) → IsRead (many_parts read next s n) (many part n)
many_read {read = read} {part = part} next f s zero = record { same = λ later p. refl }
many_read {A} {S} {read} {part} next f s (suc n) = record {
  same = λ later p.
      (f s).same (λ x. many part n (λ xs. later (x ∷ xs))) p
      ∙ same_outcome _ (λ x m ls. outcome (λ y k more. first_fault (later y) k more) (many_parts read next (next s x) n (m, ls) then λ xs. Ok (x ∷ xs.0, xs.1))) (read s p)
      (λ x m ls. (many_read next f (next s x) n).same (λ xs. later (x ∷ xs)) (m, ls)
      ∙ sym (then_outcome (λ y k more. first_fault (later y) k more) (many_parts read next (next s x) n (m, ls)) (λ xs. Ok (x ∷ xs.0, xs.1))))
      ∙ sym (then_outcome (λ y k more. first_fault (later y) k more) (read s p) (λ a. many_parts read next (next s a.0) n a.1 then λ as'. Ok (a.0 ∷ as'.0, as'.1)));
}

-- ---- a text, whole

-- the fault of a text, if there is one
abbrev pub fault_of : {A : Type 0} → Result A (TextFault What) → Option (TextFault What)
fault_of (Ok x) = None
fault_of (Err f) = Some f

pub whole_read : {A : Type 0} {read : ℕ × List Line → Result (A × (ℕ × List Line)) (TextFault What)} {part : (A → Grammar) → Grammar} → IsRead read part
    → (ls : List Line) → first_fault (part (λ x. ends)) 1 ls ≡ fault_of (whole_text read ls)
unfolding whole_text
whole_read {A} {read} {part} f = λ ls. f.same (λ x. ends) (1, ls) ∙ by (read (1, ls))
  where
    end : (x : A) (n : ℕ) (ls : List Line) → first_fault ends n ls ≡ fault_of (ended_here x n ls)
    end x n [] = refl
    end x n (l ∷ ls) = refl

    by : (r : Result (A × (ℕ × List Line)) (TextFault What)) → outcome (λ x n ls. first_fault ends n ls) r ≡ fault_of (r then λ x. ended_here x.0 x.1.0 x.1.1)
    by (Ok x) = end x.0 x.1.0 x.1.1
    by (Err e) = refl

-- ---- parts that go by what was read before

-- what comes behind a part may be said in another way, for what was read
same_where : {A : Type 0} (f g : A → ℕ → List Line → Option (TextFault What)) (r : Result (A × (ℕ × List Line)) (TextFault What)) → ((x : A) (n : ℕ) (ls : List Line) → r ≡ Ok (x, (n, ls)) → f x n ls ≡ g x n ls) → outcome f r ≡ outcome g r
same_where f g (Ok x) same = same x.0 x.1.0 x.1.1 refl
same_where f g (Err e) same = refl

module _ {A S : Type 0} {read : S → ℕ × List Line → Result (A × (ℕ × List Line)) (TextFault What)} {part : S → (A → Grammar) → Grammar} (left : S → A → S) (Can : S → ℕ → Type 0)
    (f : (s : S) (n : ℕ) → Can s (suc n) → IsRead (read s) (part s)) (keep : (s : S) (x : A) (n : ℕ) → Can s (suc n) → Can (left s x) n) where
  pub turn_read : (s : S) (n : ℕ) → Can s n → IsRead (many_parts read left s n) (many_in_turn part left s n)
  turn_read s zero can = record { same = λ later p. refl }
  turn_read s (suc n) can = record {
    same = λ later p.
        (f s n can).same (λ x. many_in_turn part left (left s x) n (λ xs. later (x ∷ xs))) p
        ∙ same_outcome _ (λ x m ls. outcome (λ y k more. first_fault (later y) k more) (many_parts read left (left s x) n (m, ls) then λ xs. Ok (x ∷ xs.0, xs.1))) (read s p)
        (λ x m ls. (turn_read (left s x) n (keep s x n can)).same (λ xs. later (x ∷ xs)) (m, ls)
        ∙ sym (then_outcome (λ y k more. first_fault (later y) k more) (many_parts read left (left s x) n (m, ls)) (λ xs. Ok (x ∷ xs.0, xs.1))))
        ∙ sym (then_outcome (λ y k more. first_fault (later y) k more) (read s p) (λ a. many_parts read left (left s a.0) n a.1 then λ as'. Ok (a.0 ∷ as'.0, as'.1)));
  }

-- a count, and n parts that follow their grammar where the count is one that can be read
pub counted_read : {A S : Type 0} {count : ℕ × List Line → Result (ℕ × (ℕ × List Line)) (TextFault What)} {counts : (ℕ → Grammar) → Grammar} (read : S → ℕ × List Line → Result (A × (ℕ × List Line)) (TextFault What)) (parts : ℕ → (List A → Grammar) → Grammar) (left : S → A → S) (s : S)
    → IsRead count counts → ((p q : ℕ × List Line) (n : ℕ) → count p ≡ Ok (n, q) → IsRead (many_parts read left s n) (parts n)) → IsRead (counted_parts count read left s) (λ next. counts (λ n. parts n next))
unfolding counted_parts
counted_read {A} {S} {count} {counts} read parts left s f g = record {
  same = λ next p.
      f.same (λ n. parts n next) p
      ∙ same_where _ (λ x n ls. outcome (λ y m more. first_fault (next y) m more) (many_parts read left s x (n, ls))) (count p) (λ x n ls e. (g p (n, ls) x e).same next (n, ls))
      ∙ sym (then_outcome (λ y m more. first_fault (next y) m more) (count p) (λ n. many_parts read left s n.0 n.1));
}
