-- The fault that is found is the one that the grammar means, and each such fault is found.
use Rattle.std.proofs.Common.{arith, ◌≡◌, ℕ, ◌+◌, List, [], ◌∷◌, ◌++◌, length, Option, Some, None, Bool, true, false, ◌&&◌, cond, refl, sym, ap, ◌∙◌, subst}
use Rattle.std.proofs.lemmas.Bool.{and_parts}
use Rattle.wt_line.specs.declared.faults.What.{What}
use Rattle.wt_text.specs.Words.{tokens}
use Rattle.wt_text.specs.Lines.{Line}
use Rattle.wt_text.specs.Readers.{TextFault, syntax_at, limit_at}
use Rattle.wt_faults.specs.Grammars.{Grammar, ends, line, Quantity, first_past, IsText, passed_by}
use Rattle.wt_faults.specs.Meaning.{CanGoOn, behind_lines, IsWithin, StopsAt, IsFaultOf}
use Rattle.wt_faults.proofs.First.{past_or, first_fault, IsOpen}

-- an open grammar has a text
pub some_text : (g : Grammar) → IsOpen g → (ls : List Line) × IsText g ls
some_text ends open' = ([], tt)
some_text (line fits tells next) open' =
    let l = open'.0.0 in
    let more = some_text (next (tokens l.text)) (open'.1 (tokens l.text) open'.0.2) in
    (l ∷ more.0, (open'.0.1, open'.0.2, more.1))

-- what a fault from line m on means, as parts
abbrev pub Means : Grammar → ℕ → List Line → TextFault What → Type 0
Means g m text (syntax_at n) = (front : List Line) × (back : List Line) × (text ≡ front ++ back) × (n ≡ m + length front) × CanGoOn g front × IsWithin g front × StopsAt g front back
Means g m text (limit_at what n) = (front : List Line) × (l : Line) × (back : List Line) × (text ≡ front ++ l ∷ back) × (n ≡ m + length front) × IsWithin g front × CanGoOn g (front ++ l ∷ []) × (passed_by (behind_lines g front) l ≡ Some what)

some_fault : (x y : TextFault What) → Some x ≡ Some y → x ≡ y
some_fault x y e = cc

none_not_some : (x : TextFault What) → None ≡ Some x → ⊥
none_not_some x e = cc

-- a line in front
stops_behind : (fits : List (List ℕ) → Bool) (tells : List (List ℕ) → List Quantity) (next : List (List ℕ) → Grammar) (l : Line) (front back : List Line) → StopsAt (next (tokens l.text)) front back → StopsAt (line fits tells next) (l ∷ front) back
stops_behind fits tells next l front [] stops = λ is. stops is.2
stops_behind fits tells next l front (x ∷ back) stops = λ on. stops (on.0, on.1.2)

behind : (fits : List (List ℕ) → Bool) (tells : List (List ℕ) → List Quantity) (next : List (List ℕ) → Grammar) (m : ℕ) (l : Line) (ls : List Line) (f : TextFault What) → l.ended ≡ true → fits (tokens l.text) ≡ true
    → first_past (tells (tokens l.text)) ≡ None → Means (next (tokens l.text)) (m + 1) ls f → Means (line fits tells next) m (l ∷ ls) f
behind fits tells next m l ls (syntax_at n) ended fit none (front, back, split, number, on, within, stops) =
    (l ∷ front, back, ap (λ (r : List Line). l ∷ r) split, omega (arith, number), (on.0, (ended, fit, on.1)), (none, within), stops_behind fits tells next l front back stops)
behind fits tells next m l ls (limit_at what n) ended fit none (front, x, back, split, number, within, on, passes) =
    (l ∷ front, x, back, ap (λ (r : List Line). l ∷ r) split, omega (arith, number), (none, within), (on.0, (ended, fit, on.1)), passes)

-- what is found is meant
pub means : (g : Grammar) (m : ℕ) (ls : List Line) (f : TextFault What) → IsOpen g → first_fault g m ls ≡ Some f → Means g m ls f
means ends m [] f open' e = absurd (none_not_some f e)
means ends m (l ∷ ls) f open' e = subst (Means ends m (l ∷ ls)) (some_fault (syntax_at m) f e) ([], l ∷ ls, refl, omega arith, ([], tt), tt, λ on. on.1)
means (line fits tells next) m [] f open' e =
    let text = some_text (line fits tells next) open' in
    subst (Means (line fits tells next) m []) (some_fault (syntax_at m) f e) ([], [], refl, omega arith, text, tt, λ is. is)
means (line fits tells next) m (l ∷ ls) f open' e = by (λ fit k. means (next (tokens l.text)) (m + 1) ls f (open'.1 (tokens l.text) fit) k) (l.ended && fits (tokens l.text)) refl e
  where
    g : Grammar
    g = line fits tells next

    wrong : (b : Bool) → l.ended && fits (tokens l.text) ≡ b → b ≡ false → CanGoOn g (l ∷ []) → ⊥
    wrong b is fails on = let t : true ≡ false = sym (ap (λ (x : Bool). x && fits (tokens l.text)) on.1.0 ∙ on.1.1) ∙ is ∙ fails in cc

    Later : Type 0
    Later = fits (tokens l.text) ≡ true → first_fault (next (tokens l.text)) (m + 1) ls ≡ Some f → Means (next (tokens l.text)) (m + 1) ls f

    past : Later → (o : Option What) → first_past (tells (tokens l.text)) ≡ o → l.ended ≡ true → fits (tokens l.text) ≡ true → past_or m o (first_fault (next (tokens l.text)) (m + 1) ls) ≡ Some f → Means g m (l ∷ ls) f
    past later None is ended fit k = behind fits tells next m l ls f ended fit is (later fit k)
    past later (Some what) is ended fit k =
        let more = some_text (next (tokens l.text)) (open'.1 (tokens l.text) fit) in
        subst (Means g m (l ∷ ls)) (some_fault (limit_at what m) f k) ([], l, ls, refl, omega arith, tt, (more.0, (ended, fit, more.1)), is)

    by : Later → (b : Bool) → l.ended && fits (tokens l.text) ≡ b → cond b (past_or m (first_past (tells (tokens l.text))) (first_fault (next (tokens l.text)) (m + 1) ls)) (Some (syntax_at m)) ≡ Some f → Means g m (l ∷ ls) f
    by later false is k =
        let text = some_text g open' in
        subst (Means g m (l ∷ ls)) (some_fault (syntax_at m) f k) ([], l ∷ ls, refl, omega arith, text, tt, wrong false is refl)
    by later true is k = let p = and_parts l.ended (fits (tokens l.text)) is in past later (first_past (tells (tokens l.text))) refl p.0 p.1 k

-- ---- and what is meant is found

right_line : (fits : List (List ℕ) → Bool) (tells : List (List ℕ) → List Quantity) (next : List (List ℕ) → Grammar) (m : ℕ) (l : Line) (ls : List Line) → l.ended ≡ true → fits (tokens l.text) ≡ true
    → first_fault (line fits tells next) m (l ∷ ls) ≡ past_or m (first_past (tells (tokens l.text))) (first_fault (next (tokens l.text)) (m + 1) ls)
right_line fits tells next m l ls ended fit = rw (ended, fit) refl

within_line : (fits : List (List ℕ) → Bool) (tells : List (List ℕ) → List Quantity) (next : List (List ℕ) → Grammar) (m : ℕ) (l : Line) (ls : List Line) → l.ended ≡ true → fits (tokens l.text) ≡ true → first_past (tells (tokens l.text)) ≡ None
    → first_fault (line fits tells next) m (l ∷ ls) ≡ first_fault (next (tokens l.text)) (m + 1) ls
within_line fits tells next m l ls ended fit none = right_line fits tells next m l ls ended fit ∙ ap (λ (o : Option What). past_or m o (first_fault (next (tokens l.text)) (m + 1) ls)) none

at_end : (fits : List (List ℕ) → Bool) (tells : List (List ℕ) → List Quantity) (next : List (List ℕ) → Grammar) (m : ℕ) (l : Line) (ls : List Line) → IsOpen (line fits tells next) → (CanGoOn (line fits tells next) (l ∷ []) → ⊥)
    → first_fault (line fits tells next) m (l ∷ ls) ≡ Some (syntax_at m)
at_end fits tells next m l ls open' stops = by (l.ended && fits (tokens l.text)) refl
  where
    by : (b : Bool) → l.ended && fits (tokens l.text) ≡ b → cond b (past_or m (first_past (tells (tokens l.text))) (first_fault (next (tokens l.text)) (m + 1) ls)) (Some (syntax_at m)) ≡ Some (syntax_at m)
    by false is = refl
    by true is =
        let p = and_parts l.ended (fits (tokens l.text)) is in
        let more = some_text (next (tokens l.text)) (open'.1 (tokens l.text) p.1) in
        absurd (stops (more.0, (p.0, p.1, more.1)))

pub syntax_found : (g : Grammar) (m : ℕ) (front back : List Line) → IsOpen g → CanGoOn g front → IsWithin g front → StopsAt g front back → first_fault g m (front ++ back) ≡ Some (syntax_at (m + length front))
syntax_found ends m [] [] open' on within stops = absurd (stops tt)
syntax_found ends m [] (l ∷ back) open' on within stops = ap (λ (n : ℕ). Some (syntax_at n)) (omega arith)
syntax_found (line fits tells next) m [] [] open' on within stops = ap (λ (n : ℕ). Some (syntax_at n)) (omega arith)
syntax_found (line fits tells next) m [] (l ∷ back) open' on within stops = at_end fits tells next m l back open' stops ∙ ap (λ (n : ℕ). Some (syntax_at n)) (omega arith)
syntax_found ends m (l ∷ front) back open' on within stops = absurd on.1
syntax_found (line fits tells next) m (l ∷ front) back open' on within stops =
    within_line fits tells next m l (front ++ back) on.1.0 on.1.1 within.0
    ∙ syntax_found (next (tokens l.text)) (m + 1) front back (open'.1 (tokens l.text) on.1.1) (on.0, on.1.2) within.1 (left back stops)
    ∙ ap (λ (n : ℕ). Some (syntax_at n)) (omega arith)
  where
    left : (back : List Line) → StopsAt (line fits tells next) (l ∷ front) back → StopsAt (next (tokens l.text)) front back
    left [] stops = λ is. stops (on.1.0, on.1.1, is)
    left (x ∷ back) stops = λ more. stops (more.0, (on.1.0, on.1.1, more.1))

pub limit_found : (g : Grammar) (what : What) (m : ℕ) (front : List Line) (l : Line) (back : List Line) → IsWithin g front → CanGoOn g (front ++ l ∷ []) → passed_by (behind_lines g front) l ≡ Some what
    → first_fault g m (front ++ l ∷ back) ≡ Some (limit_at what (m + length front))
limit_found ends what m [] l back within on passes = absurd on.1
limit_found (line fits tells next) what m [] l back within on passes =
    right_line fits tells next m l back on.1.0 on.1.1
    ∙ ap (λ (o : Option What). past_or m o (first_fault (next (tokens l.text)) (m + 1) back)) passes
    ∙ ap (λ (n : ℕ). Some (limit_at what n)) (omega arith)
limit_found ends what m (x ∷ front) l back within on passes = absurd on.1
limit_found (line fits tells next) what m (x ∷ front) l back within on passes =
    within_line fits tells next m x (front ++ l ∷ back) on.1.0 on.1.1 within.0
    ∙ limit_found (next (tokens x.text)) what (m + 1) front l back within.1 (on.0, on.1.2) passes
    ∙ ap (λ (n : ℕ). Some (limit_at what n)) (omega arith)

-- ---- from the first line on

pub told : (g : Grammar) (text : List Line) (f : TextFault What) → IsOpen g → first_fault g 1 text ≡ Some f → IsFaultOf g text f
told g text f open' e = by f (means g 1 text f open' e)
  where
    by : (f : TextFault What) → Means g 1 text f → IsFaultOf g text f
    by (syntax_at n) (front, back, split, number, on, within, stops) = record { front = front; back = back; split = split; number = omega (arith, number); begins = on; within = within; stops = stops }
    by (limit_at what n) (front, l, back, split, number, within, on, passes) = record { front = front; line = l; back = back; split = split; number = omega (arith, number); within = within; begins = on; passes = passes }

pub found : (g : Grammar) (text : List Line) (f : TextFault What) → IsOpen g → IsFaultOf g text f → first_fault g 1 text ≡ Some f
found g text (syntax_at n) open' is =
    ap (first_fault g 1) is.split ∙ syntax_found g 1 is.front is.back open' is.begins is.within is.stops
    ∙ ap (λ (n : ℕ). Some (syntax_at n)) (let k = is.number in omega (arith, k))
found g text (limit_at what n) open' is =
    ap (first_fault g 1) is.split ∙ limit_found g what 1 is.front is.line is.back is.within is.begins is.passes
    ∙ ap (λ (n : ℕ). Some (limit_at what n)) (let k = is.number in omega (arith, k))

-- a text without a fault
pub text_told : (g : Grammar) (m : ℕ) (ls : List Line) → first_fault g m ls ≡ None → IsText g ls × IsWithin g ls
text_told ends m [] e = (tt, tt)
text_told ends m (l ∷ ls) e = absurd cc
text_told (line fits tells next) m [] e = absurd cc
text_told (line fits tells next) m (l ∷ ls) e = by (text_told (next (tokens l.text)) (m + 1) ls) (l.ended && fits (tokens l.text)) refl e
  where
    past : (first_fault (next (tokens l.text)) (m + 1) ls ≡ None → IsText (next (tokens l.text)) ls × IsWithin (next (tokens l.text)) ls) → (o : Option What) → first_past (tells (tokens l.text)) ≡ o → l.ended ≡ true → fits (tokens l.text) ≡ true
        → past_or m o (first_fault (next (tokens l.text)) (m + 1) ls) ≡ None → IsText (line fits tells next) (l ∷ ls) × IsWithin (line fits tells next) (l ∷ ls)
    past later None is ended fit k = let more = later k in ((ended, fit, more.0), (is, more.1))
    past later (Some what) is ended fit k = absurd cc

    by : (first_fault (next (tokens l.text)) (m + 1) ls ≡ None → IsText (next (tokens l.text)) ls × IsWithin (next (tokens l.text)) ls) → (b : Bool) → l.ended && fits (tokens l.text) ≡ b
        → cond b (past_or m (first_past (tells (tokens l.text))) (first_fault (next (tokens l.text)) (m + 1) ls)) (Some (syntax_at m)) ≡ None → IsText (line fits tells next) (l ∷ ls) × IsWithin (line fits tells next) (l ∷ ls)
    by later false is k = absurd cc
    by later true is k = let p = and_parts l.ended (fits (tokens l.text)) is in past later (first_past (tells (tokens l.text))) refl p.0 p.1 k

pub text_found : (g : Grammar) (m : ℕ) (ls : List Line) → IsText g ls → IsWithin g ls → first_fault g m ls ≡ None
text_found ends m [] is within = refl
text_found ends m (l ∷ ls) is within = absurd is
text_found (line fits tells next) m [] is within = absurd is
text_found (line fits tells next) m (l ∷ ls) is within =
    within_line fits tells next m l ls is.0 is.1 within.0 ∙ text_found (next (tokens l.text)) (m + 1) ls is.2 within.1
