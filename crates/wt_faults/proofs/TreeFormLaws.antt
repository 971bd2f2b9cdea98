-- Tokens have the form of a tree exactly where they spell one.
use Rattle.std.proofs.Common.{arith, ◌≡◌, ℕ, zero, suc, ◌+◌, ◌≤◌, List, [], ◌∷◌, length, Option, Some, None, Bool, true, ◌&&◌, refl, sym, ap, ◌∙◌}
use Rattle.std.proofs.lemmas.Bool.{and_parts}
use Rattle.wt_text.specs.Words.{number, is_decimal, value_from}
use Rattle.wt_text.proofs.Numbers.{some_is, if_some}
use Rattle.wt_text.proofs.Formats.{bind_some}
use Rattle.wt_refute.specs.Refutation.{Refutation, Branches, branch, cite, no_more, more}
use Rattle.wt_cert.specs.Trees.{Ending, children, cites, ending, is_ending, owed_by, is_forest, is_tree}
use Rattle.wt_faults.specs.Trees.{branches_said, node_said, tree_said}

left_is : {X Y : Type 0} (x x' : X) (y y' : Y) → ◌≡◌ {A = Option (X × Y)} (Some (x, y)) (Some (x', y')) → y ≡ y'
left_is {X} {Y} x x' y y' e = ap (λ (z : X × Y). z.1) (some_is _ _ e)

is_number : (t : List ℕ) (n : ℕ) → number t ≡ Some n → is_decimal t ≡ true
is_number t n e = (if_some (is_decimal t) _ n e).0

number_of : (t : List ℕ) → is_decimal t ≡ true → number t ≡ Some (value_from 0 t)
number_of t e = rw e refl

-- the tokens begin with a node, and these are left behind its tree
pub record IsLedByTree (citing : Bool) (ts rest : List (List ℕ)) : Type 0 where
  pub cell : List ℕ
  pub count : List ℕ
  pub behind : List (List ℕ)
  pub split : ts ≡ cell ∷ count ∷ behind
  pub decimal : is_decimal cell ≡ true
  pub ends : is_ending (ending citing count) ≡ true
  pub left : (k : ℕ) → is_forest citing (owed_by (ending citing count) + k) behind ≡ is_forest citing k rest

pub record SaysTrees (citing : Bool) (read : List (List ℕ) → Option (Refutation × List (List ℕ))) : Type 0 where
  pub leads : (ts : List (List ℕ)) (tree : Refutation) (rest : List (List ℕ)) → read ts ≡ Some (tree, rest) → IsLedByTree citing ts rest

child : (citing : Bool) (n : ℕ) (tile cell count : List ℕ) (ts : List (List ℕ)) → is_decimal tile ≡ true → is_decimal cell ≡ true → is_ending (ending citing count) ≡ true
    → is_forest citing (suc n) (tile ∷ cell ∷ count ∷ ts) ≡ is_forest citing (n + owed_by (ending citing count)) ts
child citing n tile cell count ts a b c = rw (a, b, c) refl

pub branches_form : (citing : Bool) (read : List (List ℕ) → Option (Refutation × List (List ℕ))) → SaysTrees citing read → (n : ℕ) (ts : List (List ℕ)) (b : Branches) (rest : List (List ℕ))
    → branches_said read n ts ≡ Some (b, rest) → (k : ℕ) → is_forest citing (n + k) ts ≡ is_forest citing k rest
branches_form citing read f zero ts b rest e k =
    let none : zero + k ≡ k = omega arith in
    ap (λ (j : ℕ). is_forest citing j ts) none ∙ ap (λ (us : List (List ℕ)). is_forest citing k us) (left_is no_more b ts rest e)
branches_form citing read f (suc n) [] b rest e k = absurd cc
branches_form citing read f (suc n) (tile ∷ ts) b rest e k =
    let t = bind_some (number tile) _ (b, rest) e in
    let x = bind_some (read ts) _ (b, rest) t.2 in
    let m = bind_some (branches_said read n x.0.1) _ (b, rest) x.2 in
    let w = f.leads ts x.0.0 x.0.1 x.1 in
    let owed = owed_by (ending citing w.count) in
    let one : suc n + k ≡ suc (n + k) = omega arith in
    let turned : n + k + owed ≡ owed + (n + k) = omega arith in
    ap (λ (j : ℕ). is_forest citing j (tile ∷ ts)) one
    ∙ ap (λ (us : List (List ℕ)). is_forest citing (suc (n + k)) (tile ∷ us)) w.split
    ∙ child citing (n + k) tile w.cell w.count w.behind (is_number tile t.0 t.1) w.decimal w.ends
    ∙ ap (λ (j : ℕ). is_forest citing j w.behind) turned
    ∙ w.left (n + k)
    ∙ branches_form citing read f n x.0.1 m.0.0 m.0.1 m.1 k
    ∙ ap (λ (us : List (List ℕ)). is_forest citing k us) (left_is (more t.0 x.0.0 m.0.0) b m.0.1 rest m.2)

pub tree_form : (citing : Bool) (levels : ℕ) → SaysTrees citing (tree_said citing levels)
tree_form citing zero = record { leads = λ ts tree rest e. absurd cc }
tree_form citing (suc levels) = record { leads = by (tree_form citing levels) }
  where
    node : SaysTrees citing (tree_said citing levels) → (c : ℕ) (e : Ending) (cell count : List ℕ) (ts : List (List ℕ)) (tree : Refutation) (rest : List (List ℕ)) → is_decimal cell ≡ true → ending citing count ≡ Some e
        → node_said (tree_said citing levels) c e ts ≡ Some (tree, rest) → IsLedByTree citing (cell ∷ count ∷ ts) rest
    node f c (cites axis) cell count ts tree rest d is k = record {
      cell = cell;
      count = count;
      behind = ts;
      split = refl;
      decimal = d;
      ends = ap is_ending is;
      left = λ j.
          let none : 0 + j ≡ j = omega arith in
          ap (λ (o : Option Ending). is_forest citing (owed_by o + j) ts) is
          ∙ ap (λ (i : ℕ). is_forest citing i ts) none
          ∙ ap (λ (us : List (List ℕ)). is_forest citing j us) (left_is (cite c axis) tree ts rest k);
    }
    node f c (children n) cell count ts tree rest d is k =
        let b = bind_some (branches_said (tree_said citing levels) n ts) _ (tree, rest) k in
        record {
          cell = cell;
          count = count;
          behind = ts;
          split = refl;
          decimal = d;
          ends = ap is_ending is;
          left = λ j.
              ap (λ (o : Option Ending). is_forest citing (owed_by o + j) ts) is
              ∙ branches_form citing (tree_said citing levels) f n ts b.0.0 b.0.1 b.1 j
              ∙ ap (λ (us : List (List ℕ)). is_forest citing j us) (left_is (branch c b.0.0) tree b.0.1 rest b.2);
        }

    by : SaysTrees citing (tree_said citing levels) → (ts : List (List ℕ)) (tree : Refutation) (rest : List (List ℕ)) → tree_said citing (suc levels) ts ≡ Some (tree, rest) → IsLedByTree citing ts rest
    by f [] tree rest e = absurd cc
    by f (cell ∷ []) tree rest e = absurd cc
    by f (cell ∷ count ∷ ts) tree rest e =
        let c = bind_some (number cell) _ (tree, rest) e in
        let k = bind_some (ending citing count) _ (tree, rest) c.2 in
        node f c.0 k.0 cell count ts tree rest (is_number cell c.0 c.1) k.1 k.2

-- what is left behind a tree tells whether the tokens are one
pub whole_form : (citing : Bool) (levels : ℕ) (ts : List (List ℕ)) (tree : Refutation) (rest : List (List ℕ)) → tree_said citing levels ts ≡ Some (tree, rest) → is_tree citing ts ≡ is_forest citing 0 rest
whole_form citing levels ts tree rest e =
    let w = (tree_form citing levels).leads ts tree rest e in
    let owed = owed_by (ending citing w.count) in
    let none : owed ≡ owed + 0 = omega arith in
    ap (λ (us : List (List ℕ)). is_tree citing us) w.split
    ∙ first w.cell w.count w.behind w.decimal w.ends
    ∙ ap (λ (j : ℕ). is_forest citing j w.behind) none
    ∙ w.left 0
  where
    first : (cell count : List ℕ) (ts : List (List ℕ)) → is_decimal cell ≡ true → is_ending (ending citing count) ≡ true → is_tree citing (cell ∷ count ∷ ts) ≡ is_forest citing (owed_by (ending citing count)) ts
    first cell count ts a b = rw (a, b) refl

-- ---- tokens of this form spell a tree

-- branches that were said, of which these are left
pub record SaidBranches (citing : Bool) (levels n m : ℕ) (ts : List (List ℕ)) : Type 0 where
  pub branches : Branches
  pub rest : List (List ℕ)
  pub is : branches_said (tree_said citing levels) n ts ≡ Some (branches, rest)
  pub form : is_forest citing m rest ≡ true
  pub fewer : length rest ≤ length ts

-- a tree that was said
pub record SaidTree (citing : Bool) (levels m : ℕ) (ts : List (List ℕ)) : Type 0 where
  pub tree : Refutation
  pub rest : List (List ℕ)
  pub is : tree_said citing levels ts ≡ Some (tree, rest)
  pub form : is_forest citing m rest ≡ true
  pub fewer : length rest ≤ length ts

pub record SaysAll (citing : Bool) (levels : ℕ) : Type 0 where
  pub says : (cell count : List ℕ) (ts : List (List ℕ)) (m : ℕ) → length ts + 2 ≤ levels → is_decimal cell ≡ true → is_ending (ending citing count) ≡ true
      → is_forest citing (owed_by (ending citing count) + m) ts ≡ true → SaidTree citing levels m (cell ∷ count ∷ ts)

some_ending : (o : Option Ending) → is_ending o ≡ true → (e : Ending) × (o ≡ Some e)
some_ending None e = absurd cc
some_ending (Some x) e = (x, refl)

branches_all : (citing : Bool) (levels : ℕ) → SaysAll citing levels → (n m : ℕ) (ts : List (List ℕ)) → length ts ≤ levels → is_forest citing (n + m) ts ≡ true → SaidBranches citing levels n m ts
branches_all citing levels f zero m ts le e = let none : m ≡ zero + m = omega arith in record { branches = no_more; rest = ts; is = refl; form = ap (λ (j : ℕ). is_forest citing j ts) none ∙ e; fewer = omega arith }
branches_all citing levels f (suc n) m ts le e = let one : suc (n + m) ≡ suc n + m = omega arith in by ts le (ap (λ (j : ℕ). is_forest citing j ts) one ∙ e) (λ us small k. branches_all citing levels f n m us small k)
  where
    by : (ts : List (List ℕ)) → length ts ≤ levels → is_forest citing (suc (n + m)) ts ≡ true → ((us : List (List ℕ)) → length us ≤ levels → is_forest citing (n + m) us ≡ true → SaidBranches citing levels n m us) → SaidBranches citing levels (suc n) m ts
    by [] le k others = absurd cc
    by (tile ∷ []) le k others = absurd cc
    by (tile ∷ cell ∷ []) le k others = absurd cc
    by (tile ∷ cell ∷ count ∷ ts) le k others =
        let a = and_parts ((is_decimal tile && is_decimal cell) && is_ending (ending citing count)) (is_forest citing (n + m + owed_by (ending citing count)) ts) k in
        let b = and_parts (is_decimal tile && is_decimal cell) (is_ending (ending citing count)) a.0 in
        let c = and_parts (is_decimal tile) (is_decimal cell) b.0 in
        let turned : owed_by (ending citing count) + (n + m) ≡ n + m + owed_by (ending citing count) = omega arith in
        let one = f.says cell count ts (n + m) (omega (arith, le)) c.1 b.1 (ap (λ (j : ℕ). is_forest citing j ts) turned ∙ a.1) in
        let more' = others one.rest (let h = one.fewer in omega (arith, h, le)) one.form in
        record {
          branches = more (value_from 0 tile) one.tree more'.branches;
          rest = more'.rest;
          is = rw (number_of tile c.0, one.is, more'.is) refl;
          form = more'.form;
          fewer = let h = one.fewer in let i = more'.fewer in omega (arith, h, i);
        }

pub says_all : (citing : Bool) (levels : ℕ) → SaysAll citing levels
says_all citing zero = record { says = λ cell count ts m le a b c. absurd (omega (arith, le)) }
says_all citing (suc levels) = record { says = λ cell count ts m le a b c. by (says_all citing levels) cell count ts m le a (some_ending (ending citing count) b) c }
  where
    node : SaysAll citing levels → (cell count : List ℕ) (ts : List (List ℕ)) (m : ℕ) → length ts + 2 ≤ suc levels → is_decimal cell ≡ true → (e : Ending) → ending citing count ≡ Some e
        → is_forest citing (owed_by (Some e) + m) ts ≡ true → SaidTree citing (suc levels) m (cell ∷ count ∷ ts)
    node f cell count ts m le a (cites axis) is c = let none : m ≡ 0 + m = omega arith in record {
      tree = cite (value_from 0 cell) axis;
      rest = ts;
      is = rw (number_of cell a, is) refl;
      form = ap (λ (j : ℕ). is_forest citing j ts) none ∙ c;
      fewer = omega arith;
    }
    node f cell count ts m le a (children n) is c =
        let b = branches_all citing levels f n m ts (omega (arith, le)) c in
        record {
          tree = branch (value_from 0 cell) b.branches;
          rest = b.rest;
          is = rw (number_of cell a, is, b.is) refl;
          form = b.form;
          fewer = let h = b.fewer in omega (arith, h);
        }

    by : SaysAll citing levels → (cell count : List ℕ) (ts : List (List ℕ)) (m : ℕ) → length ts + 2 ≤ suc levels → is_decimal cell ≡ true → ((e : Ending) × (ending citing count ≡ Some e))
        → is_forest citing (owed_by (ending citing count) + m) ts ≡ true → SaidTree citing (suc levels) m (cell ∷ count ∷ ts)
    by f cell count ts m le a e c = node f cell count ts m le a e.0 e.1 (sym (ap (λ (o : Option Ending). is_forest citing (owed_by o + m) ts) e.1) ∙ c)

-- tokens of the form of a tree spell one
pub form_said : (citing : Bool) (ts : List (List ℕ)) → is_tree citing ts ≡ true → tree_said citing (length ts) ts ≡ None → ⊥
form_said citing [] e none = absurd cc
form_said citing (cell ∷ []) e none = absurd cc
form_said citing (cell ∷ count ∷ ts) e none =
    let a = and_parts (is_decimal cell && is_ending (ending citing count)) (is_forest citing (owed_by (ending citing count)) ts) e in
    let b = and_parts (is_decimal cell) (is_ending (ending citing count)) a.0 in
    let sum : owed_by (ending citing count) + 0 ≡ owed_by (ending citing count) = omega arith in
    let t = (says_all citing (suc (suc (length ts)))).says cell count ts 0 (omega arith) b.0 b.1 (ap (λ (j : ℕ). is_forest citing j ts) sum ∙ a.1) in
    apart t.tree t.rest (sym none ∙ t.is)
  where
    apart : (tree : Refutation) (rest : List (List ℕ)) → ◌≡◌ {A = Option (Refutation × List (List ℕ))} None (Some (tree, rest)) → ⊥
    apart tree rest e = cc
