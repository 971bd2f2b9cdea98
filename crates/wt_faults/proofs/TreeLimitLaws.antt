-- The limits of a tree are those of its quantities, from left to right.
use Rattle.std.proofs.Common.{arith, ◌≡◌, ℕ, zero, suc, ◌+◌, ◌≤◌, List, [], ◌∷◌, ◌++◌, length, Option, Some, None, Bool, true, false, cond, nat_le, nat_lt, Result, Ok, Err, refl, sym, ap, ◌∙◌, subst}
use Rattle.std.proofs.lemmas.Bool.{le-leb, leb-true, ltb-true, ltb-false}
use Rattle.wt_line.specs.declared.faults.What.{What}
use Rattle.wt_line.specs.declared.faults.What.TheVariants.{Tiles, Nodes, Depth, Number}
use Rattle.wt_text.specs.Words.{number}
use Rattle.wt_text.specs.Readers.{◌>>=◌, ◌then◌, LineFault, past}
use Rattle.wt_text.proofs.Numbers.{some_is}
use Rattle.wt_text.proofs.Formats.{bind_some}
use Rattle.wt_refute.specs.Refutation.{Refutation, Branches, branch, cite, no_more, more, node_count, branch_count}
use Rattle.wt_cert.specs.Trees.{Ending, children, cites, ending, is_forest, is_tree, limited, cell_in, ending_in, branches_in, grown, too_deep, tree_in, found_tree, tree_to_end}
use Rattle.wt_faults.specs.Grammars.{Quantity, first_past}
use Rattle.wt_faults.specs.Forms.{quantity}
use Rattle.wt_faults.specs.Trees.{branches_said, node_said, tree_said, node_quantities, tree_quantities, branches_quantities, whole_tree, a_tree}
use Rattle.wt_faults.proofs.Follows.{unless_past}
use Rattle.wt_faults.proofs.FormLaws.{held, tokens_say, IsSaid, past_left, past_right}
use Rattle.wt_faults.proofs.TreeFormLaws.{whole_form, form_said}

-- quantities in front of those of what is read next
then_past : {A B : Type 0} (a : A) (f : A → Result B (LineFault What)) (b : B) (qs rs : List Quantity) → f a ≡ unless_past b (first_past rs) → (unless_past a (first_past qs) then f) ≡ unless_past b (first_past (qs ++ rs))
then_past {A} {B} a f b qs rs e = by (first_past qs) refl
  where
    by : (o : Option What) → first_past qs ≡ o → (unless_past a o then f) ≡ unless_past b (first_past (qs ++ rs))
    by None is = e ∙ ap (λ (o : Option What). unless_past b o) (sym (past_right qs rs is))
    by (Some what) is = ap (λ (o : Option What). unless_past b o) (sym (past_left qs rs what is))

then_made : {A B : Type 0} (a : A) (f : A → B) (o : Option What) → (unless_past a o then λ x. Ok (f x)) ≡ unless_past (f a) o
then_made a f None = refl
then_made a f (Some what) = refl

limited_past : (most : ℕ) (what : What) (o : Option ℕ) (n : ℕ) → o ≡ Some n → limited most what o ≡ unless_past n (first_past (quantity what most n ∷ []))
limited_past most what o n e = ap (λ (o : Option ℕ). limited most what o) e ∙ by (nat_le n most)
  where
    by : (b : Bool) → cond b (Ok n) (Err (past what)) ≡ unless_past n (cond b None (Some what))
    by true = refl
    by false = refl

more_nodes : (nodes : ℕ) → nat_lt nodes 1048576 ≡ nat_le (nodes + 1) 1048576
more_nodes nodes = by (nat_lt nodes 1048576) refl
  where
    by : (b : Bool) → nat_lt nodes 1048576 ≡ b → b ≡ nat_le (nodes + 1) 1048576
    by true e = sym (le-leb (nodes + 1) 1048576 (omega (arith, ltb-true nodes 1048576 e)))
    by false e = go (nat_le (nodes + 1) 1048576) refl
      where
        go : (c : Bool) → nat_le (nodes + 1) 1048576 ≡ c → false ≡ c
        go false h = refl
        go true h = absurd (let k = leb-true (nodes + 1) 1048576 h in omega (arith, k, ltb-false nodes 1048576 e))

cell_past : (depth nodes : ℕ) (t : List ℕ) (c : ℕ) → depth ≤ 90 → number t ≡ Some c → cell_in nodes t ≡ unless_past c (first_past (node_quantities depth nodes c))
cell_past depth nodes t c le e =
    ap (λ (b : Bool). cond b (limited 65535 Number (number t)) (Err (past Nodes))) (more_nodes nodes)
    ∙ ap (λ (r : Result ℕ (LineFault What)). cond (nat_le (nodes + 1) 1048576) r (Err (past Nodes))) (limited_past 65535 Number (number t) c e)
    ∙ by (nat_le (nodes + 1) 1048576)
    ∙ ap (λ (b : Bool). unless_past c (cond (nat_le (nodes + 1) 1048576) (cond b (first_past (quantity Number 65535 c ∷ [])) (Some Depth)) (Some Nodes))) (sym (le-leb depth 90 le))
  where
    by : (b : Bool) → cond b (unless_past c (first_past (quantity Number 65535 c ∷ []))) (Err (past Nodes)) ≡ unless_past c (cond b (first_past (quantity Number 65535 c ∷ [])) (Some Nodes))
    by true = refl
    by false = refl

deep_past : (nodes : ℕ) (tree : Refutation) (rest : List (List ℕ)) → too_deep nodes ≡ unless_past (tree, rest) (first_past (tree_quantities 91 nodes tree))
deep_past nodes tree rest = ap (λ (b : Bool). cond b (Err (past Depth)) (Err (past Nodes))) (more_nodes nodes) ∙ by tree
  where
    go : (b : Bool) → ◌≡◌ {A = Result (Refutation × List (List ℕ)) (LineFault What)} (cond b (Err (past Depth)) (Err (past Nodes))) (unless_past (tree, rest) (cond b (Some Depth) (Some Nodes)))
    go true = refl
    go false = refl

    by : (x : Refutation) → ◌≡◌ {A = Result (Refutation × List (List ℕ)) (LineFault What)} (cond (nat_le (nodes + 1) 1048576) (Err (past Depth)) (Err (past Nodes))) (unless_past (tree, rest) (first_past (tree_quantities 91 nodes x)))
    by (branch cell branches) = go (nat_le (nodes + 1) 1048576)
    by (cite cell axis) = go (nat_le (nodes + 1) 1048576)

pair_is : {X Y : Type 0} (x x' : X) (y y' : Y) → ◌≡◌ {A = Option (X × Y)} (Some (x, y)) (Some (x', y')) → (x ≡ x') × (y ≡ y')
pair_is {X} {Y} x x' y y' e = let p : (x, y) ≡ (x', y') = some_is _ _ e in (ap (λ (z : X × Y). z.0) p, ap (λ (z : X × Y). z.1) p)

count_said : (read : List (List ℕ) → Option (Refutation × List (List ℕ))) (n : ℕ) (ts : List (List ℕ)) (b : Branches) (rest : List (List ℕ)) → branches_said read n ts ≡ Some (b, rest) → branch_count b ≡ n
count_said read zero ts b rest e = ap branch_count (sym (pair_is no_more b ts rest e).0)
count_said read (suc n) [] b rest e = absurd cc
count_said read (suc n) (tile ∷ ts) b rest e =
    let t = bind_some (number tile) _ (b, rest) e in
    let x = bind_some (read ts) _ (b, rest) t.2 in
    let m = bind_some (branches_said read n x.0.1) _ (b, rest) x.2 in
    ap branch_count (sym (pair_is (more t.0 x.0.0 m.0.0) b m.0.1 rest m.2).0) ∙ ap suc (count_said read n x.0.1 m.0.0 m.0.1 m.1)

-- a reader has the limits of these trees
pub record HasLimits (levels depth : ℕ) (read : List (List ℕ) → Option (Refutation × List (List ℕ))) (limits : ℕ → List (List ℕ) → Result (Refutation × List (List ℕ)) (LineFault What)) : Type 0 where
  pub same : (nodes : ℕ) (ts : List (List ℕ)) (tree : Refutation) (rest : List (List ℕ)) → read ts ≡ Some (tree, rest) → limits nodes ts ≡ unless_past (tree, rest) (first_past (tree_quantities depth nodes tree))

branches_past : (levels depth : ℕ) (read : List (List ℕ) → Option (Refutation × List (List ℕ))) (limits : ℕ → List (List ℕ) → Result (Refutation × List (List ℕ)) (LineFault What)) → HasLimits levels depth read limits
    → (n nodes : ℕ) (ts : List (List ℕ)) (b : Branches) (rest : List (List ℕ)) → branches_said read n ts ≡ Some (b, rest) → branches_in limits n nodes ts ≡ unless_past (b, rest) (first_past (branches_quantities depth nodes b))
branches_past levels depth read limits f zero nodes ts b rest e =
    let p = pair_is no_more b ts rest e in
    let P : Branches → Type 0 = λ y. ◌≡◌ {A = Result (Branches × List (List ℕ)) (LineFault What)} (Ok (no_more, ts)) (unless_past (y, rest) (first_past (branches_quantities depth nodes y))) in
    subst P p.0 (ap (λ (us : List (List ℕ)). Ok (no_more, us)) p.1)
branches_past levels depth read limits f (suc n) nodes [] b rest e = absurd cc
branches_past levels depth read limits f (suc n) nodes (tile ∷ ts) b rest e =
    let t = bind_some (number tile) _ (b, rest) e in
    let x = bind_some (read ts) _ (b, rest) t.2 in
    let m = bind_some (branches_said read n x.0.1) _ (b, rest) x.2 in
    let p = pair_is (more t.0 x.0.0 m.0.0) b m.0.1 rest m.2 in
    let others = branches_past levels depth read limits f n (nodes + node_count x.0.0) x.0.1 m.0.0 m.0.1 m.1 in
    let last : (branches_in limits n (nodes + node_count x.0.0) x.0.1 then λ b. Ok (more t.0 x.0.0 b.0, b.1)) ≡ unless_past (more t.0 x.0.0 m.0.0, m.0.1) (first_past (branches_quantities depth (nodes + node_count x.0.0) m.0.0)) =
    ap (λ (r : Result (Branches × List (List ℕ)) (LineFault What)). r then λ b. Ok (more t.0 x.0.0 b.0, b.1)) others
    ∙ then_made (m.0.0, m.0.1) (λ b. (more t.0 x.0.0 b.0, b.1)) (first_past (branches_quantities depth (nodes + node_count x.0.0) m.0.0)) in
    let one : (limits nodes ts then λ y. branches_in limits n (nodes + node_count y.0) y.1 then λ b. Ok (more t.0 y.0 b.0, b.1)) ≡ unless_past (more t.0 x.0.0 m.0.0, m.0.1) (first_past (tree_quantities depth nodes x.0.0 ++ branches_quantities depth (nodes + node_count x.0.0) m.0.0)) =
    ap (λ (r : Result (Refutation × List (List ℕ)) (LineFault What)). r then λ y. branches_in limits n (nodes + node_count y.0) y.1 then λ b. Ok (more t.0 y.0 b.0, b.1)) (f.same nodes ts x.0.0 x.0.1 x.1)
    ∙ then_past (x.0.0, x.0.1) (λ y. branches_in limits n (nodes + node_count y.0) y.1 then λ b. Ok (more t.0 y.0 b.0, b.1)) (more t.0 x.0.0 m.0.0, m.0.1) (tree_quantities depth nodes x.0.0) (branches_quantities depth (nodes + node_count x.0.0) m.0.0) last in
    let P : Branches → Type 0 = λ y. branches_in limits (suc n) nodes (tile ∷ ts) ≡ unless_past (y, rest) (first_past (branches_quantities depth nodes y)) in
    subst P p.0 (
    ap (λ (r : Result ℕ (LineFault What)). r then λ t. limits nodes ts then λ y. branches_in limits n (nodes + node_count y.0) y.1 then λ b. Ok (more t y.0 b.0, b.1)) (limited_past 65535 Number (number tile) t.0 t.1)
    ∙ then_past t.0 (λ t. limits nodes ts then λ y. branches_in limits n (nodes + node_count y.0) y.1 then λ b. Ok (more t y.0 b.0, b.1)) (more t.0 x.0.0 m.0.0, m.0.1) (quantity Number 65535 t.0 ∷ []) (tree_quantities depth nodes x.0.0 ++ branches_quantities depth (nodes + node_count x.0.0) m.0.0) one
    ∙ ap (λ (us : List (List ℕ)). unless_past (more t.0 x.0.0 m.0.0, us) (first_past (branches_quantities depth nodes (more t.0 x.0.0 m.0.0)))) p.1
    )

pub tree_past : (citing : Bool) (fuel levels depth : ℕ) → depth + levels ≡ 91 → HasLimits levels depth (tree_said citing fuel) (tree_in citing levels)
tree_past citing zero levels depth sum = record { same = λ nodes ts tree rest e. absurd cc }
tree_past citing (suc fuel) zero depth sum = record {
  same = λ nodes ts tree rest e.
      let same : 91 ≡ depth = omega (arith, sum) in
      deep_past nodes tree rest ∙ ap (λ (d : ℕ). unless_past (tree, rest) (first_past (tree_quantities d nodes tree))) same;
}
tree_past citing (suc fuel) (suc levels) depth sum = record { same = by (tree_past citing fuel levels (depth + 1) (omega (arith, sum))) }
  where
    Below : Type 0
    Below = HasLimits levels (depth + 1) (tree_said citing fuel) (tree_in citing levels)

    node : Below → (nodes c : ℕ) (e : Ending) (ts : List (List ℕ)) (tree : Refutation) (rest : List (List ℕ)) (cell : List ℕ) → number cell ≡ Some c → node_said (tree_said citing fuel) c e ts ≡ Some (tree, rest)
        → (cell_in nodes cell then λ c. ending_in (Some e) then λ e. grown (tree_in citing levels) c (nodes + 1) ts e) ≡ unless_past (tree, rest) (first_past (tree_quantities depth nodes tree))
    node f nodes c (cites axis) ts tree rest cell is k =
        let p = pair_is (cite c axis) tree ts rest k in
        let P : Refutation → Type 0 = λ y. (cell_in nodes cell then λ c. ending_in (Some (cites axis)) then λ e. grown (tree_in citing levels) c (nodes + 1) ts e) ≡ unless_past (y, rest) (first_past (tree_quantities depth nodes y)) in
        subst P p.0 (
        ap (λ (r : Result ℕ (LineFault What)). r then λ c. ending_in (Some (cites axis)) then λ e. grown (tree_in citing levels) c (nodes + 1) ts e) (cell_past depth nodes cell c (omega (arith, sum)) is)
        ∙ then_past c (λ c. ending_in (Some (cites axis)) then λ e. grown (tree_in citing levels) c (nodes + 1) ts e) (cite c axis, ts) (node_quantities depth nodes c) [] refl
        ∙ ap (λ (us : List (List ℕ)). unless_past (cite c axis, us) (first_past (node_quantities depth nodes c))) p.1
        )
    node f nodes c (children n) ts tree rest cell is k =
        let b = bind_some (branches_said (tree_said citing fuel) n ts) _ (tree, rest) k in
        let p = pair_is (branch c b.0.0) tree b.0.1 rest b.2 in
        let count = count_said (tree_said citing fuel) n ts b.0.0 b.0.1 b.1 in
        let many = branches_quantities (depth + 1) (nodes + 1) b.0.0 in
        let last : (branches_in (tree_in citing levels) n (nodes + 1) ts then λ b. Ok (branch c b.0, b.1)) ≡ unless_past (branch c b.0.0, b.0.1) (first_past many) =
        ap (λ (r : Result (Branches × List (List ℕ)) (LineFault What)). r then λ b. Ok (branch c b.0, b.1)) (branches_past levels (depth + 1) (tree_said citing fuel) (tree_in citing levels) f n (nodes + 1) ts b.0.0 b.0.1 b.1)
        ∙ then_made (b.0.0, b.0.1) (λ b. (branch c b.0, b.1)) (first_past many) in
        let kids : (ending_in (Some (children n)) then λ e. grown (tree_in citing levels) c (nodes + 1) ts e) ≡ unless_past (branch c b.0.0, b.0.1) (first_past (quantity Tiles 256 n ∷ many)) =
        ap (λ (r : Result Ending (LineFault What)). r then λ e. grown (tree_in citing levels) c (nodes + 1) ts e) (kept (nat_le n 256))
        ∙ then_past (children n) (λ e. grown (tree_in citing levels) c (nodes + 1) ts e) (branch c b.0.0, b.0.1) (quantity Tiles 256 n ∷ []) many last in
        let P : Refutation → Type 0 = λ y. (cell_in nodes cell then λ c. ending_in (Some (children n)) then λ e. grown (tree_in citing levels) c (nodes + 1) ts e) ≡ unless_past (y, rest) (first_past (tree_quantities depth nodes y)) in
        subst P p.0 (
        ap (λ (r : Result ℕ (LineFault What)). r then λ c. ending_in (Some (children n)) then λ e. grown (tree_in citing levels) c (nodes + 1) ts e) (cell_past depth nodes cell c (omega (arith, sum)) is)
        ∙ then_past c (λ c. ending_in (Some (children n)) then λ e. grown (tree_in citing levels) c (nodes + 1) ts e) (branch c b.0.0, b.0.1) (node_quantities depth nodes c) (quantity Tiles 256 n ∷ many) kids
        ∙ ap (λ (m : ℕ). unless_past (branch c b.0.0, b.0.1) (first_past (node_quantities depth nodes c ++ quantity Tiles 256 m ∷ many))) (sym count)
        ∙ ap (λ (us : List (List ℕ)). unless_past (branch c b.0.0, us) (first_past (tree_quantities depth nodes (branch c b.0.0)))) p.1
        )
      where
        kept : (b : Bool) → ◌≡◌ {A = Result Ending (LineFault What)} (cond b (Ok (children n)) (Err (past Tiles))) (unless_past (children n) (cond b None (Some Tiles)))
        kept true = refl
        kept false = refl

    by : Below → (nodes : ℕ) (ts : List (List ℕ)) (tree : Refutation) (rest : List (List ℕ)) → tree_said citing (suc fuel) ts ≡ Some (tree, rest)
        → tree_in citing (suc levels) nodes ts ≡ unless_past (tree, rest) (first_past (tree_quantities depth nodes tree))
    by f nodes [] tree rest e = absurd cc
    by f nodes (cell ∷ []) tree rest e = absurd cc
    by f nodes (cell ∷ count ∷ ts) tree rest e =
        let c = bind_some (number cell) _ (tree, rest) e in
        let k = bind_some (ending citing count) _ (tree, rest) c.2 in
        ap (λ (o : Option Ending). cell_in nodes cell then λ c. ending_in o then λ e. grown (tree_in citing levels) c (nodes + 1) ts e) k.1
        ∙ node f nodes c.0 k.0 ts tree rest cell c.1 k.2

-- a tree to the end of a line
pub tree_law : (citing : Bool) (nodes : ℕ) → IsSaid (tree_to_end citing nodes) (a_tree citing nodes)
unfolding tree_to_end
tree_law citing nodes = record { same = λ ts. by ts (tree_said citing (length ts) ts) refl }
  where
    held_found : (tree : Refutation) (o : Option What) → found_tree (unless_past (tree, []) o) ≡ Some (held tree o, [])
    held_found tree None = refl
    held_found tree (Some what) = refl

    none : (ts : List (List ℕ)) (b : Bool) → is_tree citing ts ≡ b → tree_said citing (length ts) ts ≡ None → cond b (found_tree (tree_in citing 90 nodes ts)) None ≡ None
    none ts true e is = absurd (form_said citing ts e is)
    none ts false e is = refl

    some : (ts : List (List ℕ)) (tree : Refutation) (rest : List (List ℕ)) → tree_said citing (length ts) ts ≡ Some (tree, rest) → cond (is_forest citing 0 rest) (found_tree (tree_in citing 90 nodes ts)) None ≡ tokens_say (whole_tree nodes tree rest)
    some ts tree [] is = ap found_tree ((tree_past citing (length ts) 90 1 refl).same nodes ts tree [] is) ∙ held_found tree (first_past (tree_quantities 1 nodes tree))
    some ts tree (t ∷ rest) is = refl

    by : (ts : List (List ℕ)) (o : Option (Refutation × List (List ℕ))) → tree_said citing (length ts) ts ≡ o → cond (is_tree citing ts) (found_tree (tree_in citing 90 nodes ts)) None ≡ tokens_say (o >>= λ x. whole_tree nodes x.0 x.1)
    by ts None is = none ts (is_tree citing ts) refl is
    by ts (Some x) is = ap (λ (b : Bool). cond b (found_tree (tree_in citing 90 nodes ts)) None) (whole_form citing (length ts) ts x.0 x.1 is) ∙ some ts x.0 x.1 is
