-- A tree that is read is spelled so, and fits.
use Rattle.std.proofs.Common.{arith, ◌≡◌, ℕ, zero, suc, ◌+◌, ◌≤◌, ◌<◌, Bool, true, false, cond, ◌&&◌, nat_le, nat_lt, List, [], ◌∷◌, ◌++◌, Option, Some, None, Result, Ok, Err, codes, option_map, refl, sym, ap, ◌∙◌, append_assoc, subst}
use Rattle.wt_grid.specs.declared.axis.Axis.TheVariants.{One, Two}
use Rattle.std.specs.Str.{bytes_eq}
use Rattle.std.specs.Fmt.{decimal}
use Rattle.std.proofs.lemmas.Bool.{leb-true, ltb-true, and_parts}
use Rattle.std.proofs.lemmas.Slice.Eq.{bytes_eq-Decides}
use Rattle.wt_line.specs.declared.faults.What.{What}
use Rattle.wt_line.specs.declared.faults.What.TheVariants.{Tiles, Nodes, Depth, Number}
use Rattle.wt_text.specs.Words.{number}
use Rattle.wt_text.specs.Readers.{LineFault, past}
use Rattle.wt_text.proofs.Numbers.{number_found, some_is}
use Rattle.wt_text.proofs.Texts.{then_ok, ok_is, ok_pair}
use Rattle.wt_refute.specs.Refutation.{Refutation, Branches, branch, cite, no_more, more, node_count, branch_count}
use Rattle.wt_cert.specs.Trees.{axis_word, tree_spelling, branches_spelling, Ending, children, cites, ending, limited, cell_in, ending_in, branches_in, grown, tree_in, IsWritableTree, AreWritableBranches}

pub limited_ok : (most : ℕ) (what : What) (r : Option ℕ) (x : ℕ) → limited most what r ≡ Ok x → (r ≡ Some x) × (x ≤ most)
limited_ok most what None x e = absurd cc
limited_ok most what (Some n) x e = go (nat_le n most) refl e
  where
    go : (b : Bool) → nat_le n most ≡ b → cond b (Ok n) (Err (past what)) ≡ Ok x → (Some n ≡ Some x) × (x ≤ most)
    go true t h = let same : n ≡ x = ok_is _ _ h in let le : n ≤ most = leb-true n most t in (ap (λ (y : ℕ). Some y) same, omega (arith, same, le))
    go false t h = absurd cc

-- a small number is spelled so
pub small_found : (what : What) (t : List ℕ) (x : ℕ) → limited 65535 what (number t) ≡ Ok x → (t ≡ decimal x) × (x ≤ 65535)
small_found what t x e = let p = limited_ok 65535 what (number t) x e in (number_found t x p.0 (omega (arith, p.1)), p.1)

cell_found : (nodes : ℕ) (t : List ℕ) (x : ℕ) → cell_in nodes t ≡ Ok x → (nodes < 1048576) × (t ≡ decimal x) × (x ≤ 65535)
cell_found nodes t x e = go (nat_lt nodes 1048576) refl e
  where
    go : (b : Bool) → nat_lt nodes 1048576 ≡ b → cond b (limited 65535 Number (number t)) (Err (past Nodes)) ≡ Ok x → (nodes < 1048576) × (t ≡ decimal x) × (x ≤ 65535)
    go true h k = let s = small_found Number t x k in (ltb-true nodes 1048576 h, s.0, s.1)
    go false h k = absurd cc

-- how an ending is written
abbrev pub ending_spelling : Ending → List ℕ
ending_spelling (children n) = decimal n
ending_spelling (cites axis) = axis_word axis

abbrev pub EndingFits : Bool → Ending → Type 0
EndingFits citing (children n) = n ≤ 256
EndingFits citing (cites axis) = citing ≡ true

counts : (r : Option ℕ) (e : Ending) → option_map children r ≡ Some e → (n : ℕ) × (r ≡ Some n) × (e ≡ children n)
counts None e h = absurd cc
counts (Some n) e h = (n, refl, sym (some_is _ _ h))

ending_found : (citing : Bool) (t : List ℕ) (e : Ending) → ending_in (ending citing t) ≡ Ok e → (t ≡ ending_spelling e) × EndingFits citing e
ending_found citing t e h = first (citing && bytes_eq t (codes "c1")) refl (citing && bytes_eq t (codes "c2")) refl h
  where
    counted : (r : Option ℕ) → number t ≡ r → ending_in (option_map children r) ≡ Ok e → (t ≡ ending_spelling e) × EndingFits citing e
    counted None k m = absurd cc
    counted (Some n) k m = go (nat_le n 256) refl m
      where
        go : (b : Bool) → nat_le n 256 ≡ b → cond b (Ok (children n)) (Err (past Tiles)) ≡ Ok e → (t ≡ ending_spelling e) × EndingFits citing e
        go true le q =
            let P : Ending → Type 0 = λ y. (t ≡ ending_spelling y) × EndingFits citing y in
            let small : n ≤ 256 = leb-true n 256 le in
            subst P (ok_is _ _ q) (number_found t n k (omega (arith, small)), small)
        go false le q = absurd cc

    second : (b : Bool) → (citing && bytes_eq t (codes "c2")) ≡ b → ending_in (cond b (Some (cites Two)) (option_map children (number t))) ≡ Ok e → (t ≡ ending_spelling e) × EndingFits citing e
    second true k m =
        let p = and_parts citing _ k in
        let P : Ending → Type 0 = λ y. (t ≡ ending_spelling y) × EndingFits citing y in
        subst P (ok_is _ _ m) ((bytes_eq-Decides t (codes "c2")).0 p.1, p.0)
    second false k m = counted (number t) refl m

    first : (a : Bool) → (citing && bytes_eq t (codes "c1")) ≡ a → (b : Bool) → (citing && bytes_eq t (codes "c2")) ≡ b
        → ending_in (cond a (Some (cites One)) (cond b (Some (cites Two)) (option_map children (number t)))) ≡ Ok e → (t ≡ ending_spelling e) × EndingFits citing e
    first true k b l m =
        let p = and_parts citing _ k in
        let P : Ending → Type 0 = λ y. (t ≡ ending_spelling y) × EndingFits citing y in
        subst P (ok_is _ _ m) ((bytes_eq-Decides t (codes "c1")).0 p.1, p.0)
    first false k b l m = second b l m

-- a reader of trees that gives what is spelled so, and fits
pub record FindsTrees (citing : Bool) (levels : ℕ) (read : ℕ → List (List ℕ) → Result (Refutation × List (List ℕ)) (LineFault What)) : Type 0 where
  pub finds : (nodes : ℕ) (ts : List (List ℕ)) (tree : Refutation) (rest : List (List ℕ)) → read nodes ts ≡ Ok (tree, rest) → (ts ≡ tree_spelling tree ++ rest) × IsWritableTree citing levels nodes tree

branches_found : (citing : Bool) (levels : ℕ) (read : ℕ → List (List ℕ) → Result (Refutation × List (List ℕ)) (LineFault What)) → FindsTrees citing levels read
    → (n nodes : ℕ) (ts : List (List ℕ)) (b : Branches) (rest : List (List ℕ)) → branches_in read n nodes ts ≡ Ok (b, rest) → (ts ≡ branches_spelling b ++ rest) × AreWritableBranches citing levels nodes b × (branch_count b ≡ n)
branches_found citing levels read f zero nodes ts b rest e =
    let p = ok_pair no_more b ts rest e in
    let P : Branches → Type 0 = λ y. (ts ≡ branches_spelling y ++ rest) × AreWritableBranches citing levels nodes y × (branch_count y ≡ 0) in
    subst P p.0 (p.1, tt, refl)
branches_found citing levels read f (suc n) nodes [] b rest e = absurd cc
branches_found citing levels read f (suc n) nodes (tile ∷ ts) b rest e =
    let t = then_ok (limited 65535 Number (number tile)) _ (b, rest) e in
    let x = then_ok (read nodes ts) _ (b, rest) t.2 in
    let m = then_ok (branches_in read n (nodes + node_count x.0.0) x.0.1) _ (b, rest) x.2 in
    let p = ok_pair (more t.0 x.0.0 m.0.0) b m.0.1 rest m.2 in
    let s = small_found Number tile t.0 t.1 in
    let one = f.finds nodes ts x.0.0 x.0.1 x.1 in
    let others = branches_found citing levels read f n (nodes + node_count x.0.0) x.0.1 m.0.0 rest (m.1 ∙ ap (λ (y : List (List ℕ)). Ok (m.0.0, y)) p.1) in
    let P : Branches → Type 0 = λ y. (tile ∷ ts ≡ branches_spelling y ++ rest) × AreWritableBranches citing levels nodes y × (branch_count y ≡ suc n) in
    let tail : ts ≡ (tree_spelling x.0.0 ++ branches_spelling m.0.0) ++ rest = one.0 ∙ ap (λ (y : List (List ℕ)). tree_spelling x.0.0 ++ y) others.0 ∙ sym (append_assoc (tree_spelling x.0.0) (branches_spelling m.0.0) rest) in
    let front : tile ≡ decimal t.0 = s.0 in
    subst P p.0 (cc, (s.1, one.1, others.1), ap suc others.2)

pub tree_found : (citing : Bool) (levels : ℕ) → FindsTrees citing levels (tree_in citing levels)
tree_found citing zero = record { finds = λ nodes ts tree rest e. absurd (deep nodes (nat_lt nodes 1048576) tree rest e) }
  where
    deep : (nodes : ℕ) (b : Bool) (tree : Refutation) (rest : List (List ℕ)) → ◌≡◌ {A = Result (Refutation × List (List ℕ)) (LineFault What)} (cond b (Err (past Depth)) (Err (past Nodes))) (Ok (tree, rest)) → ⊥
    deep nodes true tree rest e = cc
    deep nodes false tree rest e = cc
tree_found citing (suc levels) = record { finds = go (tree_found citing levels) }
  where
    reads : (read : ℕ → List (List ℕ) → Result (Refutation × List (List ℕ)) (LineFault What)) → FindsTrees citing levels read → (nodes c : ℕ) (e : Ending) (cell count : List ℕ) (ts : List (List ℕ)) (tree : Refutation) (rest : List (List ℕ))
        → (nodes < 1048576) × (cell ≡ decimal c) × (c ≤ 65535) → (count ≡ ending_spelling e) × EndingFits citing e → grown read c (nodes + 1) ts e ≡ Ok (tree, rest)
        → (cell ∷ count ∷ ts ≡ tree_spelling tree ++ rest) × IsWritableTree citing (suc levels) nodes tree
    reads read f nodes c (cites axis) cell count ts tree rest s k h =
        let p = ok_pair (cite c axis) tree ts rest h in
        let P : Refutation → Type 0 = λ y. (cell ∷ count ∷ ts ≡ tree_spelling y ++ rest) × IsWritableTree citing (suc levels) nodes y in
        let front : cell ≡ decimal c = s.1 in
        let word : count ≡ axis_word axis = k.0 in
        let left : ts ≡ rest = p.1 in
        subst P p.0 (cc, (s.0, s.2, k.1))
    reads read f nodes c (children n) cell count ts tree rest s k h =
        let b = then_ok (branches_in read n (nodes + 1) ts) _ (tree, rest) h in
        let p = ok_pair (branch c b.0.0) tree b.0.1 rest b.2 in
        let g = branches_found citing levels read f n (nodes + 1) ts b.0.0 rest (b.1 ∙ ap (λ (y : List (List ℕ)). Ok (b.0.0, y)) p.1) in
        let P : Refutation → Type 0 = λ y. (cell ∷ count ∷ ts ≡ tree_spelling y ++ rest) × IsWritableTree citing (suc levels) nodes y in
        let front : cell ≡ decimal c = s.1 in
        let word : count ≡ decimal (branch_count b.0.0) = k.0 ∙ ap decimal (sym g.2) in
        let left : ts ≡ branches_spelling b.0.0 ++ rest = g.0 in
        let few : branch_count b.0.0 ≤ 256 = omega (arith, k.1, g.2) in
        subst P p.0 (cc, (s.0, s.2, few, g.1))

    go : FindsTrees citing levels (tree_in citing levels) → (nodes : ℕ) (ts : List (List ℕ)) (tree : Refutation) (rest : List (List ℕ))
        → tree_in citing (suc levels) nodes ts ≡ Ok (tree, rest) → (ts ≡ tree_spelling tree ++ rest) × IsWritableTree citing (suc levels) nodes tree
    go f nodes [] tree rest e = absurd cc
    go f nodes (cell ∷ []) tree rest e = absurd cc
    go f nodes (cell ∷ count ∷ ts) tree rest e =
        let c = then_ok (cell_in nodes cell) _ (tree, rest) e in
        let k = then_ok (ending_in (ending citing count)) _ (tree, rest) c.2 in
        reads (tree_in citing levels) f nodes c.0 k.0 cell count ts tree rest (cell_found nodes cell c.0 c.1) (ending_found citing count k.0 k.1) k.2
