-- Nodes of more and more trees.
use Rattle.std.proofs.Common.{arith, ◌≡◌, ◌<◌, ◌≤◌, ◌+◌, ℕ, List, [], ◌∷◌, None, Some, Bool, true, false, nat_lt, refl, sym, ◌∙◌, ap}
use Rattle.wt_chain.specs.Limits.{nodes_with, nodes_with_lost}
use Rattle.std.proofs.lemmas.Bool.Decides.{nat_tests}
use Rattle.wt_refute.specs.declared.tree.Refuted.{Refuted}
use Rattle.wt_refute.specs.Refutation.{node_count}
use Rattle.wt_refute.specs.View.{refutation}
use Rattle.wt_search.specs.declared.limits.TheConstants.{MAX_NODES}
use Rattle.wt_step.specs.declared.raw.Lost.{Lost}
use Rattle.wt_search.specs.Found.{limited}

grows : (nodes : ℕ) (rs : List Refuted) → nodes ≤ nodes_with nodes rs
grows nodes [] = omega arith
grows nodes (r ∷ rs) = let g = grows (nodes + node_count (refutation r.tree)) rs in omega (arith, g)

limit_of : (n : ℕ) → limited n ≡ None → MAX_NODES < n
limit_of n e = go (nat_lt MAX_NODES n) refl
  where
    go : (b : Bool) → nat_lt MAX_NODES n ≡ b → MAX_NODES < n
    go true h = grind (arith, nat_tests, h)
    go false h = absurd (let g = rw h at e in cc)

past_limit : (n : ℕ) → MAX_NODES < n → limited n ≡ None
past_limit n lt = let h : nat_lt MAX_NODES n ≡ true = grind (arith, nat_tests, lt) in rw h refl

within_limit : (n : ℕ) → n ≤ MAX_NODES → limited n ≡ Some n
within_limit n le = let h : nat_lt MAX_NODES n ≡ false = grind (arith, nat_tests, le) in rw h refl

-- too many already
pub too_many : (nodes : ℕ) (r : Refuted) (rs : List Refuted) (n : ℕ) → None ≡ limited (nodes + node_count (refutation r.tree)) → nodes_with nodes (r ∷ rs) ≡ n → None ≡ limited n
too_many nodes r rs n e same =
    let a = limit_of (nodes + node_count (refutation r.tree)) (sym e) in
    let g = grows (nodes + node_count (refutation r.tree)) rs in
    sym (past_limit n (omega (arith, a, g, same)))

pub limited_at : (n m : ℕ) → Some m ≡ limited n → (m ≡ n) × (n ≤ MAX_NODES)
limited_at n m e = go (nat_lt MAX_NODES n) refl
  where
    go : (b : Bool) → nat_lt MAX_NODES n ≡ b → (m ≡ n) × (n ≤ MAX_NODES)
    go true h = absurd (let g = rw h at e in cc)
    go false h = (let g = rw h at e in cc, grind (arith, nat_tests, h))

pub all_counted : (sum n : ℕ) → sum ≤ MAX_NODES → sum ≡ n → Some sum ≡ limited n
all_counted sum n le e = ap Some e ∙ sym (within_limit n (omega arith))

grows_lost : (nodes : ℕ) (ls : List Lost) → nodes ≤ nodes_with_lost nodes ls
grows_lost nodes [] = omega arith
grows_lost nodes (l ∷ ls) = let g = grows_lost (nodes + node_count (refutation l.tree)) ls in omega (arith, g)

-- the same with lost tiles
pub too_many_lost : (nodes : ℕ) (l : Lost) (ls : List Lost) (n : ℕ) → None ≡ limited (nodes + node_count (refutation l.tree)) → nodes_with_lost nodes (l ∷ ls) ≡ n → None ≡ limited n
too_many_lost nodes l ls n e same =
    let a = limit_of (nodes + node_count (refutation l.tree)) (sym e) in
    let g = grows_lost (nodes + node_count (refutation l.tree)) ls in
    sym (past_limit n (omega (arith, a, g, same)))
