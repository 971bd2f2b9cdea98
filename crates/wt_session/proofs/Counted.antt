-- Nodes counted up to a limit.
use Rattle.std.proofs.Common.{arith, ◌≡◌, ℕ, ◌+◌, min, List, [], ◌∷◌, refl, sym, ◌∙◌, ap}
use Rattle.wt_refute.specs.declared.tree.Refuted.{Refuted}
use Rattle.wt_refute.specs.Refutation.{node_count}
use Rattle.wt_refute.specs.View.{refutation}
use Rattle.wt_step.specs.declared.raw.Lost.{Lost}
use Rattle.wt_step.specs.declared.raw.RawLink.{RawLink}
use Rattle.wt_step.specs.declared.raw.RawLink.TheVariants.{Marker, Restrict}
use Rattle.wt_chain.specs.Limits.{nodes_with}
use Rattle.wt_chain.specs.Limits.{nodes_with_lost, nodes_through}

-- two counts are the same up to a limit
abbrev Same : ℕ → ℕ → ℕ → Type 0
Same most a b = min a most ≡ min b most

added : (most a b n : ℕ) → Same most a b → Same most (a + n) (b + n)
added most a b n e = omega (arith, e)

-- where counts are the same up to a limit, so are those with more trees
pub with_more : (most a b : ℕ) (rs : List Refuted) → min a most ≡ min b most → min (nodes_with a rs) most ≡ min (nodes_with b rs) most
with_more most a b [] e = e
with_more most a b (r ∷ rs) e = with_more most (a + node_count (refutation r.tree)) (b + node_count (refutation r.tree)) rs (added most a b (node_count (refutation r.tree)) e)

pub with_more_lost : (most a b : ℕ) (ls : List Lost) → min a most ≡ min b most → min (nodes_with_lost a ls) most ≡ min (nodes_with_lost b ls) most
with_more_lost most a b [] e = e
with_more_lost most a b (l ∷ ls) e = with_more_lost most (a + node_count (refutation l.tree)) (b + node_count (refutation l.tree)) ls (added most a b (node_count (refutation l.tree)) e)

pub with_more_links : (most a b : ℕ) (links : List RawLink) → min a most ≡ min b most → min (nodes_through a links) most ≡ min (nodes_through b links) most
with_more_links most a b [] e = e
with_more_links most a b (Marker s ∷ links) e = with_more_links most (nodes_with a s.refuted) (nodes_with b s.refuted) links (with_more most a b s.refuted e)
with_more_links most a b (Restrict s ∷ links) e = with_more_links most (nodes_with_lost a s.lost) (nodes_with_lost b s.lost) links (with_more_lost most a b s.lost e)

held : (m most : ℕ) → min (min m most) most ≡ min m most
held m most = omega arith

-- the step of a loop that counts
pub counted : (most sum new all : ℕ) (r : Refuted) (rs : List Refuted) → new ≡ min (sum + node_count (refutation r.tree)) most → min (nodes_with sum (r ∷ rs)) most ≡ all → min (nodes_with new rs) most ≡ all
counted most sum new all r rs e h =
    let m : min new most ≡ min (sum + node_count (refutation r.tree)) most = ap (λ x. min x most) e ∙ held (sum + node_count (refutation r.tree)) most in
    with_more most new (sum + node_count (refutation r.tree)) rs m ∙ h

pub counted_lost : (most sum new all : ℕ) (l : Lost) (ls : List Lost) → new ≡ min (sum + node_count (refutation l.tree)) most → min (nodes_with_lost sum (l ∷ ls)) most ≡ all → min (nodes_with_lost new ls) most ≡ all
counted_lost most sum new all l ls e h =
    let m : min new most ≡ min (sum + node_count (refutation l.tree)) most = ap (λ x. min x most) e ∙ held (sum + node_count (refutation l.tree)) most in
    with_more_lost most new (sum + node_count (refutation l.tree)) ls m ∙ h

one_link : (most sum : ℕ) (link : RawLink) (links : List RawLink) → nodes_through sum (link ∷ links) ≡ nodes_through (nodes_through sum (link ∷ [])) links
one_link most sum (Marker s) links = refl
one_link most sum (Restrict s) links = refl

pub counted_link : (most sum new all : ℕ) (link : RawLink) (links : List RawLink) → new ≡ min (nodes_through sum (link ∷ [])) most → min (nodes_through sum (link ∷ links)) most ≡ all → min (nodes_through new links) most ≡ all
counted_link most sum new all link links e h =
    let m : min new most ≡ min (nodes_through sum (link ∷ [])) most = ap (λ x. min x most) e ∙ held (nodes_through sum (link ∷ [])) most in
    with_more_links most new (nodes_through sum (link ∷ [])) links m ∙ (ap (λ x. min x most) (sym (one_link most sum link links)) ∙ h)
