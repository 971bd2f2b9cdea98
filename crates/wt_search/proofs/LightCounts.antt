-- The nodes that are counted are those of the light chain.
use Rattle.std.proofs.Common.{arith, ◌≡◌, ℕ, zero, suc, ◌+◌, ◌≤◌, Bool, true, false, nat_eq, nat_lt, if◌then◌else◌, List, [], ◌∷◌, ◌++◌, map, Option, None, Some, refl, sym, ◌∙◌, ap}
use Rattle.std.specs.Prelude.{Result, Ok, Err, filter}
use Rattle.std.proofs.lemmas.List.Elements.{filter-append}
use Rattle.wt_grid.specs.declared.axis.Axis.TheVariants.{One, Two}
use Rattle.wt_tile.specs.declared.tile.Tile.{Tile}
use Rattle.wt_refute.specs.declared.tree.Refuted.{Refuted}
use Rattle.wt_refute.specs.Refutation.{node_count}
use Rattle.wt_refute.specs.View.{refutation}
use Rattle.wt_refute.specs.Standard.{standard_tree}
use Rattle.wt_refute.proofs.Made.{refutation-tree_of}
use Rattle.wt_step.specs.declared.raw.RawStep.{RawStep}
use Rattle.wt_step.specs.declared.raw.RawLink.{RawLink}
use Rattle.wt_step.specs.declared.raw.RawLink.TheVariants.{Marker, Restrict}
use Rattle.wt_chain.specs.declared.raw.RawChain.{RawChain}
use Rattle.wt_search.specs.declared.light_end.LightenEnd.{LightenEnd}
use Rattle.wt_search.specs.declared.lowering.Round.{Round}
use Rattle.wt_search.specs.declared.limits.TheConstants.{MAX_NODES}
use Rattle.wt_search.specs.Found.{limited}
use Rattle.wt_chain.specs.Limits.{nodes_with, nodes_with_lost, nodes_through}
use Rattle.wt_search.specs.Light.{has_window, has_none, entry_of, entries_of, asked_after, new_entries, light_entries, light_link, light}
use Rattle.wt_search.specs.Lightened.{and_then, spent, counted, after_tree, after_window, after_pair, after_pairs, round_at, after_axis, after_radius, after_radii, after_links, lightened}
use Rattle.wt_search.proofs.Nodes.{limited_at}

nodes_append : (nodes : ℕ) (xs ys : List Refuted) → nodes_with nodes (xs ++ ys) ≡ nodes_with (nodes_with nodes xs) ys
nodes_append nodes [] ys = refl
nodes_append nodes (x ∷ xs) ys = nodes_append (nodes + node_count (refutation x.tree)) xs ys

map_append : {A B : Type 0} (f : A → B) (xs ys : List A) → map f (xs ++ ys) ≡ map f xs ++ map f ys
map_append f [] ys = refl
map_append f (x ∷ xs) ys = ap (λ zs. f x ∷ zs) (map_append f xs ys)

-- what goes on to a count goes on twice
both : (r : Result ℕ LightenEnd) (later : ℕ → Result ℕ LightenEnd) (n : ℕ) → and_then r later ≡ Ok n → (m : ℕ) × (r ≡ Ok m) × (later m ≡ Ok n)
both (Ok m) later n e = (m, refl, e)
both (Err x) later n e = absurd cc

counted_at : (step m n : ℕ) → counted step (limited m) ≡ Ok n → (n ≡ m) × (n ≤ MAX_NODES)
counted_at step m n e = go (limited m) refl e
  where
    go : (o : Option ℕ) → limited m ≡ o → counted step o ≡ Ok n → (n ≡ m) × (n ≤ MAX_NODES)
    go None h k = absurd cc
    go (Some x) h k =
        let same : x ≡ n = cc in
        let l = limited_at m x (sym h) in
        (sym same ∙ l.0, omega (arith, same, l.0, l.1))

module _ (ts : List Tile) (known : List Refuted) (t : Round) where
  tree_counted : (q : ℕ × ℕ) (nodes count n : ℕ) → after_tree t q nodes count ≡ Ok n → (n ≡ nodes + count) × (n ≤ MAX_NODES)
  tree_counted q nodes count n e = go (nat_lt t.budget count) e
    where
      go : (b : Bool) → (if b then Err (spent t q) else counted t.step (limited (nodes + count))) ≡ Ok n → (n ≡ nodes + count) × (n ≤ MAX_NODES)
      go true h = absurd cc
      go false h = counted_at t.step (nodes + count) n h

  pair_counted : (q : ℕ × ℕ) (nodes n : ℕ) → nodes ≤ MAX_NODES → after_pair ts known t q nodes ≡ Ok n
      → (n ≡ nodes_with nodes (entries_of ts known t.radius t.axis (q ∷ []))) × (n ≤ MAX_NODES)
  pair_counted q nodes n le e = asked (nat_eq t.budget 0) e
    where
      found : (w : Bool) → has_window ts t.axis t.radius q ≡ w → after_window ts known t q nodes w ≡ Ok n
          → (n ≡ nodes_with nodes (entries_of ts known t.radius t.axis (q ∷ []))) × (n ≤ MAX_NODES)
      found true w h = let same : nodes ≡ n = cc in (rw w (sym same), omega (arith, same, le))
      found false w h =
          let tree = standard_tree ts t.axis q.0 q.1 t.radius known in
          let r = tree_counted q nodes (node_count tree) n h in
          (rw w (r.0 ∙ ap (λ x. nodes + node_count x) (sym (refutation-tree_of tree))), r.1)

      asked : (b : Bool) → (if b then Err (spent t q) else after_window ts known t q nodes (has_window ts t.axis t.radius q)) ≡ Ok n
          → (n ≡ nodes_with nodes (entries_of ts known t.radius t.axis (q ∷ []))) × (n ≤ MAX_NODES)
      asked true h = absurd cc
      asked false h = found (has_window ts t.axis t.radius q) refl h

  entries_on : (q : ℕ × ℕ) (qs : List (ℕ × ℕ)) → entries_of ts known t.radius t.axis (q ∷ qs) ≡ entries_of ts known t.radius t.axis (q ∷ []) ++ entries_of ts known t.radius t.axis qs
  entries_on q qs = ap (map (entry_of ts known t.radius t.axis)) (filter-append (has_none ts t.axis t.radius) (q ∷ []) qs)
      ∙ map_append (entry_of ts known t.radius t.axis) (filter (has_none ts t.axis t.radius) (q ∷ [])) (filter (has_none ts t.axis t.radius) qs)

  pairs_counted : (qs : List (ℕ × ℕ)) (nodes n : ℕ) → nodes ≤ MAX_NODES → after_pairs ts known t qs nodes ≡ Ok n
      → (n ≡ nodes_with nodes (entries_of ts known t.radius t.axis qs)) × (n ≤ MAX_NODES)
  pairs_counted [] nodes n le e = let same : nodes ≡ n = cc in (sym same, omega (arith, same, le))
  pairs_counted (q ∷ qs) nodes n le e =
      let b = both (after_pair ts known t q nodes) (after_pairs ts known t qs) n e in
      let one = pair_counted q nodes b.0 le b.1 in
      let rest = pairs_counted qs b.0 n one.1 b.2 in
      let first = entries_of ts known t.radius t.axis (q ∷ []) in
      let others = entries_of ts known t.radius t.axis qs in
      (rest.0 ∙ (ap (λ x. nodes_with x others) one.0 ∙ (sym (nodes_append nodes first others) ∙ ap (nodes_with nodes) (sym (entries_on q qs)))), rest.1)

module _ (k : ℕ) (s : RawStep) (budget : ℕ) where
  radii_counted : (r nodes n : ℕ) → nodes ≤ MAX_NODES → after_radii k s budget r nodes ≡ Ok n → (n ≡ nodes_with nodes (light_entries s r)) × (n ≤ MAX_NODES)
  radii_counted zero nodes n le e = let same : nodes ≡ n = cc in (sym same, omega (arith, same, le))
  radii_counted (suc r) nodes n le e =
      let known = light_entries s r in
      let b = both (after_radii k s budget r nodes) (after_radius k s budget r) n e in
      let before = radii_counted r nodes b.0 le b.1 in
      let c = both (after_axis k s budget One r b.0) (after_axis k s budget Two r) n b.2 in
      let one = pairs_counted s.fine.tiles known (round_at k budget One r) (asked_after s One r) b.0 c.0 before.1 c.1 in
      let two = pairs_counted s.fine.tiles known (round_at k budget Two r) (asked_after s Two r) c.0 n one.1 c.2 in (
        joined (nodes_with nodes known) b.0 c.0 n (new_entries s known One r) (new_entries s known Two r) before.0 one.0 two.0
            ∙ sym (nodes_append nodes known (new_entries s known One r ++ new_entries s known Two r)),
        two.1,
      )
    where
      joined : (a m l n : ℕ) (xs ys : List Refuted) → m ≡ a → l ≡ nodes_with m xs → n ≡ nodes_with l ys → n ≡ nodes_with a (xs ++ ys)
      joined a m l n xs ys p q r = r ∙ (ap (λ x. nodes_with x ys) (q ∙ ap (λ x. nodes_with x xs) p) ∙ sym (nodes_append a xs ys))

links_counted : (k budget : ℕ) (links : List RawLink) (nodes n : ℕ) → nodes ≤ MAX_NODES → after_links k budget links nodes ≡ Ok n
    → (n ≡ nodes_through nodes (map light_link links)) × (n ≤ MAX_NODES)
links_counted k budget [] nodes n le e = let same : nodes ≡ n = cc in (sym same, omega (arith, same, le))
links_counted k budget (Marker s ∷ links) nodes n le e =
    let b = both (after_radii k s budget s.radius nodes) (after_links (k + 1) budget links) n e in
    let one = radii_counted k s budget s.radius nodes b.0 le b.1 in
    let rest = links_counted (k + 1) budget links b.0 n one.1 b.2 in
    (rest.0 ∙ ap (λ x. nodes_through x (map light_link links)) one.0, rest.1)
links_counted k budget (Restrict s ∷ links) nodes n le e =
    let b = both (counted k (limited (nodes_with_lost nodes s.lost))) (after_links (k + 1) budget links) n e in
    let one = counted_at k (nodes_with_lost nodes s.lost) b.0 b.1 in
    let rest = links_counted (k + 1) budget links b.0 n one.1 b.2 in
    (rest.0 ∙ ap (λ x. nodes_through x (map light_link links)) one.0, rest.1)

-- the light chain has as many nodes as are counted
pub chain_counted : (c : RawChain) (budget n : ℕ) → lightened c budget ≡ Ok n → (nodes_through 0 (light c).steps ≡ n) × (n ≤ MAX_NODES)
chain_counted c budget n e = let r = links_counted 0 budget c.steps 0 n (omega arith) e in (sym r.0, r.1)
