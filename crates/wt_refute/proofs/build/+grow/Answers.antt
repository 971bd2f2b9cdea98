use Rattle.std.proofs.Common.{arith, ◌≡◌, ◌+◌, ◌-◌, ◌<◌, ◌≤◌, length, ℕ, true, nat_lt, List, [], ◌∷◌, ◌++◌, Option, None, Some, subst, refl, ap, sym, ◌∙◌}
use Rattle.std.proofs.lemmas.Bool.{and_parts, ltb-true}
use Rattle.wt_refute.specs.Refutation.{branch, node_count, count_in}
use Rattle.wt_refute.specs.View.{children_view}
use Rattle.wt_refute.specs.Placed.{placed, place, tile_in, is_free, is_vacant, fitting, passing, fits_cell}
use Rattle.wt_refute.proofs.Walked.{taken_back}
use Rattle.wt_refute.specs.Standard.{tree_within, first_citation, tightest, branches_with}
use Rattle.std.specs.Prelude.{slice_set}
use Rattle.wt_refute.proofs.BranchView.{branch_view, cite_view}
use Rattle.wt_refute.proofs.Built.{tightest_free, vacant}
use Rattle.wt_refute.proofs.Grown.{some_nodes, cited, stuck, join, tree_at, branched, take_on, over, paid, finished}
use Rattle.wt_refute.proofs.Masked.{fit_some, jump_to}
use Rattle.wt_refute.proofs.build.+grow.Goals as goal

pub returns-then-budget-eq0-clause-spent : goal.returns-then-budget-eq0-clause-spent
returns-then-budget-eq0-clause-spent t c = λ e. omega (arith, c.if-budget-eq0.true, some_nodes (tree_within c.args.sides.now.tiles.now c.args.radius c.args.known.now c.args.depth (placed c.args.shape c.args.cells.now)))

pub returns-in-Some-clause-ok : goal.returns-in-Some-clause-ok
returns-in-Some-clause-ok t c =
    let e : first_citation c.args.radius c.args.known.now (placed c.args.shape c.args.cells.now) ≡ Some (c.in-Some.cell, c.in-Some.axis) = sym c.first_citation.ensures ∙ c.in-Some.is in
    let w = cited c.args.sides.now.tiles.now c.args.radius c.args.known.now (placed c.args.shape c.args.cells.now) c.args.depth (c.in-Some.cell, c.in-Some.axis) (omega arith) e in
    (cite_view c.in-Some.cell c.in-Some.axis ∙ sym w, rw w (omega arith))

pub returns-in_default-tightest-clause-ok : goal.returns-in_default-tightest-clause-ok
returns-in_default-tightest-clause-ok t c =
    let first : first_citation c.args.radius c.args.known.now (placed c.args.shape c.args.cells.now) ≡ None = sym c.first_citation.ensures ∙ c.in_default.is in
    let none : tightest c.args.sides.now.tiles.now (placed c.args.shape c.args.cells.now) ≡ None = sym (c.tightest.ensures c.args.sides.now.tiles.now c.requires.counted) ∙ c.in_default-tightest.is in
    let w = stuck c.args.sides.now.tiles.now c.args.radius c.args.known.now (placed c.args.shape c.args.cells.now) c.args.depth first none in
    (c.leaf-in_default-tightest.ensures ∙ sym w, rw w (omega arith))

pub tiles-init : goal.tiles-init
tiles-init t c =
    let best : tightest c.args.sides.now.tiles.now (placed c.args.shape c.args.cells.now) ≡ Some c.from-at.result = sym (c.tightest.ensures c.args.sides.now.tiles.now c.requires.counted) ∙ c.in-Some-tightest.is ∙ ap Some (sym c.from-at.ensures) in
    let free : is_free (placed c.args.shape c.args.cells.now) c.from-at.result ≡ true = tightest_free c.args.sides.now.tiles.now (placed c.args.shape c.args.cells.now) c.from-at.result best in
    let parts = and_parts (nat_lt c.from-at.result (length c.args.cells.now)) (is_vacant (tile_in (placed c.args.shape c.args.cells.now) c.from-at.result)) free in
    let whole : length c.args.sides.now.tiles.now - 0 ≡ length c.args.sides.now.tiles.now = omega arith in
    record {
      same = refl;
      within = ltb-true c.from-at.result (length c.args.cells.now) parts.0;
      free = vacant (tile_in (placed c.args.shape c.args.cells.now) c.from-at.result) parts.1;
      fit = c.fit_mask-fit.ensures;
      low = omega arith;
      made = rw c.new-children.ensures (rw whole);
      spent = rw c.new-children.ensures (omega arith);
    }

pub returns-in-Err-clause-same : goal.returns-in-Err-clause-same
returns-in-Err-clause-same t c =
    taken_back c.tiles.cells c.grow-grown.new.cells c.args.cells.now c.from-at.result (Some c.in-Some-next_bit.tile) (c.grow-grown.ensures.same ∙ c.put.ensures.filled) c.tiles.invariant.free c.tiles.invariant.same

pub returns-in-Err-clause-spent : goal.returns-in-Err-clause-spent
returns-in-Err-clause-spent t c = λ e.
    let ts = c.args.sides.now.tiles.now in
    let best : tightest c.args.sides.now.tiles.now (placed c.args.shape c.args.cells.now) ≡ Some c.from-at.result = sym (c.tightest.ensures c.args.sides.now.tiles.now c.requires.counted) ∙ c.in-Some-tightest.is ∙ ap Some (sym c.from-at.ensures) in
    let first : first_citation c.args.radius c.args.known.now (placed c.args.shape c.args.cells.now) ≡ None = sym c.first_citation.ensures ∙ c.in_default.is in
    let whole = branched c.args.sides.now.tiles.now c.args.radius c.args.known.now (placed c.args.shape c.args.cells.now) c.args.depth (c.args.depth - 1) c.from-at.result (omega arith) first best in
    let bit_there = c.in-Some-next_bit.ensures in
    let fit = fit_some c.args.sides.now.tiles.now (placed c.args.shape c.tiles.cells) c.from-at.result _ c.in-Some-next_bit.tile c.tiles.invariant.fit bit_there.2 in
    let next = jump_to c.args.sides.now.tiles.now (placed c.args.shape c.tiles.cells) c.from-at.result _ c.tiles.from c.in-Some-next_bit.tile c.tiles.invariant.fit bit_there.0 (omega (arith, fit.0)) bit_there.3 in
    let made = ap (λ (xs : List ℕ). join (children_view c.tiles.children) (branches_with (tree_at c.args.sides.now.tiles.now c.args.radius c.args.known.now (c.args.depth - 1) (placed c.args.shape c.tiles.cells) c.from-at.result) xs)) (sym next) ∙ c.tiles.invariant.made in
    let short : c.tiles.left < node_count (tree_within c.args.sides.now.tiles.now c.args.radius c.args.known.now (c.args.depth - 1) (place (placed c.args.shape c.tiles.cells) c.from-at.result c.in-Some-next_bit.tile)) =
    subst (λ (cells : List (Option ℕ)). c.tiles.left < node_count (tree_within c.args.sides.now.tiles.now c.args.radius c.args.known.now (c.args.depth - 1) (placed c.args.shape cells))) c.put.ensures.filled (c.in-Err.ensures.spent e) in
    let far = over c.args.sides.now.tiles.now c.args.radius c.args.known.now (placed c.args.shape c.tiles.cells) (tree_at c.args.sides.now.tiles.now c.args.radius c.args.known.now (c.args.depth - 1) (placed c.args.shape c.tiles.cells) c.from-at.result) (children_view c.tiles.children) _ c.from-at.result c.in-Some-next_bit.tile (length c.args.sides.now.tiles.now) c.tiles.left c.args.budget fit.0 fit.1 made c.tiles.invariant.spent short in
    rw whole (subst (λ (cells : List (Option ℕ)). c.args.budget < 1 + count_in (branches_with (tree_at c.args.sides.now.tiles.now c.args.radius c.args.known.now (c.args.depth - 1) (placed c.args.shape cells) c.from-at.result) (fitting c.args.sides.now.tiles.now (placed c.args.shape cells) c.from-at.result))) c.tiles.invariant.same far)

pub returns-in_err-add_child-in-Ok-clause-same : goal.returns-in_err-add_child-in-Ok-clause-same
returns-in_err-add_child-in-Ok-clause-same t c =
    taken_back c.tiles.cells c.grow-grown.new.cells c.args.cells.now c.from-at.result (Some c.in-Some-next_bit.tile) (c.grow-grown.ensures.same ∙ c.put.ensures.filled) c.tiles.invariant.free c.tiles.invariant.same

pub tiles-preserved : goal.tiles-preserved
tiles-preserved t c =
    let back = taken_back c.tiles.cells c.grow-grown.new.cells c.args.cells.now c.from-at.result (Some c.in-Some-next_bit.tile) (c.grow-grown.ensures.same ∙ c.put.ensures.filled) c.tiles.invariant.free c.tiles.invariant.same in
    let e : slice_set c.grow-grown.new.cells c.from-at.result None ≡ c.tiles.cells = back ∙ sym c.tiles.invariant.same in
    let bit_there = c.in-Some-next_bit.ensures in
    let fit = fit_some c.args.sides.now.tiles.now (placed c.args.shape c.tiles.cells) c.from-at.result _ c.in-Some-next_bit.tile c.tiles.invariant.fit bit_there.2 in
    let next = jump_to c.args.sides.now.tiles.now (placed c.args.shape c.tiles.cells) c.from-at.result _ c.tiles.from c.in-Some-next_bit.tile c.tiles.invariant.fit bit_there.0 (omega (arith, fit.0)) bit_there.3 in
    let so_far = ap (λ (xs : List ℕ). join (children_view c.tiles.children) (branches_with (tree_at c.args.sides.now.tiles.now c.args.radius c.args.known.now (c.args.depth - 1) (placed c.args.shape c.tiles.cells) c.from-at.result) xs)) (sym next) ∙ c.tiles.invariant.made in
    let grown = subst (λ (cells : List (Option ℕ)). (Rattle.wt_refute.specs.View.refutation c.in-Ok.tree ≡ tree_within c.args.sides.now.tiles.now c.args.radius c.args.known.now (c.args.depth - 1) (placed c.args.shape cells))
    × (c.in-Ok.rest + node_count (tree_within c.args.sides.now.tiles.now c.args.radius c.args.known.now (c.args.depth - 1) (placed c.args.shape cells)) ≡ c.tiles.left)) c.put.ensures.filled c.in-Ok.ensures.ok in
    let pushed : c.add_child.new.children ≡ c.tiles.children ++ (record { tile = c.in-Some-next_bit.tile; tree = c.in-Ok.tree }) ∷ [] = c.in_ok-add_child-in-Ok.ensures.ok in
    let made = take_on c.args.sides.now.tiles.now c.args.radius c.args.known.now (placed c.args.shape c.tiles.cells) (tree_at c.args.sides.now.tiles.now c.args.radius c.args.known.now (c.args.depth - 1) (placed c.args.shape c.tiles.cells) c.from-at.result) c.tiles.children (record { tile = c.in-Some-next_bit.tile; tree = c.in-Ok.tree }) _ c.from-at.result c.in-Some-next_bit.tile (length c.args.sides.now.tiles.now) fit.0 fit.1 refl grown.0 so_far in
    record {
      same = back;
      within = rw e c.tiles.invariant.within;
      free = rw e c.tiles.invariant.free;
      fit = rw e c.tiles.invariant.fit;
      low = omega (arith, fit.0);
      made = subst (λ (cells : List (Option ℕ)). join (children_view c.add_child.new.children) (branches_with (tree_at c.args.sides.now.tiles.now c.args.radius c.args.known.now (c.args.depth - 1) (placed c.args.shape cells) c.from-at.result) (passing (fits_cell c.args.sides.now.tiles.now (placed c.args.shape cells) c.from-at.result) (c.in-Some-next_bit.tile + 1) (length c.args.sides.now.tiles.now - (c.in-Some-next_bit.tile + 1))))
          ≡ branches_with (tree_at c.args.sides.now.tiles.now c.args.radius c.args.known.now (c.args.depth - 1) (placed c.args.shape cells) c.from-at.result) (fitting c.args.sides.now.tiles.now (placed c.args.shape cells) c.from-at.result)) (sym e)
          (rw pushed made);
      spent = rw pushed (paid c.args.sides.now.tiles.now c.args.radius c.args.known.now (placed c.args.shape c.tiles.cells) c.tiles.children (record { tile = c.in-Some-next_bit.tile; tree = c.in-Ok.tree }) _ c.tiles.left c.in-Ok.rest c.args.budget grown.0 grown.1 c.tiles.invariant.spent);
    }

pub returns-clause-ok : goal.returns-clause-ok
returns-clause-ok t c =
    let best : tightest c.args.sides.now.tiles.now (placed c.args.shape c.args.cells.now) ≡ Some c.from-at.result = sym (c.tightest.ensures c.args.sides.now.tiles.now c.requires.counted) ∙ c.in-Some-tightest.is ∙ ap Some (sym c.from-at.ensures) in
    let first : first_citation c.args.radius c.args.known.now (placed c.args.shape c.args.cells.now) ≡ None = sym c.first_citation.ensures ∙ c.in_default.is in
    let whole = branched c.args.sides.now.tiles.now c.args.radius c.args.known.now (placed c.args.shape c.args.cells.now) c.args.depth (c.args.depth - 1) c.from-at.result (omega arith) first best in
    let same : length c.args.sides.now.tiles.now ≤ length c.args.sides.now.tiles.now = omega arith in
    let next = jump_to c.args.sides.now.tiles.now (placed c.args.shape c.tiles.cells) c.from-at.result _ c.tiles.from (length c.args.sides.now.tiles.now) c.tiles.invariant.fit c.tiles.invariant.low same (λ i low high. c.in_default-next_bit.ensures i low) in
    let so_far = ap (λ (xs : List ℕ). join (children_view c.tiles.children) (branches_with (tree_at c.args.sides.now.tiles.now c.args.radius c.args.known.now (c.args.depth - 1) (placed c.args.shape c.tiles.cells) c.from-at.result) xs)) (sym next) ∙ c.tiles.invariant.made in
    let all = finished c.args.sides.now.tiles.now c.args.radius c.args.known.now (placed c.args.shape c.tiles.cells) (tree_at c.args.sides.now.tiles.now c.args.radius c.args.known.now (c.args.depth - 1) (placed c.args.shape c.tiles.cells) c.from-at.result) (children_view c.tiles.children) _ c.from-at.result (length c.args.sides.now.tiles.now) (length c.args.sides.now.tiles.now) same so_far in
    let made = subst (λ (cells : List (Option ℕ)). children_view c.tiles.children ≡ branches_with (tree_at c.args.sides.now.tiles.now c.args.radius c.args.known.now (c.args.depth - 1) (placed c.args.shape cells) c.from-at.result) (fitting c.args.sides.now.tiles.now (placed c.args.shape cells) c.from-at.result)) c.tiles.invariant.same all in
    let whole' : tree_within c.args.sides.now.tiles.now c.args.radius c.args.known.now c.args.depth (placed c.args.shape c.args.cells.now) ≡ branch c.from-at.result (children_view c.tiles.children) = whole ∙ ap (branch c.from-at.result) (sym made) in
    (branch_view c.in-Some-tightest.cell c.tiles.children ∙ ap (λ (k : ℕ). branch k (children_view c.tiles.children)) (sym c.from-at.ensures) ∙ sym whole', rw whole' (omega (arith, c.tiles.invariant.spent)))
