use Rattle.std.proofs.Common.{refl, sym, subst, ◌∙◌, ◌≡◌, ℕ, List}
use Rattle.std.specs.List.{All}
use Rattle.wt_window.specs.Surrounded.{allowed}
use Rattle.wt_marker.specs.Derived.{refuted_pairs, IsRefutable}
use Rattle.wt_marker.proofs.Windows.{refutable}
use Rattle.wt_marker.proofs.derive.refute_axis.Goals as goal

pub plant_all-requires-clause-pairs : goal.plant_all-requires-clause-pairs
plant_all-requires-clause-pairs c =
    let q : c.deref.result.now ≡ refuted_pairs c.args.set.list.now.tiles c.args.axis (allowed c.args.table.now) = c.deref.ensures.value ∙ (c.in-Ok.ensures {u = tt} ∙ rw c.len-count.ensures.value refl) in
    rw c.requires.same (subst (λ (qs : List (ℕ × ℕ)). All (IsRefutable c.args.set.list.now.tiles c.args.axis c.args.radius) qs) (sym q)
    (refutable c.args.set.list.now.tiles c.args.axis c.args.radius (allowed c.args.table.now) c.requires.tells))

pub returns-clause-nodes : goal.returns-clause-nodes
returns-clause-nodes c =
    let q : c.deref.result.now ≡ refuted_pairs c.args.set.list.now.tiles c.args.axis (allowed c.args.table.now) = c.deref.ensures.value ∙ (c.in-Ok.ensures {u = tt} ∙ rw c.len-count.ensures.value refl) in
    rw (c.requires.same, q) at c.plant_all.ensures.nodes

pub returns-clause-entries : goal.returns-clause-entries
returns-clause-entries c =
    let q : c.deref.result.now ≡ refuted_pairs c.args.set.list.now.tiles c.args.axis (allowed c.args.table.now) = c.deref.ensures.value ∙ (c.in-Ok.ensures {u = tt} ∙ rw c.len-count.ensures.value refl) in
    rw (c.requires.same, q) at c.plant_all.ensures.entries

pub returns-clause-unspent : goal.returns-clause-unspent
returns-clause-unspent c =
    let q : c.deref.result.now ≡ refuted_pairs c.args.set.list.now.tiles c.args.axis (allowed c.args.table.now) = c.deref.ensures.value ∙ (c.in-Ok.ensures {u = tt} ∙ rw c.len-count.ensures.value refl) in
    rw (c.requires.same, q) at c.plant_all.ensures.unspent

pub returns-clause-refused : goal.returns-clause-refused
returns-clause-refused c =
    let q : c.deref.result.now ≡ refuted_pairs c.args.set.list.now.tiles c.args.axis (allowed c.args.table.now) = c.deref.ensures.value ∙ (c.in-Ok.ensures {u = tt} ∙ rw c.len-count.ensures.value refl) in
    rw (c.requires.same, q) at c.plant_all.ensures.refused
