use Rattle.std.proofs.Common.{arith, sym, ap, refl, ◌∙◌, ◌≡◌, ◌-◌, length}
use Rattle.wt_window.specs.Surrounded.{allowed}
use Rattle.wt_marker.specs.Classes.{join_row}
use Rattle.std.proofs.lemmas.List.FromFn.{length-range_with_len}
use Rattle.wt_marker.proofs.Labels.{whole_new}
use Rattle.wt_marker.proofs.Gather.{fold_more}
use Rattle.wt_marker.proofs.classes.find_labels.Goals as goal

pub loop-a-init : goal.loop-a-init
loop-a-init c = (rw c.in_ok-labels.ensures (length-range_with_len 0 c.args.count), (let e : c.args.count - 0 ≡ c.args.count = omega arith in rw (c.in_ok-labels.ensures, e) refl))

pub loop-a-preserved : goal.loop-a-preserved
loop-a-preserved c =
    let f = join_row (allowed c.args.table.now) c.args.count in
    let items = c.loop-a.labels.items in
    let w = whole_new c.loop-a.labels.len c.join_row.new.labels items (c.join_row.ensures.all ∙ (sym c.loop-a.invariant.0 ∙ (ap length (sym c.deref_mut.ensures.value) ∙ c.deref_mut.ensures.len))) in
    let v : c.join_row.new.labels ≡ join_row (allowed c.args.table.now) c.args.count items c.loop-a.a = rw c.deref_mut.ensures.value at c.join_row.ensures.value in
    rw w (c.join_row.ensures.all, rw v (sym (fold_more f items c.loop-a.a c.args.count c.loop-a-test.true) ∙ c.loop-a.invariant.1))
