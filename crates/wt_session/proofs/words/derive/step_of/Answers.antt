use Rattle.std.proofs.Common.{ℕ, List, length, map, slice_get, sym, ◌∙◌, ap}
use Rattle.wt_window.specs.Surrounded.{allowed}
use Rattle.wt_session.specs.Markers.{classes_along}
use Rattle.wt_session.proofs.Behind.{contained}
use Rattle.wt_session.proofs.words.derive.step_of.Goals as goal

pub of_class-requires-clause-kept : goal.of_class-requires-clause-kept
of_class-requires-clause-kept c =
    let j = c.args.wanted.class in
    contained (classes_along (length c.args.set.list.now.tiles) c.args.wanted.axis (allowed c.in-Ok.one) (allowed c.in-Ok-dominoes.two)) j c.in-Some.class.now
    (ap (λ (xs : List (List ℕ)). slice_get xs j) (sym c.in_ok-classes.ensures) ∙ (ap (λ xs. slice_get (map (λ v. v.items) xs) j) (sym c.deref.ensures.value) ∙ sym c.in-Some.ensures))
