use Rattle.std.proofs.Common.{arith, ◌≡◌, ◌+◌, ◌∙◌, sym, refl, inl, inr, ℕ, get_or, take, subst, length}
use Rattle.std.proofs.lemmas.Bool.{cases_eq}
use Rattle.std.proofs.lemmas.List.{length-set}
use Rattle.std.proofs.Math.ListN.{set}
use Rattle.wt_window.proofs.Searched.{goes_on, front_kept, less_of}
use Rattle.wt_periodic.specs.Cylinders.{IsCylinder}
use Rattle.wt_periodic.proofs.Searching.{passed}
use Rattle.wt_periodic.proofs.cylinder.+stack.Goals as goal

pub tiles-preserved : goal.tiles-preserved
tiles-preserved t c =
    let kept : length (set c.tiles.filled c.args.at c.in-Some.tile) ≡ length c.args.filled.now = length-set c.tiles.filled c.args.at c.in-Some.tile ∙ c.tiles.invariant.long in
    let long : length c.stack.new.filled ≡ length c.args.filled.now = c.in_ok-left.ensures.long ∙ kept in
    record {
      long = long;
      within = omega arith;
      same = front_kept c.stack.new.filled c.tiles.filled (set c.tiles.filled c.args.at c.in-Some.tile) (take c.args.at c.args.filled.now) c.args.at c.in-Some.tile refl c.tiles.invariant.same c.in_ok-left.ensures.same;
      none = λ g p h below. elim (cases_eq (get_or g c.args.at 0) c.in-Some.tile) [
        | inl q ↦ c.in_ok-left.ensures.none c.in_ok-left.left refl g (subst (λ (n : ℕ). IsCylinder c.args.along.now.tiles.now c.args.along.now.axis c.args.width n g) (sym kept) p)
            (goes_on g c.tiles.filled (set c.tiles.filled c.args.at c.in-Some.tile) (take c.args.at c.args.filled.now) c.args.at c.in-Some.tile refl c.tiles.invariant.within (omega (arith, p.size)) c.tiles.invariant.same h q)
        | inr n ↦ passed c.may_stack-fit.result (get_or g c.args.at 0) c.tiles.from c.in-Some.tile (c.may_stack-fit.ensures g p h) (c.tiles.invariant.none g p h) c.in-Some.ensures.3 (less_of (get_or g c.args.at 0) c.in-Some.tile below n)
      ];
    }

pub returns-clause-none : goal.returns-clause-none
returns-clause-none t c = λ left e g p h.
    passed c.may_stack-fit.result (get_or g c.args.at 0) c.tiles.from ((get_or g c.args.at 0) + 1) (c.may_stack-fit.ensures g p h) (c.tiles.invariant.none g p h) (λ i le below. c.in_default.ensures i le) (omega arith)
