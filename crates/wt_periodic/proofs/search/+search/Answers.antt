use Rattle.std.proofs.Common.{arith, ◌≡◌, ◌<◌, ◌-◌, ◌+◌, ◌*◌, sym, refl, inl, inr, List, ℕ, get_or, take, subst}
use Rattle.std.proofs.lemmas.Bool.{cases_eq}
use Rattle.wt_window.specs.Frames.{IsNext}
use Rattle.wt_window.proofs.Searched.{tiles_front, first_found, child, paid_at_end, paid_on, spent_within, goes_on, front_kept, tile_kept, less_of}
use Rattle.wt_periodic.specs.Fillings.{open_window, IsClosing}
use Rattle.wt_periodic.proofs.Searching.{passed}
use Rattle.wt_periodic.proofs.search.+search.Goals as goal

pub least_tile-from-requires-clause-tiles : goal.least_tile-from-requires-clause-tiles
least_tile-from-requires-clause-tiles t c = λ k lk. tiles_front c.args.rounds.now.tables.tiles.now (open_window c.args.size.width c.args.size.height) c.args.filled.now c.args.at k c.requires.begun.filling lk

pub tiles-init : goal.tiles-init
tiles-init t c = record {
  long = refl;
  within = omega arith;
  same = refl;
  low = c.least_tile-from.ensures.low;
  none = λ g s e below. c.least_tile-from.ensures.none_below g (λ k lk. s.low k (omega (arith, lk, c.requires.long))) e below;
  paid = omega arith;
}

pub fill-requires-clause-next : goal.fill-requires-clause-next
fill-requires-clause-next t c = subst (λ (l : List ℕ). IsClosing c.args.rounds.now.tables.tiles.now c.args.size.width c.args.size.height l c.in-Some.tile) (sym c.tiles.invariant.same) (c.closers-fit.ensures.sound c.in-Some.tile c.in-Some.ensures.2)

pub returns-in-Wrap-clause-same : goal.returns-in-Wrap-clause-same
returns-in-Wrap-clause-same t c = front_kept c.search.new.filled c.tiles.filled c.fill.new.filled (take c.args.at c.args.filled.now) c.args.at c.in-Some.tile c.fill.ensures.filled c.tiles.invariant.same c.in-Wrap.ensures.same

pub returns-in-Wrap-clause-least : goal.returns-in-Wrap-clause-least
returns-in-Wrap-clause-least t c = λ e g s h.
    first_found (take c.args.at c.args.filled.now) g c.search.new.filled c.args.at c.in-Some.tile h
    (front_kept c.search.new.filled c.tiles.filled c.fill.new.filled (take c.args.at c.args.filled.now) c.args.at c.in-Some.tile c.fill.ensures.filled c.tiles.invariant.same c.in-Wrap.ensures.same)
    (tile_kept c.search.new.filled c.tiles.filled c.fill.new.filled c.args.at c.in-Some.tile c.fill.ensures.filled c.tiles.invariant.within c.in-Wrap.ensures.same)
    (λ below. passed c.closers-fit.result (get_or g c.args.at 0) c.tiles.from c.in-Some.tile (c.closers-fit.ensures.complete g s h) (c.tiles.invariant.none g s h) c.in-Some.ensures.3 below)
    (λ q. c.in-Wrap.ensures.least refl g s (goes_on g c.tiles.filled c.fill.new.filled (take c.args.at c.args.filled.now) c.args.at c.in-Some.tile c.fill.ensures.filled c.tiles.invariant.within (omega (arith, s.closed.filling.size)) c.tiles.invariant.same h q))

pub returns-in-Spent-clause-same : goal.returns-in-Spent-clause-same
returns-in-Spent-clause-same t c = front_kept c.search.new.filled c.tiles.filled c.fill.new.filled (take c.args.at c.args.filled.now) c.args.at c.in-Some.tile c.fill.ensures.filled c.tiles.invariant.same c.in-Spent.ensures.same

pub returns-in-Spent-clause-spent : goal.returns-in-Spent-clause-spent
returns-in-Spent-clause-spent t c = λ e.
    let lt : c.args.at < c.args.size.width * c.args.size.height = omega arith in
    let next : IsNext c.args.rounds.now.tables.tiles.now (open_window c.args.size.width c.args.size.height) (take c.args.at c.args.filled.now) c.in-Some.tile = (c.closers-fit.ensures.sound c.in-Some.tile c.in-Some.ensures.2).next in
    spent_within c.args.rounds.now.tables.tiles.now (open_window c.args.size.width c.args.size.height) (take c.args.at c.args.filled.now) c.args.at c.tiles.from c.in-Some.tile c.args.budget c.tiles.left _ lt c.in-Some.ensures.0 next
    (child c.args.rounds.now.tables.tiles.now (open_window c.args.size.width c.args.size.height) c.tiles.filled c.fill.new.filled (take c.args.at c.args.filled.now) c.args.at c.in-Some.tile (c.args.size.width * c.args.size.height - (c.args.at + 1)) c.fill.ensures.filled c.tiles.invariant.within c.tiles.invariant.same)
    c.tiles.invariant.paid (c.in-Spent.ensures.spent refl)

pub tiles-preserved : goal.tiles-preserved
tiles-preserved t c =
    let lt : c.args.at < c.args.size.width * c.args.size.height = omega arith in
    let next : IsNext c.args.rounds.now.tables.tiles.now (open_window c.args.size.width c.args.size.height) (take c.args.at c.args.filled.now) c.in-Some.tile = (c.closers-fit.ensures.sound c.in-Some.tile c.in-Some.ensures.2).next in
    let low = next.low in
    record {
      long = omega arith;
      within = omega arith;
      same = front_kept c.search.new.filled c.tiles.filled c.fill.new.filled (take c.args.at c.args.filled.now) c.args.at c.in-Some.tile c.fill.ensures.filled c.tiles.invariant.same c.in-Nothing.ensures.same;
      low = omega arith;
      none = λ g s h below. elim (cases_eq (get_or g c.args.at 0) c.in-Some.tile) [
        | inl q ↦ c.in-Nothing.ensures.nothing c.in-Nothing.rest refl g s (goes_on g c.tiles.filled c.fill.new.filled (take c.args.at c.args.filled.now) c.args.at c.in-Some.tile c.fill.ensures.filled c.tiles.invariant.within (omega (arith, s.closed.filling.size)) c.tiles.invariant.same h q)
        | inr n ↦ passed c.closers-fit.result (get_or g c.args.at 0) c.tiles.from c.in-Some.tile (c.closers-fit.ensures.complete g s h) (c.tiles.invariant.none g s h) c.in-Some.ensures.3 (less_of (get_or g c.args.at 0) c.in-Some.tile below n)
      ];
      paid = paid_on c.args.rounds.now.tables.tiles.now (open_window c.args.size.width c.args.size.height) (take c.args.at c.args.filled.now) c.args.at c.tiles.from c.in-Some.tile c.args.budget c.tiles.left c.in-Nothing.rest _ c.in-Some.ensures.0 next
          (child c.args.rounds.now.tables.tiles.now (open_window c.args.size.width c.args.size.height) c.tiles.filled c.fill.new.filled (take c.args.at c.args.filled.now) c.args.at c.in-Some.tile (c.args.size.width * c.args.size.height - (c.args.at + 1)) c.fill.ensures.filled c.tiles.invariant.within c.tiles.invariant.same)
          c.tiles.invariant.paid (c.in-Nothing.ensures.paid c.in-Nothing.rest refl);
    }

pub returns-clause-nothing : goal.returns-clause-nothing
returns-clause-nothing t c = λ left e g s h.
    passed c.closers-fit.result (get_or g c.args.at 0) c.tiles.from (get_or g c.args.at 0 + 1) (c.closers-fit.ensures.complete g s h) (c.tiles.invariant.none g s h) (λ i le below. c.in_default.ensures i le) (omega arith)

pub returns-clause-paid : goal.returns-clause-paid
returns-clause-paid t c = λ left e.
    let lt : c.args.at < c.args.size.width * c.args.size.height = omega arith in
    let q : c.tiles.left ≡ left = cc in
    let paid = paid_at_end c.args.rounds.now.tables.tiles.now (open_window c.args.size.width c.args.size.height) (take c.args.at c.args.filled.now) c.args.at c.tiles.from c.args.budget c.tiles.left lt c.tiles.invariant.low c.tiles.invariant.paid in
    omega (arith, q, paid)
