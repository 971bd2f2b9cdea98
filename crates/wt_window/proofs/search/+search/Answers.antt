use Rattle.std.proofs.Common.{arith, ◌≡◌, ◌<◌, ◌-◌, ◌+◌, ◌∙◌, sym, refl, inl, inr, List, ℕ, get_or, take, subst, length}
use Rattle.std.proofs.lemmas.Bool.{cases_eq}
use Rattle.wt_window.specs.Trials.{cells}
use Rattle.wt_mask.specs.Masks.{mask_at}
use Rattle.wt_window.specs.Frames.{frame_window, IsNext, HasAllFrom}
use Rattle.wt_window.proofs.Searched.{trials_some, tiles_front, is_next, passed_over, none_at_all, first_found, child, paid_at_end, paid_on, spent_within, goes_on, front_kept, tile_kept, less_of}
use Rattle.wt_window.proofs.Carried.{tiled}
use Rattle.wt_window.proofs.search.+search.Goals as goal

pub returns-then-not-propagate-clause-paid : goal.returns-then-not-propagate-clause-paid
returns-then-not-propagate-clause-paid t c = λ left e.
    let q : c.args.budget - 1 ≡ left = cc in
    omega (arith, q, trials_some c.args.tables.now.tiles.now (frame_window c.args.frame.now) (cells (frame_window c.args.frame.now) - c.args.at) (take c.args.at c.args.filled.now))

pub returns-then-budget-eq0-clause-spent : goal.returns-then-budget-eq0-clause-spent
returns-then-budget-eq0-clause-spent t c = λ e. omega (arith, c.if-budget-eq0.true, trials_some c.args.tables.now.tiles.now (frame_window c.args.frame.now) (cells (frame_window c.args.frame.now) - c.args.at) (take c.args.at c.args.filled.now))

pub returns-then-not-propagate-clause-nothing : goal.returns-then-not-propagate-clause-nothing
returns-then-not-propagate-clause-nothing t c = λ left e g p h. c.if-not-propagate.ensures.nothing refl g (tiled c.args.tables.now.tiles.now (frame_window c.args.frame.now) g p) (c.requires.whole g p h)

pub followers-fit-requires-clause-tiles : goal.followers-fit-requires-clause-tiles
followers-fit-requires-clause-tiles t c = λ k lk. tiles_front c.args.tables.now.tiles.now (frame_window c.args.frame.now) c.args.filled.now c.args.at k c.requires.begun lk

pub fill-requires-clause-next : goal.fill-requires-clause-next
fill-requires-clause-next t c = subst (λ (l : List ℕ). IsNext c.args.tables.now.tiles.now (frame_window c.args.frame.now) l c.in-Some-next_bit.tile) (sym c.tiles.invariant.same)
    (is_next c.args.tables.now.tiles.now (frame_window c.args.frame.now) (take c.args.at c.args.filled.now) c.followers-fit.result c.and_into.new.a (mask_at c.propagate.new.masks c.args.at) c.in-Some-next_bit.tile c.and_into.ensures c.followers-fit.ensures c.in-Some-next_bit.ensures.2)

pub fill-requires-clause-whole : goal.fill-requires-clause-whole
fill-requires-clause-whole t c = λ g p h. c.tiles.invariant.whole c.in-Some-next_bit.tile c.in-Some-next_bit.ensures.0 c.in-Some-next_bit.ensures.2 g p (h ∙ c.tiles.invariant.same)

pub returns-in-Window-clause-same : goal.returns-in-Window-clause-same
returns-in-Window-clause-same t c = front_kept c.search.new.filled c.tiles.filled c.fill.new.filled (take c.args.at c.args.filled.now) c.args.at c.in-Some-next_bit.tile c.fill.ensures.filled c.tiles.invariant.same c.in-Window.ensures.same

pub returns-in-Spent-clause-same : goal.returns-in-Spent-clause-same
returns-in-Spent-clause-same t c = front_kept c.search.new.filled c.tiles.filled c.fill.new.filled (take c.args.at c.args.filled.now) c.args.at c.in-Some-next_bit.tile c.fill.ensures.filled c.tiles.invariant.same c.in-Spent.ensures.same

pub returns-in-Window-clause-least : goal.returns-in-Window-clause-least
returns-in-Window-clause-least t c = λ e g p h.
    let lt : c.args.at < cells (frame_window c.args.frame.now) = omega arith in
    let within : c.args.at < length c.tiles.filled = c.tiles.invariant.within in
    first_found (take c.args.at c.args.filled.now) g c.search.new.filled c.args.at c.in-Some-next_bit.tile h
    (front_kept c.search.new.filled c.tiles.filled c.fill.new.filled (take c.args.at c.args.filled.now) c.args.at c.in-Some-next_bit.tile c.fill.ensures.filled c.tiles.invariant.same c.in-Window.ensures.same)
    (tile_kept c.search.new.filled c.tiles.filled c.fill.new.filled c.args.at c.in-Some-next_bit.tile c.fill.ensures.filled within c.in-Window.ensures.same)
    (λ below. passed_over c.args.tables.now.tiles.now (frame_window c.args.frame.now) (take c.args.at c.args.filled.now) c.followers-fit.result c.and_into.new.a (mask_at c.propagate.new.masks c.args.at) c.propagate.new.masks g c.args.at c.tiles.from c.in-Some-next_bit.tile c.requires.frame.box.wide lt c.and_into.ensures c.followers-fit.ensures p h
    (c.propagate.ensures.kept g (tiled c.args.tables.now.tiles.now (frame_window c.args.frame.now) g p) (c.requires.whole g p h)) (c.tiles.invariant.none g p h) c.in-Some-next_bit.ensures.3 below)
    (λ q. c.in-Window.ensures.least refl g p (goes_on g c.tiles.filled c.fill.new.filled (take c.args.at c.args.filled.now) c.args.at c.in-Some-next_bit.tile c.fill.ensures.filled within (omega (arith, p.size)) c.tiles.invariant.same h q))

pub returns-in-Spent-clause-spent : goal.returns-in-Spent-clause-spent
returns-in-Spent-clause-spent t c = λ e.
    let lt : c.args.at < cells (frame_window c.args.frame.now) = omega arith in
    let next : IsNext c.args.tables.now.tiles.now (frame_window c.args.frame.now) (take c.args.at c.args.filled.now) c.in-Some-next_bit.tile = is_next c.args.tables.now.tiles.now (frame_window c.args.frame.now) (take c.args.at c.args.filled.now) c.followers-fit.result c.and_into.new.a (mask_at c.propagate.new.masks c.args.at) c.in-Some-next_bit.tile c.and_into.ensures c.followers-fit.ensures c.in-Some-next_bit.ensures.2 in
    spent_within c.args.tables.now.tiles.now (frame_window c.args.frame.now) (take c.args.at c.args.filled.now) c.args.at c.tiles.from c.in-Some-next_bit.tile c.args.budget c.tiles.left _ lt c.in-Some-next_bit.ensures.0 next
    (child c.args.tables.now.tiles.now (frame_window c.args.frame.now) c.tiles.filled c.fill.new.filled (take c.args.at c.args.filled.now) c.args.at c.in-Some-next_bit.tile (cells (frame_window c.args.frame.now) - (c.args.at + 1)) c.fill.ensures.filled c.tiles.invariant.within c.tiles.invariant.same)
    c.tiles.invariant.paid (c.in-Spent.ensures.spent refl)

pub tiles-preserved : goal.tiles-preserved
tiles-preserved t c =
    let lt : c.args.at < cells (frame_window c.args.frame.now) = omega arith in
    let next : IsNext c.args.tables.now.tiles.now (frame_window c.args.frame.now) (take c.args.at c.args.filled.now) c.in-Some-next_bit.tile = is_next c.args.tables.now.tiles.now (frame_window c.args.frame.now) (take c.args.at c.args.filled.now) c.followers-fit.result c.and_into.new.a (mask_at c.propagate.new.masks c.args.at) c.in-Some-next_bit.tile c.and_into.ensures c.followers-fit.ensures c.in-Some-next_bit.ensures.2 in
    let low = next.low in
    record {
      long = omega arith;
      within = omega arith;
      same = front_kept c.search.new.filled c.tiles.filled c.fill.new.filled (take c.args.at c.args.filled.now) c.args.at c.in-Some-next_bit.tile c.fill.ensures.filled c.tiles.invariant.same c.in-Nothing.ensures.same;
      low = omega arith;
      room = omega arith;
      whole = λ u le h.
          let again = c.has_from-again.ensures u le h in
          subst (λ (m : List (List ℕ)). HasAllFrom c.args.tables.now.tiles.now c.args.frame.now c.args.at c.args.filled.now m) (sym (c.copy_if-in-Some-next_bit.ensures again ∙ c.copy_if.ensures again))
          (c.tiles.invariant.whole c.in-Some-next_bit.tile c.in-Some-next_bit.ensures.0 c.in-Some-next_bit.ensures.2);
      none = λ g p h below. elim (cases_eq (get_or g c.args.at 0) c.in-Some-next_bit.tile) [
        | inl q ↦ c.in-Nothing.ensures.nothing c.in-Nothing.rest refl g p (goes_on g c.tiles.filled c.fill.new.filled (take c.args.at c.args.filled.now) c.args.at c.in-Some-next_bit.tile c.fill.ensures.filled c.tiles.invariant.within (omega (arith, p.size)) c.tiles.invariant.same h q)
        | inr n ↦ passed_over c.args.tables.now.tiles.now (frame_window c.args.frame.now) (take c.args.at c.args.filled.now) c.followers-fit.result c.and_into.new.a (mask_at c.propagate.new.masks c.args.at) c.propagate.new.masks g c.args.at c.tiles.from c.in-Some-next_bit.tile c.requires.frame.box.wide lt c.and_into.ensures c.followers-fit.ensures p h
            (c.propagate.ensures.kept g (tiled c.args.tables.now.tiles.now (frame_window c.args.frame.now) g p) (c.requires.whole g p h)) (c.tiles.invariant.none g p h) c.in-Some-next_bit.ensures.3 (less_of (get_or g c.args.at 0) c.in-Some-next_bit.tile below n)
      ];
      paid = paid_on c.args.tables.now.tiles.now (frame_window c.args.frame.now) (take c.args.at c.args.filled.now) c.args.at c.tiles.from c.in-Some-next_bit.tile c.args.budget c.tiles.left c.in-Nothing.rest _ c.in-Some-next_bit.ensures.0 next
          (child c.args.tables.now.tiles.now (frame_window c.args.frame.now) c.tiles.filled c.fill.new.filled (take c.args.at c.args.filled.now) c.args.at c.in-Some-next_bit.tile (cells (frame_window c.args.frame.now) - (c.args.at + 1)) c.fill.ensures.filled c.tiles.invariant.within c.tiles.invariant.same)
          c.tiles.invariant.paid (c.in-Nothing.ensures.paid c.in-Nothing.rest refl);
    }

pub returns-clause-nothing : goal.returns-clause-nothing
returns-clause-nothing t c = λ left e g p h.
    let lt : c.args.at < cells (frame_window c.args.frame.now) = omega arith in
    none_at_all c.args.tables.now.tiles.now (frame_window c.args.frame.now) (take c.args.at c.args.filled.now) c.followers-fit.result c.and_into.new.a c.propagate.new.masks g c.args.at c.tiles.from c.requires.frame.box.wide lt c.and_into.ensures c.followers-fit.ensures p h
    (c.propagate.ensures.kept g (tiled c.args.tables.now.tiles.now (frame_window c.args.frame.now) g p) (c.requires.whole g p h)) (c.tiles.invariant.none g p h) c.in_default-next_bit.ensures

pub returns-clause-paid : goal.returns-clause-paid
returns-clause-paid t c = λ left e.
    let lt : c.args.at < cells (frame_window c.args.frame.now) = omega arith in
    let q : c.tiles.left ≡ left = cc in
    let paid = paid_at_end c.args.tables.now.tiles.now (frame_window c.args.frame.now) (take c.args.at c.args.filled.now) c.args.at c.tiles.from c.args.budget c.tiles.left lt c.tiles.invariant.low c.tiles.invariant.paid in
    omega (arith, q, paid)
