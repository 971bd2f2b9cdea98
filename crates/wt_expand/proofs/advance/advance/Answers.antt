use Rattle.std.proofs.Common.{arith, ◌≡◌, sym, subst, ◌<◌, ◌+◌, ◌∙◌, ap, ℕ, length, List, slice_get, Some}
use Rattle.wt_expand.specs.Levels.{Level}
use Rattle.wt_expand.specs.Rows.{Digit}
use Rattle.wt_expand.specs.Advances.{laid_over}
use Rattle.wt_expand.specs.Counters.{counter_levels, digits_at}
use Rattle.wt_expand.specs.Splits.{cells_kept}
use Rattle.wt_expand.proofs.Places.{from_bottom}
use Rattle.wt_expand.proofs.Advanced.{IsFlip, flip_found, flip_inside, two_above}
use Rattle.wt_expand.proofs.Splits.{split_no_next, split_stepped}
use Rattle.wt_expand.proofs.advance.advance.Goals as goal

pub returns-in-None-clause-last : goal.returns-in-None-clause-last
returns-in-None-clause-last c = λ _.
    let counter = c.args.counter.now in
    split_no_next c.args.low c.args.w c.requires.some counter.renaming.now c.args.direction (counter_levels counter) (digits_at counter 0 c.args.space.now) c.requires.fits (sym c.in-None.ensures)

pub lay_at-requires-clause-level : goal.lay_at-requires-clause-level
lay_at-requires-clause-level c =
    let counter = c.args.counter.now in
    let ss = digits_at counter 0 c.args.space.now in
    flip_inside c.args.direction counter.renaming.now c.in-Some.j (counter_levels counter) ss (flip_found c.args.direction counter.renaming.now c.in-Some.j (counter_levels counter) ss (sym c.in-Some.ensures))

pub lay_at-requires-clause-inside : goal.lay_at-requires-clause-inside
lay_at-requires-clause-inside c = λ up level e.
    let counter = c.args.counter.now in
    let levels = counter_levels counter in
    let turn = flip_found c.args.direction counter.renaming.now c.in-Some.j levels (digits_at counter 0 c.args.space.now) (sym c.in-Some.ensures) in
    two_above c.args.direction counter.renaming.now counter.block c.in-Some.j levels c.args.space.now level
    (subst (λ (ss : List Digit). IsFlip c.args.direction counter.renaming.now c.in-Some.j levels ss) (from_bottom counter.block levels c.args.space.now) turn) e (sym c.flipped.ensures ∙ up)

pub lay_below-requires-clause-level : goal.lay_below-requires-clause-level
lay_below-requires-clause-level c =
    let counter = c.args.counter.now in
    let ss = digits_at counter 0 c.args.space.now in
    let lt : c.in-Some.j < length (counter_levels counter) =
    flip_inside c.args.direction counter.renaming.now c.in-Some.j (counter_levels counter) ss (flip_found c.args.direction counter.renaming.now c.in-Some.j (counter_levels counter) ss (sym c.in-Some.ensures)) in
    omega (arith, lt)

pub returns-in-Some-clause-advanced : goal.returns-in-Some-clause-advanced
returns-in-Some-clause-advanced c = λ _.
    let counter = c.args.counter.now in
    let levels = counter_levels counter in
    let j = c.in-Some.j in
    let laid : (level : Level) → slice_get levels j ≡ Some level
    → digits_at counter j c.lay_at.new.space ≡ laid_over (cells_kept c.args.low c.args.w j) counter.renaming.now level c.flipped.result (digits_at counter (j + 1) c.args.space.now) = λ level at.
    c.lay_at.ensures.laid level at
    ∙ ap (λ (cells : ℕ). laid_over cells counter.renaming.now level c.flipped.result (digits_at counter (j + 1) c.args.space.now)) c.cells_kept-kept.ensures.value in
    let next = split_stepped c.args.low c.args.w c.requires.some counter.renaming.now c.args.direction counter.block j levels c.args.space.now c.lay_at.new.space c.flipped.result
    (digits_at counter 0 c.args.space.now) (digits_at counter 0 c.lay_below.new.space) (from_bottom counter.block levels c.args.space.now) c.requires.fits (sym c.in-Some.ensures)
    c.flipped.ensures laid c.lay_below.ensures.laid in
    (next.fits, next.advanced)
