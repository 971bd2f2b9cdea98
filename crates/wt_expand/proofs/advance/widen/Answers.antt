use Rattle.std.proofs.Common.{arith, ◌≡◌, ◌<◌, ◌+◌, ◌-◌, ◌*◌, ℕ, List, length, refl, ◌∙◌, ap}
use Rattle.std.proofs.lemmas.List.{length-drop}
use Rattle.wt_expand.specs.Blocks.{digit_of}
use Rattle.wt_expand.specs.Counters.{counter_levels, digits_at}
use Rattle.wt_expand.proofs.Places.{two_blocks, some_at}
use Rattle.wt_expand.proofs.Widened.{same_flag, take_lower, wide_top, two_wide, wide_more}
use Rattle.wt_expand.proofs.Splits.{plain_digits}
use Rattle.wt_expand.proofs.Kept.{kept_wide}
use Rattle.wt_expand.proofs.advance.widen.Goals as goal

pub loop-i-init : goal.loop-i-init
loop-i-init c =
    let counter = c.args.counter.now in
    let narrow = plain_digits 1 counter.renaming.now (counter_levels counter) (digits_at counter 0 c.args.space.now) c.requires.fits in
    record {
      low = omega (arith, c.count-i.ensures.value, c.requires.within);
      inside = omega (arith, c.count-i.ensures.value);
      wide = wide_top 1 c.args.w (omega arith) c.requires.some counter.renaming.now counter.block (counter_levels counter) c.count-i.result c.args.space.now c.count-i.ensures.value narrow;
      below = refl;
      size = refl;
    }

pub is_upper-upper-requires : goal.is_upper-upper-requires
is_upper-upper-requires c =
    let counter = c.args.counter.now in
    let k = c.loop-i.i - 1 in
    let n = length (counter_levels counter) in
    let in_loop = c.loop-i.invariant in
    let lt : k < n = omega (arith, c.loop-i-test.true, in_loop.inside) in
    let two = two_blocks n k counter.block (length c.args.space.now) lt c.requires.room in
    let long : length c.rest_at.result.now ≡ length c.loop-i.space - k * counter.block = ap length c.rest_at.ensures ∙ length-drop (k * counter.block) c.loop-i.space in
    omega (arith, two, long, in_loop.size, c.requires.wide)

pub lay_at-requires-clause-inside : goal.lay_at-requires-clause-inside
lay_at-requires-clause-inside c = λ up level at.
    let counter = c.args.counter.now in
    let narrow = plain_digits 1 counter.renaming.now (counter_levels counter) (digits_at counter 0 c.args.space.now) c.requires.fits in
    let b = counter.block in
    let i = c.loop-i.i in
    let k = i - 1 in
    let in_loop = c.loop-i.invariant in
    let next : k + 1 ≡ i = omega (arith, c.loop-i-test.true) in
    let lt : k < length (counter_levels counter) = omega (arith, c.loop-i-test.true, in_loop.inside) in
    let places = ap (λ (n : ℕ). n * b) next in
    let lower : k * b < i * b = omega (arith, places, c.requires.wide) in
    let flag = c.is_upper-upper.ensures ∙ (ap (λ (xs : List ℕ). (digit_of xs).is_upper) c.rest_at.ensures ∙ same_flag (k * b) (i * b) c.loop-i.space c.args.space.now lower in_loop.below) in
    two_wide 1 c.args.w (omega arith) c.requires.some counter.renaming.now b (counter_levels counter) k i level c.args.space.now c.loop-i.space c.is_upper-upper.result next at lt narrow in_loop.wide flag up

pub loop-i-preserved : goal.loop-i-preserved
loop-i-preserved c =
    let counter = c.args.counter.now in
    let narrow = plain_digits 1 counter.renaming.now (counter_levels counter) (digits_at counter 0 c.args.space.now) c.requires.fits in
    let b = counter.block in
    let i = c.loop-i.i in
    let k = i - 1 in
    let in_loop = c.loop-i.invariant in
    let next : k + 1 ≡ i = omega (arith, c.loop-i-test.true) in
    let lt : k < length (counter_levels counter) = omega (arith, c.loop-i-test.true, in_loop.inside) in
    let places = ap (λ (n : ℕ). n * b) next in
    let lower : k * b < i * b = omega (arith, places, c.requires.wide) in
    let flag = c.is_upper-upper.ensures ∙ (ap (λ (xs : List ℕ). (digit_of xs).is_upper) c.rest_at.ensures ∙ same_flag (k * b) (i * b) c.loop-i.space c.args.space.now lower in_loop.below) in
    let l = some_at (counter_levels counter) k lt in
    record {
      low = omega (arith, c.loop-i-test.true);
      inside = omega (arith, lt);
      wide = wide_more 1 c.args.w (omega arith) c.requires.some counter.renaming.now b (counter_levels counter) k i l.0 c.args.space.now c.loop-i.space c.lay_at.new.space
          c.is_upper-upper.result next l.1 lt narrow in_loop.wide flag (c.lay_at.ensures.laid l.0 l.1);
      below = c.lay_at.ensures.below ∙ take_lower (k * b) (i * b) c.loop-i.space c.args.space.now (omega (arith, lower)) in_loop.below;
      size = c.lay_at.ensures.size ∙ in_loop.size;
    }

pub returns-clause-fits : goal.returns-clause-fits
returns-clause-fits c =
    let counter = c.args.counter.now in
    let in_loop = c.loop-i.invariant in
    let narrow = plain_digits 1 counter.renaming.now (counter_levels counter) (digits_at counter 0 c.args.space.now) c.requires.fits in
    (kept_wide c.args.low c.args.w c.requires.some counter.renaming.now counter.block c.loop-i.i (counter_levels counter) c.args.space.now c.loop-i.space (omega (arith, c.loop-i-test.false, in_loop.low))
    (omega (arith, c.requires.wide, c.requires.some)) c.requires.within c.requires.room narrow in_loop.wide in_loop.below).0

pub returns-clause-same : goal.returns-clause-same
returns-clause-same c =
    let counter = c.args.counter.now in
    let in_loop = c.loop-i.invariant in
    let narrow = plain_digits 1 counter.renaming.now (counter_levels counter) (digits_at counter 0 c.args.space.now) c.requires.fits in
    (kept_wide c.args.low c.args.w c.requires.some counter.renaming.now counter.block c.loop-i.i (counter_levels counter) c.args.space.now c.loop-i.space (omega (arith, c.loop-i-test.false, in_loop.low))
    (omega (arith, c.requires.wide, c.requires.some)) c.requires.within c.requires.room narrow in_loop.wide in_loop.below).1
