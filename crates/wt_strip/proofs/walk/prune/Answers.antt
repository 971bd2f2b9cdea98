use Rattle.std.proofs.Common.{arith, ◌≡◌, ◌-◌, ℕ, suc, slice_index, true, false, Bool, sym, subst, ◌∙◌}
use Rattle.std.proofs.lemmas.List.{length-set}
use Rattle.wt_strip.specs.Walks.{is_allowed}
use Rattle.wt_strip.proofs.Walked.{narrowed_way, narrowed_fewer, bit_of}
use Rattle.wt_strip.proofs.walk.prune.Goals as goal

not_both : (b : Bool) → b ≡ true → b ≡ false → ⊥
not_both b t f = let e : true ≡ false = sym t ∙ f in absurd cc

pub returns-then-not-any-clause-none : goal.returns-then-not-any-clause-none
returns-then-not-any-clause-none c = λ e q way.
    let some = c.loop-i.invariant.some in
    let low = c.loop-i-test.true in
    let x = c.args.w - c.loop-i.i - 1 in
    let next : suc x ≡ c.args.w - c.loop-i.i = omega (arith, some, low) in
    let kept = c.loop-i.invariant.kept q way in
    let here = kept.tiles x (omega (arith, some, low)) in
    let few = c.args.sides.now.few in
    let u = subst (λ (j : ℕ). is_allowed c.loop-i.allowed j (slice_index q (suc x)) ≡ true) next (kept.stands (suc x) (omega (arith, some, low))) in
    let t = c.narrowed-column.ensures.kept (slice_index q x) (slice_index q (suc x)) here (kept.stands x (omega (arith, some, low))) u (kept.across x (omega (arith, some, low))) in
    not_both c.any.result (c.any.ensures.1 (slice_index q x, omega (arith, here, few), bit_of c.narrowed-column.result (slice_index q x) t)) c.if-not-any.true

pub loop-i-preserved : goal.loop-i-preserved
loop-i-preserved c =
    let some = c.loop-i.invariant.some in
    let low = c.loop-i-test.true in
    let long = c.loop-i.invariant.long in
    let narrow = c.requires.narrow in
    let x = c.args.w - c.loop-i.i - 1 in
    let next : suc x ≡ c.args.w - c.loop-i.i = omega (arith, some, low) in
    let same = length-set c.loop-i.allowed x c.narrowed-column.result in
    record {
      some = omega (arith, some);
      long = omega (arith, same, long);
      fewer = narrowed_fewer c.loop-i.allowed c.args.allowed.now c.narrowed-column.result x (omega (arith, long, narrow, some, low)) c.narrowed-column.ensures.fewer c.loop-i.invariant.fewer;
      kept = λ q way. narrowed_way c.args.sides.now.tiles.now c.loop-i.allowed c.narrowed-column.result c.args.w x q (omega (arith, some, low)) (omega (arith, long, narrow, some, low))
          (λ t u lt a b m. c.narrowed-column.ensures.kept t u lt a (subst (λ (j : ℕ). is_allowed c.loop-i.allowed j u ≡ true) next b) m) (c.loop-i.invariant.kept q way);
    }
