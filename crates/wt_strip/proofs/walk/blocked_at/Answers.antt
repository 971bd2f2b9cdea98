use Rattle.std.proofs.Common.{arith, ◌≡◌, ◌<◌, true, false, length, slice_index, refl, sym, ◌∙◌}
use Rattle.wt_strip.proofs.Walked.{and_true}
use Rattle.wt_strip.proofs.Bears.{nothing, first, follows, ended, kept_end, raised}
use Rattle.wt_strip.proofs.walk.blocked_at.Goals as goal

pub loop-x-init : goal.loop-x-init
loop-x-init c = record {
  bears = nothing c.args.sides.now.tiles.now c.args.p.now;
  stands = λ u e. first c.args.sides.now.tiles.now c.args.p.now u;
  all = λ u lt f. c.all-next.ensures u ∙ (and_true u (length c.args.sides.now.tiles.now) ∙ raised u (length c.args.sides.now.tiles.now) true lt refl);
}

pub returns-then-not-any : goal.returns-then-not-any
returns-then-not-any c = (
  c.loop-x-test.true,
  λ f.
      let ts = c.args.sides.now.tiles.now in
      let x = c.loop-x.x in
      let t = slice_index f.0 x in
      let lt : t < length ts = f.1.tiles x (omega arith) in
      let few = c.args.sides.now.few in
      let e = kept_end ts c.args.p.now x f.0 c.beside-ends.result c.loop-x.next c.and_into.new.a c.beside-ends.ensures c.loop-x.invariant.all c.and_into.ensures f.1 f.2 in
      let both : true ≡ false = sym (c.any.ensures.1 (t, omega (arith, lt, few), e)) ∙ c.if-not-any.true in
      absurd cc,
)

pub loop-x-preserved : goal.loop-x-preserved
loop-x-preserved c =
    let a = c.any.ensures.0 c.if-not-any.false in
    let e = ended c.args.sides.now.tiles.now c.args.p.now c.loop-x.x a.0 c.beside-ends.result c.loop-x.next c.and_into.new.a c.beside-ends.ensures c.loop-x.invariant.stands c.and_into.ensures a.2 in
    record {
      bears = (e.0, e.1, e.2);
      stands = λ u s.
          let b = c.behind-next.ensures.stands u s in
          follows c.args.sides.now.tiles.now c.args.p.now c.loop-x.x b.0 u
          (ended c.args.sides.now.tiles.now c.args.p.now c.loop-x.x b.0 c.beside-ends.result c.loop-x.next c.and_into.new.a c.beside-ends.ensures c.loop-x.invariant.stands c.and_into.ensures b.1) b.3;
      all = λ u lt f.
          let x = c.loop-x.x in
          c.behind-next.ensures.all u (
            slice_index f.0 x,
            kept_end c.args.sides.now.tiles.now c.args.p.now x f.0 c.beside-ends.result c.loop-x.next c.and_into.new.a c.beside-ends.ensures c.loop-x.invariant.all c.and_into.ensures f.1 f.2,
            lt,
            f.3 x (omega arith),
          );
    }
