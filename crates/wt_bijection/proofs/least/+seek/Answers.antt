use Rattle.std.proofs.Common.{arith, ◌≡◌, ◌+◌, ◌-◌, ◌<◌, ◌++◌, ◌∷◌, [], take, length, set, refl, sym, ap, ◌∙◌, subst, slice_index, None, Some}
use Rattle.std.proofs.lemmas.List.{length-take-le, take_more_set, length-set}
use Rattle.wt_bijection.specs.Least.{least_behind}
use Rattle.wt_bijection.specs.Kept.{AreKept}
use Rattle.wt_bijection.proofs.Sought.{opened, skip, hit, differs, adds_up, kept_by, back}
use Rattle.wt_bijection.proofs.least.+seek.Goals as goal

pub loop-t-init : goal.loop-t-init
loop-t-init t c = let w = c.requires.whole in record {
  whole = sym w;
  same = refl;
  left = opened c.args.from.now c.args.to.now c.args.i (take c.args.i c.args.list.now) (omega arith);
}

pub loop-t-preserved-then-own-i : goal.loop-t-preserved-then-own-i
loop-t-preserved-then-own-i t c =
    let w = c.loop-t.invariant.whole in
    let v = c.requires.whole in
    let lt : c.args.i < length c.args.from.now = omega arith in
    let long = length-take-le c.args.i c.loop-t.list (omega arith) in
    let kept = subst (λ s. AreKept c.args.from.now c.args.to.now s c.args.own.now c.args.other.now) (sym c.loop-t.invariant.same) c.requires.kept in
    record {
      whole = w;
      same = c.loop-t.invariant.same;
      left = skip c.args.from.now c.args.to.now (length c.args.from.now - (c.args.i + 1)) c.loop-t.t (take c.args.i c.loop-t.list) _ c.loop-t-test.true
          (differs c.args.from.now c.args.to.now (length c.args.from.now - (c.args.i + 1)) c.args.i c.loop-t.t (take c.args.i c.loop-t.list) c.args.own.now c.args.other.now long lt kept
          (λ e. c.if-own-i.true (e ∙ ap (slice_index c.args.other.now) (sym c.from.ensures))))
          c.loop-t.invariant.left;
    }

pub loop-t-preserved-then-label_sum-wanted : goal.loop-t-preserved-then-label_sum-wanted
loop-t-preserved-then-label_sum-wanted t c =
    let w = c.loop-t.invariant.whole in
    let v = c.requires.whole in
    let lt : c.args.i < length c.args.from.now = omega arith in
    let long = length-take-le c.args.i c.loop-t.list (omega arith) in
    let r = c.requires in
    let kept = kept_by c.args.from.now c.args.to.now c.rounds_wanted-count.result c.args.i c.loop-t.t (take c.args.i c.loop-t.list) (take c.args.i c.args.list.now) c.args.own.now c.args.other.now
    c.marked-first.result c.rounds-next.result c.labels_with-partner.result long c.loop-t.invariant.same lt r.few r.alike c.loop-t-test.true r.own r.other r.small r.kept
    c.marked-first.ensures c.rounds-next.ensures.value c.labels_with-partner.ensures.value in
    record {
      whole = w;
      same = c.loop-t.invariant.same;
      left = skip c.args.from.now c.args.to.now (length c.args.from.now - (c.args.i + 1)) c.loop-t.t (take c.args.i c.loop-t.list) _ c.loop-t-test.true
          (adds_up c.args.from.now c.args.to.now (length c.args.from.now - (c.args.i + 1)) c.loop-t.t (take c.args.i c.loop-t.list) c.rounds-next.result c.labels_with-partner.result kept
          (λ e. c.if-label_sum-wanted.true (c.label_sum.ensures ∙ (sym e ∙ sym c.label_sum-wanted.ensures))))
          c.loop-t.invariant.left;
    }

pub seek-requires : goal.seek-requires
seek-requires t c =
    let w = c.loop-t.invariant.whole in
    let v = c.requires.whole in
    let lt : c.args.i < length c.args.from.now = omega arith in
    let long = length-take-le c.args.i c.loop-t.list (omega arith) in
    let r = c.requires in
    let set_long = length-set c.loop-t.list c.args.i c.loop-t.t in
    let kept = kept_by c.args.from.now c.args.to.now c.rounds_wanted-count.result c.args.i c.loop-t.t (take c.args.i c.loop-t.list) (take c.args.i c.args.list.now) c.args.own.now c.args.other.now
    c.marked-first.result c.rounds-next.result c.labels_with-partner.result long c.loop-t.invariant.same lt r.few r.alike c.loop-t-test.true r.own r.other r.small r.kept
    c.marked-first.ensures c.rounds-next.ensures.value c.labels_with-partner.ensures.value in
    let v = c.requires.whole in (
      omega arith,
      (
        r.few,
        (
          r.alike,
          (
            sym w ∙ sym set_long,
            (
              omega arith,
              (
                r.small,
                (
                  c.rounds-next.ensures.long,
                  (
                    c.labels_with-partner.ensures.long,
                    subst (λ s. AreKept c.args.from.now c.args.to.now s c.rounds-next.result c.labels_with-partner.result) (sym (take_more_set c.loop-t.list c.args.i c.loop-t.t (omega arith))) kept,
                  ),
                ),
              ),
            ),
          ),
        ),
      ),
    )

pub returns-then-seek-clause-same : goal.returns-then-seek-clause-same
returns-then-seek-clause-same t c =
    let w = c.loop-t.invariant.whole in
    let v = c.requires.whole in
    back c.args.i c.loop-t.t c.seek.new.list c.loop-t.list c.seek.ensures.same ∙ c.loop-t.invariant.same

pub returns-then-seek-clause-found : goal.returns-then-seek-clause-found
returns-then-seek-clause-found t c = λ e.
    let w = c.loop-t.invariant.whole in
    let v = c.requires.whole in
    let set_long = length-set c.loop-t.list c.args.i c.loop-t.t in
    let lt : c.args.i < length c.loop-t.list = omega arith in
    let below : length (set c.loop-t.list c.args.i c.loop-t.t) - (c.args.i + 1) ≡ length c.args.from.now - (c.args.i + 1) = omega arith in
    let found : least_behind c.args.from.now c.args.to.now (length c.args.from.now - (c.args.i + 1)) (take c.args.i c.loop-t.list ++ c.loop-t.t ∷ []) ≡ Some c.seek.new.list =
    ap (λ k. least_behind c.args.from.now c.args.to.now k (take c.args.i c.loop-t.list ++ c.loop-t.t ∷ [])) (sym below)
    ∙ (ap (least_behind c.args.from.now c.args.to.now (length (set c.loop-t.list c.args.i c.loop-t.t) - (c.args.i + 1))) (sym (take_more_set c.loop-t.list c.args.i c.loop-t.t lt)) ∙ c.if-seek.ensures.found refl) in
    let h = hit c.args.from.now c.args.to.now (length c.args.from.now - (c.args.i + 1)) c.loop-t.t (take c.args.i c.loop-t.list) c.seek.new.list _ c.loop-t-test.true found c.loop-t.invariant.left in
    let most : length c.args.list.now - c.args.i ≡ length c.args.from.now - c.args.i = omega arith in
    ap (λ k. least_behind c.args.from.now c.args.to.now k (take c.args.i c.args.list.now)) most
    ∙ (ap (least_behind c.args.from.now c.args.to.now (length c.args.from.now - c.args.i)) (sym c.loop-t.invariant.same) ∙ h)

pub loop-t-preserved : goal.loop-t-preserved
loop-t-preserved t c =
    let w = c.loop-t.invariant.whole in
    let v = c.requires.whole in
    let set_long = length-set c.loop-t.list c.args.i c.loop-t.t in
    let lt : c.args.i < length c.loop-t.list = omega arith in
    let below : length (set c.loop-t.list c.args.i c.loop-t.t) - (c.args.i + 1) ≡ length c.args.from.now - (c.args.i + 1) = omega arith in
    let none : least_behind c.args.from.now c.args.to.now (length c.args.from.now - (c.args.i + 1)) (take c.args.i c.loop-t.list ++ c.loop-t.t ∷ []) ≡ None =
    ap (λ k. least_behind c.args.from.now c.args.to.now k (take c.args.i c.loop-t.list ++ c.loop-t.t ∷ [])) (sym below)
    ∙ (ap (least_behind c.args.from.now c.args.to.now (length (set c.loop-t.list c.args.i c.loop-t.t) - (c.args.i + 1))) (sym (take_more_set c.loop-t.list c.args.i c.loop-t.t lt)) ∙ c.if-seek.ensures.none refl) in
    let again = back c.args.i c.loop-t.t c.seek.new.list c.loop-t.list c.seek.ensures.same in
    record {
      whole = c.seek.auto.list ∙ (set_long ∙ w);
      same = again ∙ c.loop-t.invariant.same;
      left = rw again (skip c.args.from.now c.args.to.now (length c.args.from.now - (c.args.i + 1)) c.loop-t.t (take c.args.i c.loop-t.list) _ c.loop-t-test.true none c.loop-t.invariant.left);
    }
