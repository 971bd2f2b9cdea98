use Rattle.std.proofs.Common.{rules, arith, ◌≡◌, ◌<◌, slice_index, inl, inr}
use Rattle.std.proofs.lemmas.Bool.{cases_lt}
use Rattle.wt_strip.proofs.Walked.{agree_on, kept, ahead, comes, goes_on}
use Rattle.wt_strip.proofs.walk.+misses_from.Goals as goal

pub misses_from-requires : goal.misses_from-requires
misses_from-requires t c =
    let long = c.tiles.invariant.long in
    let inside = c.requires.inside in
    let narrow = c.requires.narrow in
    let longer = goes_on c.args.sides.now.tiles.now c.args.allowed.now c.args.x c.in-Some-next_bit.t c.args.row.now c.tiles.row (omega (arith, long, inside, narrow, c.if-x-w.false)) c.tiles.invariant.same c.requires.begun
    (c.coming-mask.ensures.come c.in-Some-next_bit.t (c.in-Some-next_bit.ensures {u = tt}).2) in
    (search rules, (c.requires.wide, (c.requires.narrow, (omega (arith, inside, c.if-x-w.false), (c.requires.ascending, longer)))))

pub returns-then-misses_from-clause-same : goal.returns-then-misses_from-clause-same
returns-then-misses_from-clause-same t c =
    kept c.args.x c.in-Some-next_bit.t c.misses_from.new.row c.tiles.row c.args.row.now c.misses_from.ensures.same c.tiles.invariant.same

pub returns-then-misses_from-clause-first : goal.returns-then-misses_from-clause-first
returns-then-misses_from-clause-first t c = λ e q long way agree missing.
    let i = c.tiles.invariant in
    let il = i.long in
    let inside = c.requires.inside in
    let narrow = c.requires.narrow in
    let found = c.in-Some-next_bit.ensures {u = tt} in
    let xw : c.args.x < c.args.w = omega (arith, inside, c.if-x-w.false) in
    elim (cases_lt (slice_index q c.args.x) c.tiles.from) [
      | inl less ↦ absurd (missing (i.none q long way agree less))
      | inr ge ↦ elim (cases_lt (slice_index q c.args.x) c.in-Some-next_bit.t) [
        | inl between ↦ absurd (c.coming-mask.ensures.barred (slice_index q c.args.x) (found.3 (slice_index q c.args.x) ge between)
            (comes c.args.sides.now.tiles.now c.args.allowed.now c.args.w c.args.x q c.args.row.now xw agree way))
        | inr le ↦ elim (cases_lt c.in-Some-next_bit.t (slice_index q c.args.x)) [
          | inl more ↦ ahead c.args.w c.args.x c.in-Some-next_bit.t c.misses_from.new.row c.tiles.row c.args.row.now q xw (omega (arith, il, xw, narrow)) c.misses_from.ensures.same i.same agree more
          | inr last ↦
              let here : slice_index q c.args.x ≡ c.in-Some-next_bit.t = omega (arith, le, last) in
              c.misses_from.ensures.first c.if-misses_from.true q long way
              (agree_on c.args.x c.in-Some-next_bit.t q c.tiles.row c.args.row.now (omega (arith, il, xw, narrow)) i.same agree here) missing
        ]
      ]
    ]

pub tiles-preserved : goal.tiles-preserved
tiles-preserved t c =
    let i = c.tiles.invariant in
    let il = i.long in
    let inside = c.requires.inside in
    let narrow = c.requires.narrow in
    let found = c.in-Some-next_bit.ensures {u = tt} in
    let low = (c.coming-mask.ensures.come c.in-Some-next_bit.t found.2).0 in
    let xw : c.args.x < c.args.w = omega (arith, inside, c.if-x-w.false) in
    record {
      low = omega (arith, low);
      long = c.misses_from.ensures.long;
      same = kept c.args.x c.in-Some-next_bit.t c.misses_from.new.row c.tiles.row c.args.row.now c.misses_from.ensures.same i.same;
      none = λ q long way agree lt. elim (cases_lt (slice_index q c.args.x) c.tiles.from) [
        | inl less ↦ i.none q long way agree less
        | inr ge ↦ elim (cases_lt (slice_index q c.args.x) c.in-Some-next_bit.t) [
          | inl between ↦ absurd (c.coming-mask.ensures.barred (slice_index q c.args.x) (found.3 (slice_index q c.args.x) ge between)
              (comes c.args.sides.now.tiles.now c.args.allowed.now c.args.w c.args.x q c.args.row.now xw agree way))
          | inr le ↦
              let here : slice_index q c.args.x ≡ c.in-Some-next_bit.t = omega (arith, le, lt) in
              c.misses_from.ensures.none c.if-misses_from.false q long way
              (agree_on c.args.x c.in-Some-next_bit.t q c.tiles.row c.args.row.now (omega (arith, il, xw, narrow)) i.same agree here)
        ]
      ];
    }

pub returns-clause-none : goal.returns-clause-none
returns-clause-none t c = λ e q long way agree.
    let inside = c.requires.inside in
    let xw : c.args.x < c.args.w = omega (arith, inside, c.if-x-w.false) in
    elim (cases_lt (slice_index q c.args.x) c.tiles.from) [
      | inl less ↦ c.tiles.invariant.none q long way agree less
      | inr ge ↦ absurd (c.coming-mask.ensures.barred (slice_index q c.args.x) ((c.in_default-next_bit.ensures {u = tt}) (slice_index q c.args.x) ge)
          (comes c.args.sides.now.tiles.now c.args.allowed.now c.args.w c.args.x q c.args.row.now xw agree way))
    ]
