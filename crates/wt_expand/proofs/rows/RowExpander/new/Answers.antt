use Rattle.std.proofs.Common.{arith, ◌≡◌, ◌∙◌, sym, ap, length}
use Rattle.std.specs.Prelude.{Option, None, Some}
use Rattle.wt_chain.specs.declared.raw.RawChain.{RawChain}
use Rattle.wt_expand.specs.Expansion.{row_fault}
use Rattle.wt_expand.proofs.Facts.{counter_space, enough_space, little_space}
use Rattle.wt_expand.proofs.Filled.{no_pick_fault}
use Rattle.wt_expand.proofs.rows.RowExpander.new.Goals as goal

pub returns-then-space-need : goal.returns-then-space-need
returns-then-space-need c =
    let is = c.in_ok-counter.ensures {u = tt} in
    let chain = c.raw.result.now in
    let counter = c.in_ok-counter.counter in
    ap (λ (x : RawChain). row_fault x c.args.w c.args.h (length c.args.space.now)) (sym c.raw.ensures.value)
    ∙ little_space chain c.args.w c.args.h c.need-need.result (length c.args.space.now) (no_pick_fault chain c.args.w c.args.h counter is) (c.need-need.ensures ∙ counter_space chain c.args.w c.args.h counter is)
    (omega (arith, c.if-space-need.true))

pub returns : goal.returns
returns c =
    let is = c.in_ok-counter.ensures {u = tt} in
    let chain = c.raw.result.now in
    let counter = c.in_ok-counter.counter in (
      c.of.ensures,
      ap (λ (x : RawChain). row_fault x c.args.w c.args.h (length c.args.space.now)) (sym c.raw.ensures.value)
          ∙ enough_space chain c.args.w c.args.h c.need-need.result (length c.args.space.now) (no_pick_fault chain c.args.w c.args.h counter is) (c.need-need.ensures ∙ counter_space chain c.args.w c.args.h counter is)
          (omega (arith, c.if-space-need.false)),
    )
