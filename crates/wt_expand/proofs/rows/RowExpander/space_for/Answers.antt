use Rattle.std.proofs.Common.{◌∙◌, sym, ap}
use Rattle.std.specs.Prelude.{Option, ℕ}
use Rattle.wt_chain.specs.declared.raw.RawChain.{RawChain}
use Rattle.wt_expand.specs.Expansion.{space_for, pick_fault}
use Rattle.wt_expand.proofs.Facts.{counter_space}
use Rattle.wt_expand.proofs.Filled.{no_pick_fault}
use Rattle.wt_expand.proofs.rows.RowExpander.space_for.Goals as goal

pub returns : goal.returns
returns c =
    let is = c.in_ok-counter.ensures {u = tt} in
    let chain = c.raw.result.now in
    let same = sym c.raw.ensures.value in (
      c.need.ensures ∙ counter_space chain c.args.w c.args.h c.in_ok-counter.counter is ∙ ap (λ (x : RawChain). space_for x c.args.w c.args.h) (sym same),
      ap (λ (x : RawChain). pick_fault x c.args.w c.args.h) same ∙ no_pick_fault chain c.args.w c.args.h c.in_ok-counter.counter is,
    )
