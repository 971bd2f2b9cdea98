use Rattle.std.proofs.Common.{arith, ◌≡◌, ◌≤◌, ◌-◌, not, ap, sym, ◌∙◌}
use Rattle.wt_grid.specs.Grid.{along, across}
use Rattle.wt_grid.specs.Parts.{core}
use Rattle.wt_step.specs.Words.{ends_block}
use Rattle.wt_step.specs.Blocks.{ends_at}
use Rattle.wt_step.proofs.Parsed.{taken, marked_same}
use Rattle.wt_step.proofs.apart.take_apart.Goals as goal

pub returns-clause-coarse : goal.returns-clause-coarse
returns-clause-coarse c =
    let s = c.args.raw.now in
    let p = c.args.p.now in
    let n = along s.axis (core s.radius p) in
    let high : not c.ends_at-high_cut.result ≡ not (ends_at s p (n - 1)) = ap not (c.ends_at-high_cut.ensures ∙ ap (λ k. ends_at s p (k - 1)) c.core_lines.ensures.value) in
    let m : across s.axis (core s.radius p) ≡ c.core_across-across.result = sym c.core_across-across.ensures.value in
    let some : 1 ≤ c.core_across-across.result = (let w = c.requires.wide in omega arith) in
    (taken s c.requires.good p c.requires.pattern c.requires.long c.core_across-across.result m some c.deref.result.now c.ends_at-low_cut.result (not c.ends_at-high_cut.result)
    c.ends_at-low_cut.ensures high (c.deref.ensures.value ∙ (c.in_ok-blocks.ensures {u = tt}).value) c.in_ok-index.index.singles.items c.in_ok-index.index.pairs.items (c.in_ok-index.ensures {u = tt})
    c.in_ok-pattern.pattern (c.in_ok-pattern.ensures {u = tt})).0

pub returns-clause-valid : goal.returns-clause-valid
returns-clause-valid c =
    let s = c.args.raw.now in
    let p = c.args.p.now in
    let n = along s.axis (core s.radius p) in
    let high : not c.ends_at-high_cut.result ≡ not (ends_at s p (n - 1)) = ap not (c.ends_at-high_cut.ensures ∙ ap (λ k. ends_at s p (k - 1)) c.core_lines.ensures.value) in
    let m : across s.axis (core s.radius p) ≡ c.core_across-across.result = sym c.core_across-across.ensures.value in
    let some : 1 ≤ c.core_across-across.result = (let w = c.requires.wide in omega arith) in
    (taken s c.requires.good p c.requires.pattern c.requires.long c.core_across-across.result m some c.deref.result.now c.ends_at-low_cut.result (not c.ends_at-high_cut.result)
    c.ends_at-low_cut.ensures high (c.deref.ensures.value ∙ (c.in_ok-blocks.ensures {u = tt}).value) c.in_ok-index.index.singles.items c.in_ok-index.index.pairs.items (c.in_ok-index.ensures {u = tt})
    c.in_ok-pattern.pattern (c.in_ok-pattern.ensures {u = tt})).1

pub returns-clause-low_cut : goal.returns-clause-low_cut
returns-clause-low_cut c =
    let s = c.args.raw.now in
    let long = c.requires.long in
    c.ends_at-low_cut.ensures ∙ ap (ends_block s.side) (marked_same s c.requires.good c.args.p.now 0 (omega arith) c.requires.wide)

pub returns-clause-high_cut : goal.returns-clause-high_cut
returns-clause-high_cut c =
    let s = c.args.raw.now in
    let p = c.args.p.now in
    let n = along s.axis (core s.radius p) in
    let long : 3 ≤ n = c.requires.long in
    let high : not c.ends_at-high_cut.result ≡ not (ends_at s p (n - 1)) = ap not (c.ends_at-high_cut.ensures ∙ ap (λ k. ends_at s p (k - 1)) c.core_lines.ensures.value) in
    high ∙ ap (λ b. not (ends_block s.side b)) (marked_same s c.requires.good p (n - 1) (omega arith) c.requires.wide)
