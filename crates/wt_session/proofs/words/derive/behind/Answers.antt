use Rattle.std.proofs.Common.{arith, ◌≡◌, ◌<◌, length, Some, sym, ◌∙◌, ap, subst, List}
use Rattle.wt_step.specs.declared.raw.RawLink.{RawLink}
use Rattle.wt_chain.specs.declared.raw.RawChain.{RawChain}
use Rattle.wt_chain.specs.declared.raw.End.TheVariants.{Open}
use Rattle.wt_chain.specs.Sets.{set_at, last_set}
use Rattle.wt_session.specs.Derive.{IsStepOf, IsBehind}
use Rattle.wt_session.proofs.Behind.{same_last, behind_open, reopened}
use Rattle.wt_session.proofs.Lifted.{lifted}
use Rattle.wt_session.proofs.words.derive.behind.Goals as goal

pub step_of-requires-clause-set : goal.step_of-requires-clause-set
step_of-requires-clause-set c =
    let set = c.set.result.list.now in
    let links = c.args.chain.now.steps in
    let value = c.steps-in-Ok.ensures.value in
    let some : 0 < length links = omega (arith, value, c.steps-in-Ok.ensures.some) in
    let at : set_at links (length links) ≡ Some set = ap (set_at links) (sym value) ∙ c.set.ensures in
    let r = reopened c.in_ok-copy.field-0 c.reopen.result c.in-Ok.before c.in-Ok.is c.reopen.ensures.ok in
    let same : c.in-Ok.before ≡ links = r.1 ∙ ap (λ (x : RawChain). x.steps) c.in_ok-copy.ensures in
    same_last set set links some at ∙ ap (last_set set) (sym same)

pub returns : goal.returns
returns c =
    let n = c.args.name.now in
    let w = c.args.wanted in
    let set = c.set.result.list.now in
    let links = c.args.chain.now.steps in
    let value = c.steps-in-Ok.ensures.value in
    let some : 0 < length links = omega (arith, value, c.steps-in-Ok.ensures.some) in
    let room : length links < 32 = omega (arith, c.steps.ensures.value, c.if-steps-ge-MAX_LEVELS.false) in
    let at : set_at links (length links) ≡ Some set = ap (set_at links) (sym value) ∙ c.set.ensures in
    let r = reopened c.in_ok-copy.field-0 c.reopen.result c.in-Ok.before c.in-Ok.is c.reopen.ensures.ok in
    let same : c.in-Ok.before ≡ links = r.1 ∙ ap (λ (x : RawChain). x.steps) c.in_ok-copy.ensures in
    let is : c.args.chain.now.end ≡ Open = ap (λ (x : RawChain). x.end) (sym c.in_ok-copy.ensures) ∙ r.0 in
    lifted (IsStepOf n set c.in-Ok.before w) (IsBehind n links w c.args.chain.now.end) c.step_of.result
    (λ reply p. behind_open n set links w c.args.chain.now.end reply is some room at (subst (λ (ls : List RawLink). IsStepOf n set ls w reply) same p)) c.step_of.ensures
