use Rattle.std.proofs.Common.{refl}
use Rattle.wt_step.specs.Views.{link_of}
use Rattle.wt_program.specs.declared.reply.Reply.TheVariants.{Answered}
use Rattle.wt_program.proofs.Sampling.{step_pattern, step_cells, sampled_as}
use Rattle.wt_program.proofs.sample.sampled.Goals as goal

pub taken_apart-requires-clause-valid : goal.taken_apart-requires-clause-valid
taken_apart-requires-clause-valid c =
    step_pattern c.args.n c.args.set.list.now c.args.chain.now (link_of c.step.result) c.in_ok-p.p c.requires c.step.ensures c.in_ok-p.ensures

pub sample_text-requires-clause-small : goal.sample_text-requires-clause-small
sample_text-requires-clause-small c = step_cells c.args.n c.args.set.list.now c.args.chain.now c.in_ok-p.p c.requires c.args.set.good c.in_ok-p.ensures

pub returns : goal.returns
returns c =
    sampled_as c.args.n c.args.set.list.now c.args.chain.now (link_of c.step.result) c.in_ok-p.p c.in_ok-coarse.coarse c.end.result.now c.len.result
    c.in_ok-text.text.items c.new.result (Answered c.new.result) c.requires c.step.ensures c.in_ok-p.ensures c.in_ok-coarse.ensures c.end.ensures c.len.ensures.value
    c.in_ok-text.ensures c.new.ensures refl
