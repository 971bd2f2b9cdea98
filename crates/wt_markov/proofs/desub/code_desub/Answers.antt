use Rattle.wt_markov.proofs.Desubstituted.{code_pattern, agree_all}
use Rattle.wt_markov.proofs.desub.code_desub.Goals as goal

pub taken_apart-requires : goal.taken_apart-requires
taken_apart-requires c = code_pattern c.args.step.raw.now c.args.p.now c.sound.ensures c.requires.markov c.args.z.now c.point.ensures.spot c.in_ok-g.g c.in_ok-g.ensures.letters

pub returns-clause-agrees : goal.returns-clause-agrees
returns-clause-agrees c = agree_all c.cuts_are_the_border_lines.ensures c.args.step.raw.now c.args.step.good c.args.p.now c.sound.ensures c.requires.window c.args.z.now c.point.ensures.spot
    c.in_ok-g.g _ c.in_ok-g.ensures.letters c.in_ok-g.ensures.code _ c.taken_apart.result c.taken_apart.ensures.made c.taken_apart.ensures.fault
