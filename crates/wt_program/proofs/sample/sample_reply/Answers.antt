use Rattle.wt_program.proofs.Sampling.{sampling}
use Rattle.wt_program.proofs.sample.sample_reply.Goals as goal

pub sampled-requires : goal.sampled-requires
sampled-requires c =
    sampling c.of-set.result.list.now c.in-Ok.chain c.sample_side_of.result c.of-set.result.good c.sample_side_of.ensures.some c.sample_side_of.ensures.most c.in-Ok.ensures.found
