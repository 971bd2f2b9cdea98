use Rattle.std.proofs.Common.{◌≡◌, ◌⊎◌, Some, sym, subst}
use Rattle.wt_markov.specs.declared.fault.CodeDesubFault.{CodeDesubFault}
use Rattle.wt_markov.specs.declared.fault.CodeDesubFault.TheVariants.{OutOfMemory}
use Rattle.wt_markov.specs.CodeDesub.{margin_fault}
use Rattle.wt_markov.proofs.Desubstituted.{no_stranger_there, large_core, refused_core}
use Rattle.wt_markov.proofs.desub.taken_apart.Goals as goal

pub desubstitute-requires : goal.desubstitute-requires
desubstitute-requires c = no_stranger_there c.args.step.raw.now c.args.g.now c.requires

pub returns-in-Ok-clause-fault : goal.returns-in-Ok-clause-fault
returns-in-Ok-clause-fault c = large_core c.args.step.raw.now c.args.g.now c.requires c.in-Ok.coarse c.in-Ok.ensures.refused

pub returns-in-Err : goal.returns-in-Err
returns-in-Err c =
    let s = c.args.step.raw.now in
    let g = c.args.g.now in record {
      made = tt;
      fault = subst (λ (x : CodeDesubFault). (margin_fault s g ≡ Some x) ⊎ (x ≡ OutOfMemory)) (sym c.refusal.ensures) (refused_core s g c.requires c.in-Err.fault c.in-Err.ensures.refusal);
    }
