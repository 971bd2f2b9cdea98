use Rattle.std.proofs.Common.{◌≡◌, drop}
use Rattle.wt_morphism.specs.Images.{image_by_all, apply_all_fault}
use Rattle.wt_morphism.proofs.applied.apply_all.Given as goal

abbrev pub invariant-loop-m : goal.invariant-loop-m
invariant-loop-m l = record {
  made : image_by_all (drop l.m-index l.rest) l.image ≡ image_by_all l.parts l.p;
  fault : apply_all_fault (drop l.m-index l.rest) l.image ≡ apply_all_fault l.parts l.p;
}
