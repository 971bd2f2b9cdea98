use Rattle.std.proofs.Common.{◌≡◌, None, sym}
use Rattle.wt_pattern.specs.Validity.{first_fault}
use Rattle.wt_step.specs.Links.{fine_of}
use Rattle.wt_step.specs.Views.{link_of}
use Rattle.wt_step.proofs.Margins.{pattern_of}
use Rattle.wt_step.proofs.desub.desubstitute.Goals as goal

pub desubstitute_valid-requires : goal.desubstitute_valid-requires
desubstitute_valid-requires c =
    let none : first_fault (fine_of (link_of c.args.link)).tiles c.args.p.now ≡ None = rw c.fine.ensures at (sym c.in-None.ensures) in
    pattern_of (fine_of (link_of c.args.link)).tiles c.args.p.now c.width.ensures.shape c.requires none
