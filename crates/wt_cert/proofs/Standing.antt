-- Refutations and lost tiles stand for what is read of them.
use Rattle.std.proofs.Common.{◌≡◌, ap}
use Rattle.wt_refute.specs.declared.tree.Tree.{Tree}
use Rattle.wt_refute.specs.declared.tree.Refuted.{Refuted}
use Rattle.wt_refute.proofs.Made.{tree_of-refutation}
use Rattle.wt_step.specs.declared.raw.Lost.{Lost}
use Rattle.wt_cert.specs.Parts.{to_refuted, to_lost}
use Rattle.wt_cert.specs.Seen.{refuted_view, lost_view}

abbrev refuted_with : Refuted → Tree → Refuted
refuted_with r t = record { axis = r.axis; a = r.a; b = r.b; radius = r.radius; tree = t }

abbrev lost_with : Lost → Tree → Lost
lost_with x t = record { tile = x.tile; tree = t }

-- a refutation of a domino, read back from what it stands for
pub refuted_again : (r : Refuted) → to_refuted (refuted_view r) ≡ r
refuted_again r = ap (refuted_with r) (tree_of-refutation r.tree)

-- a lost tile, read back from what it stands for
pub lost_again : (x : Lost) → to_lost (lost_view x) ≡ x
lost_again x = ap (lost_with x) (tree_of-refutation x.tree)
