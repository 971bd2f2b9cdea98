use Rattle.wt_marker.proofs.Windows.{refutable_in}
use Rattle.wt_marker.proofs.laws.refuted_pairs_have_empty_windows.Goals as goal

pub returns : goal.returns
returns c = refutable_in
