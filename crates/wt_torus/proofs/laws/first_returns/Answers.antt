use Rattle.wt_torus.proofs.Rotation.{is_first_return, at_returns}
use Rattle.wt_torus.proofs.laws.first_returns.Goals as goal

pub returns : goal.returns
returns c = record {
  one = λ length move t w i. is_first_return length move t w i;
  all = λ length move t n w i. at_returns length move w.some w.less w.half n t i;
}
