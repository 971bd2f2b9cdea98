use Rattle.std.proofs.Common.{sym}
use Rattle.wt_markov.proofs.Faultless.{window_without}
use Rattle.wt_markov.proofs.window.marker_window.Goals as goal

pub returns-in-None-clause-holds : goal.returns-in-None-clause-holds
returns-in-None-clause-holds c = window_without c.args.step.raw.now c.args.p.now (sym c.in-None.ensures)
