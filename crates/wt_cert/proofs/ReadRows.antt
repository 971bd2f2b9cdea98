-- A line read as a value of the code.
use Rattle.std.proofs.Common.{◌≡◌, ℕ, ◌+◌, List, ◌∷◌, Ok, ap}
use Rattle.wt_line.specs.Faults.{ended_line}
use Rattle.wt_refute.specs.declared.tree.Refuted.{Refuted}
use Rattle.wt_step.specs.declared.raw.Lost.{Lost}
use Rattle.wt_chain.specs.declared.raw.Version.{Version}
use Rattle.wt_text.specs.Words.{tokens}
use Rattle.wt_text.specs.Lines.{Line}
use Rattle.wt_text.specs.Readers.{one_line, seen_as}
use Rattle.wt_cert.specs.LineForms.{refuted_form, lost_form}
use Rattle.wt_cert.specs.Parts.{refuted_row, lost_row}
use Rattle.wt_cert.specs.Seen.{refuted_view, lost_view}
use Rattle.wt_cert.proofs.Standing.{refuted_again, lost_again}

pub refuted_read : (version : Version) (radius nodes n : ℕ) (text : List ℕ) (ls rest : List Line) (x : Refuted) → ls ≡ ended_line text ∷ rest → refuted_form version radius nodes (tokens text) ≡ Ok (refuted_view x) → refuted_row version radius nodes (n, ls) ≡ Ok (x, (n + 1, rest))
unfolding refuted_row seen_as one_line
refuted_read version radius nodes n text ls rest x e h = rw (e, h) (ap (λ (y : Refuted). Ok (y, (n + 1, rest))) (refuted_again x))

pub lost_read : (nodes n : ℕ) (text : List ℕ) (ls rest : List Line) (x : Lost) → ls ≡ ended_line text ∷ rest → lost_form nodes (tokens text) ≡ Ok (lost_view x) → lost_row nodes (n, ls) ≡ Ok (x, (n + 1, rest))
unfolding lost_row seen_as one_line
lost_read nodes n text ls rest x e h = rw (e, h) (ap (λ (y : Lost). Ok (y, (n + 1, rest))) (lost_again x))
