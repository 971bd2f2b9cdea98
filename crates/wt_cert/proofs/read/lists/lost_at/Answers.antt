use Rattle.std.proofs.Common.{rules, ◌≡◌, ℕ, ◌+◌, Ok, ap, ◌∙◌}
use Rattle.wt_line.specs.Left.{lines_left}
use Rattle.wt_text.specs.Lines.{lines}
use Rattle.wt_text.specs.Words.{tokens}
use Rattle.wt_cert.specs.LineForms.{lost_form}
use Rattle.wt_cert.specs.Parts.{lost_row}
use Rattle.wt_cert.specs.Seen.{lost_view}
use Rattle.wt_cert.proofs.ReadRows.{lost_read}
use Rattle.wt_cert.proofs.read.lists.lost_at.Goals as goal

pub returns-clause-read : goal.returns-clause-read
returns-clause-read c =
    let h : lost_form c.args.nodes (tokens c.in_ok-line.line.now) ≡ Ok (lost_view c.in_ok-lost.lost) = search rules in
    let e : lost_row c.args.nodes (lines_left c.args.place) ≡ Ok (c.in_ok-lost.lost, (c.args.place.number + 1, lines c.in_ok-line.next.bytes.now)) =
    lost_read c.args.nodes c.args.place.number c.in_ok-line.line.now (lines c.args.place.bytes.now) (lines c.in_ok-line.next.bytes.now) c.in_ok-lost.lost c.in_ok-line.ensures.line h in
    e ∙ ap (λ (n : ℕ). Ok (c.in_ok-lost.lost, (n, lines c.in_ok-line.next.bytes.now))) (search rules)
