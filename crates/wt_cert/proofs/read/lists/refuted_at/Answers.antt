use Rattle.std.proofs.Common.{rules, ◌≡◌, ℕ, ◌+◌, Ok, ap, ◌∙◌}
use Rattle.wt_line.specs.Left.{lines_left}
use Rattle.wt_text.specs.Lines.{lines}
use Rattle.wt_text.specs.Words.{tokens}
use Rattle.wt_cert.specs.LineForms.{refuted_form}
use Rattle.wt_cert.specs.Parts.{refuted_row}
use Rattle.wt_cert.specs.Seen.{refuted_view}
use Rattle.wt_cert.proofs.ReadRows.{refuted_read}
use Rattle.wt_cert.proofs.read.lists.refuted_at.Goals as goal

pub returns-clause-read : goal.returns-clause-read
returns-clause-read c =
    let h : refuted_form c.args.version c.args.radius c.args.nodes (tokens c.in_ok-line.line.now) ≡ Ok (refuted_view c.in_ok-refuted.refuted) = search rules in
    let e : refuted_row c.args.version c.args.radius c.args.nodes (lines_left c.args.place) ≡ Ok (c.in_ok-refuted.refuted, (c.args.place.number + 1, lines c.in_ok-line.next.bytes.now)) =
    refuted_read c.args.version c.args.radius c.args.nodes c.args.place.number c.in_ok-line.line.now (lines c.args.place.bytes.now) (lines c.in_ok-line.next.bytes.now) c.in_ok-refuted.refuted c.in_ok-line.ensures.line h in
    e ∙ ap (λ (n : ℕ). Ok (c.in_ok-refuted.refuted, (n, lines c.in_ok-line.next.bytes.now))) (search rules)
