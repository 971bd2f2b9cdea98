use Rattle.std.proofs.Common.{◌≡◌, ◌*◌, length, ap, ◌∙◌}
use Rattle.wt_text.specs.Lines.{lines}
use Rattle.wt_pattern.proofs.CellForms.{stack_size}
use Rattle.wt_pattern.proofs.text.pattern_rows_at.Goals as goal

pub of-requires : goal.of-requires
of-requires c =
    let size : length c.in_ok-cells.cells.items ≡ c.args.width * c.args.height =
    ap length (c.in_ok-cells.ensures {u = tt}) ∙ stack_size c.args.width c.args.height (c.args.place.number, lines c.args.place.bytes.now) c.in_ok-rows.rows.items (c.in_ok-rows.place.number, lines c.in_ok-rows.place.bytes.now) c.requires.wide.0 c.in_ok-rows.ensures in
    record { grid = record { wide = c.requires.wide.0; high = c.requires.high.0; whole = size }; wide = c.requires.wide.1; high = c.requires.high.1 }
