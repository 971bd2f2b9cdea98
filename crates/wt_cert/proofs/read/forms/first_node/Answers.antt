use Rattle.std.proofs.Common.{rules, arith, ◌≡◌, ◌<◌, ◌-◌, ◌^◌, true, length, sym}
use Rattle.wt_text.specs.Words.{is_decimal}
use Rattle.wt_line.specs.Given.{left}
use Rattle.wt_cert.proofs.TreeForms.{first_form, left_few, room_small}
use Rattle.wt_cert.proofs.read.forms.first_node.Goals as goal

pub returns : goal.returns
returns c =
    let dec : is_decimal c.in_ok-cell.cell.now ≡ true = search rules in
    let small : length c.args.rest.line.now < 2 ^ 63 = omega arith in
    let few : length (left c.in_ok-count.rest.more c.in_ok-count.rest.line.now) < 2 ^ 64 - 1 =
    omega (arith, left_few c.in_ok-count.rest.more c.in_ok-count.rest.line.now, c.in_ok-count.ensures.fewer, c.in_ok-cell.ensures.fewer, room_small c.args.rest.more c.args.rest.line.now small) in
    rw (c.in_ok-cell.ensures.first, c.in_ok-count.ensures.first)
    (first_form c.args.citing c.in_ok-cell.cell.now c.in_ok-count.count.now (left c.in_ok-count.rest.more c.in_ok-count.rest.line.now) c.in_ok-owed.owed dec (sym c.in_ok-owed.ensures) few)
