use Rattle.std.proofs.Common.{rules, arith, ◌≡◌, ◌<◌, ◌-◌, ◌^◌, true, length, sym}
use Rattle.wt_text.specs.Words.{is_decimal}
use Rattle.wt_line.specs.Given.{left}
use Rattle.wt_cert.proofs.TreeForms.{child_form, left_few, room_small}
use Rattle.wt_cert.proofs.read.forms.next_child.Goals as goal

pub returns-clause-form : goal.returns-clause-form
returns-clause-form c = λ n.
    let dt : is_decimal c.in_ok-tile.tile.now ≡ true = search rules in
    let dc : is_decimal c.in_ok-cell.cell.now ≡ true = search rules in
    let small : length c.args.rest.line.now < 2 ^ 63 = omega arith in
    let few : length (left c.in_ok-count.rest.more c.in_ok-count.rest.line.now) < 2 ^ 64 - 1 =
    omega (arith, left_few c.in_ok-count.rest.more c.in_ok-count.rest.line.now, c.in_ok-count.ensures.fewer, c.in_ok-cell.ensures.fewer, c.in_ok-tile.ensures.fewer, room_small c.args.rest.more c.args.rest.line.now small) in
    rw (c.in_ok-tile.ensures.first, c.in_ok-cell.ensures.first, c.in_ok-count.ensures.first)
    (child_form c.args.citing c.in_ok-tile.tile.now c.in_ok-cell.cell.now c.in_ok-count.count.now (left c.in_ok-count.rest.more c.in_ok-count.rest.line.now) c.in_ok-owed.owed n dt dc (sym c.in_ok-owed.ensures) few)

pub returns-clause-few : goal.returns-clause-few
returns-clause-few c =
    let small : length c.args.rest.line.now < 2 ^ 63 = omega arith in
    omega (arith, left_few c.in_ok-count.rest.more c.in_ok-count.rest.line.now, c.in_ok-count.ensures.fewer, c.in_ok-cell.ensures.fewer, c.in_ok-tile.ensures.fewer, room_small c.args.rest.more c.args.rest.line.now small)
