use Rattle.std.proofs.Common.{arith, ◌≡◌, ◌≤◌, ◌<◌, ◌^◌, length, refl, sym}
use Rattle.wt_line.specs.Given.{left}
use Rattle.wt_text.specs.Words.{number}
use Rattle.wt_text.specs.Readers.{mapped}
use Rattle.wt_cert.proofs.NumberLists.{many_past}
use Rattle.wt_cert.proofs.TreeForms.{left_few, room_small}
use Rattle.wt_cert.proofs.read.numbers.counted_numbers.Goals as goal

pub returns-then-many : goal.returns-then-many
returns-then-many c =
    let small : length c.args.rest.line.now < 2 ^ 63 = omega arith in
    let few : length (left c.in-Some.rest.more c.in-Some.rest.line.now) ≤ 2 ^ 63 =
    omega (arith, left_few c.in-Some.rest.more c.in-Some.rest.line.now, c.in-Some.ensures.fewer, room_small c.args.rest.more c.args.rest.line.now small) in
    let many : length (left c.in-Some.rest.more c.in-Some.rest.line.now) ≡ c.in-Some-number.many = omega (arith, c.in_ok-numbers.ensures.count, c.if-count-many.false) in
    rw c.in-Some.ensures.first
    (many_past (number c.in-Some.token.now) c.in-Some.token.now (left c.in-Some.rest.more c.in-Some.rest.line.now) c.in-Some-number.many (mapped (λ v. v.items) c.in_ok-numbers.numbers) refl (sym c.in-Some-number.ensures) many (omega (arith, c.if-many.true)) few c.in_ok-numbers.ensures.read)
