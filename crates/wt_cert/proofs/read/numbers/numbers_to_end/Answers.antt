use Rattle.std.proofs.Common.{arith, ◌<◌, ◌^◌, length, sym, ◌∙◌}
use Rattle.std.proofs.lemmas.Result.{err_from_is_err_and}
use Rattle.wt_line.specs.declared.faults.What.TheVariants.{Number}
use Rattle.wt_line.specs.Given.{left}
use Rattle.wt_text.specs.Readers.{mapped, numbers_to}
use Rattle.wt_cert.proofs.NumberLists.{number_led, one_fewer, number_fails}
use Rattle.wt_cert.proofs.TreeForms.{room_small}
use Rattle.wt_cert.proofs.read.numbers.numbers_to_end.Goals as goal

pub returns-in_err-number-clause-read : goal.returns-in_err-number-clause-read
returns-in_err-number-clause-read c =
    let p = err_from_is_err_and c.from_residual.result c.from_residual.ensures.1 in
    rw (p.1, p.2) (number_fails c.in_err-number.field-0.0 (mapped (λ v. v.items) c.loop-rest.numbers) c.loop-rest.rest.more c.loop-rest.rest.line.now (numbers_to 65535 Number (left c.args.rest.more c.args.rest.line.now)) c.loop-rest-test.true c.in_err-number.ensures.read c.loop-rest.invariant.so_far)

pub overflow_add-count : goal.overflow_add-count
overflow_add-count c =
    let small : length c.args.rest.line.now < 2 ^ 63 = omega arith in
    omega (arith, c.loop-rest.invariant.few, c.in_ok-number.ensures.fewer, room_small c.args.rest.more c.args.rest.line.now small)

pub loop-rest-preserved : goal.loop-rest-preserved
loop-rest-preserved c =
    let l = number_led (mapped (λ v. v.items) c.loop-rest.numbers) (left c.loop-rest.rest.more c.loop-rest.rest.line.now) (left c.in_ok-number.after.more c.in_ok-number.after.line.now) c.in_ok-number.number c.in_ok-number.ensures.read in
    let f = one_fewer (left c.loop-rest.rest.more c.loop-rest.rest.line.now) (left c.in_ok-number.after.more c.in_ok-number.after.line.now) c.in_ok-number.number c.in_ok-number.ensures.read in
    record {
      so_far = rw c.in_ok-numbers.ensures.value (sym l ∙ c.loop-rest.invariant.so_far);
      few = omega (arith, c.loop-rest.invariant.few, c.in_ok-number.ensures.fewer);
      counted = omega (arith, c.loop-rest.invariant.counted, f);
    }
