use Rattle.std.proofs.Common.{arith, rules, ◌≡◌, true, get_or}
use Rattle.std.specs.Char.{is_ascii_digit}
use Rattle.wt_io.proofs.Values.{too_large}
use Rattle.wt_io.proofs.numbers.digits.Goals as goal

pub returns-in_default-clause-value : goal.returns-in_default-clause-value
returns-in_default-clause-value c =
    let digit : is_ascii_digit (get_or c.args.bytes.now c.loop-count.count 0) ≡ true = search rules in
    too_large c.loop-count.value c.loop-count.count c.args.bytes.now c.loop-count-test.true digit (omega (arith, c.in_default.ensures, c.saturating_sub.ensures, c.from.ensures)) c.loop-count.invariant.left
