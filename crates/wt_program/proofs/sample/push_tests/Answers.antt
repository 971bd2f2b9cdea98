use Rattle.wt_program.proofs.Counted.{tests_told}
use Rattle.wt_program.proofs.sample.push_tests.Goals as goal

pub returns : goal.returns
returns c =
    tests_told c.args.p.now c.args.out.now.items c.push_word.new.out.items c.push_number.new.out.items c.push_word-2.new.out.items c.period_count.result
    c.period_count.ensures c.in_ok-push_word.ensures.ok c.in_ok-push_number.ensures.ok c.in_ok-push_word-2.ensures.ok
