use Rattle.std.proofs.Common.{length}
use Rattle.wt_cert.proofs.Written.{list_written}
use Rattle.wt_cert.proofs.write.lines.push_list.Goals as goal

pub returns : goal.returns
returns c = list_written c.args.out.now.items c.args.word.now c.push_word.new.out.items c.number_behind.new.out.items c.push_numbers.new.out.items c.end_line.new.out.items (length c.args.numbers.now) c.args.numbers.now c.in_ok-push_word.ensures.ok c.in_ok-number_behind.ensures.ok c.in_ok-push_numbers.ensures.ok c.in_ok-end_line.ensures.ok
