use Rattle.wt_write.proofs.Spaces.{row_written}
use Rattle.wt_write.proofs.rows.put_row.Goals as goal

pub returns-clause-ok : goal.returns-clause-ok
returns-clause-ok c = row_written c.args.out.now.items c.args.numbers.now c.from.result c.push_number.new.out.items c.push_numbers.new.out.items c.end_line-2.new.out.items c.in-len1-up.len_at_least c.from.ensures c.in_ok-push_number.ensures.ok c.in_ok-push_numbers.ensures.ok c.in_ok-end_line.ensures.ok
