use Rattle.std.proofs.Common.{ℕ, List, codes}
use Rattle.wt_cert.specs.Spelling.{line, numbers_tokens}
use Rattle.wt_cert.proofs.Blocks.{loop_written, as_lines}
use Rattle.wt_cert.proofs.write.push_end.Goals as goal

pub returns-in_ok-push_list-in-Loop : goal.returns-in_ok-push_list-in-Loop
returns-in_ok-push_list-in-Loop c =
    rw c.in-Loop.is (loop_written c.args.out.now.items c.push_word-in-Loop.new.out.items c.number_behind.new.out.items c.number_behind-in-Loop.new.out.items c.end_line.new.out.items c.push_list.new.out.items c.from.result c.from-in-Loop.result c.in-Loop.start c.in-Loop.expansion c.in-Loop.renaming c.from.ensures c.from-in-Loop.ensures c.in_ok-push_word-in-Loop.ensures.ok c.in_ok-number_behind-in-Loop.ensures.ok c.in_ok-number_behind-in-Loop-2.ensures.ok c.in_ok-end_line-in-Loop.ensures.ok (as_lines (λ (x : List ℕ). line (numbers_tokens (codes "renaming") x)) c.as_slice.result.now c.in-Loop.renaming c.end_line.new.out.items c.push_list.new.out.items c.as_slice.ensures c.in_ok-push_list-in-Loop.ensures))
