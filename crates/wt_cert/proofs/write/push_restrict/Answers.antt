use Rattle.std.proofs.Common.{◌++◌, ℕ, List, codes}
use Rattle.wt_step.specs.declared.raw.Lost.{Lost}
use Rattle.wt_cert.specs.Spelling.{line, numbers_tokens, tiles_lines, lost_lines, restrict_head, restrict_lines}
use Rattle.wt_cert.proofs.Blocks.{written, as_lines}
use Rattle.wt_cert.proofs.write.push_restrict.Goals as goal

pub returns : goal.returns
unfolding restrict_lines
returns c = written c.args.out.now.items c.push_restrict_head.new.out.items c.push_lost.new.out.items (line (restrict_head c.args.k c.args.step.now)) ((tiles_lines (codes "fine") c.args.step.now.fine) ++ ((tiles_lines (codes "coarse") c.args.step.now.coarse) ++ ((line (numbers_tokens (codes "kept") c.args.step.now.kept)) ++ (lost_lines c.args.step.now.lost)))) c.in_ok-push_restrict_head.ensures (written c.push_restrict_head.new.out.items c.push_list_of_tiles.new.out.items c.push_lost.new.out.items (tiles_lines (codes "fine") c.args.step.now.fine) ((tiles_lines (codes "coarse") c.args.step.now.coarse) ++ ((line (numbers_tokens (codes "kept") c.args.step.now.kept)) ++ (lost_lines c.args.step.now.lost))) c.in_ok-push_list_of_tiles.ensures (written c.push_list_of_tiles.new.out.items c.push_list_of_tiles-2.new.out.items c.push_lost.new.out.items (tiles_lines (codes "coarse") c.args.step.now.coarse) ((line (numbers_tokens (codes "kept") c.args.step.now.kept)) ++ (lost_lines c.args.step.now.lost)) c.in_ok-push_list_of_tiles-2.ensures (written c.push_list_of_tiles-2.new.out.items c.push_list.new.out.items c.push_lost.new.out.items (line (numbers_tokens (codes "kept") c.args.step.now.kept)) (lost_lines c.args.step.now.lost) (as_lines (λ (x : List ℕ). line (numbers_tokens (codes "kept") x)) c.as_slice.result.now c.args.step.now.kept c.push_list_of_tiles-2.new.out.items c.push_list.new.out.items c.as_slice.ensures c.in_ok-push_list.ensures) (as_lines (λ (x : List Lost). lost_lines x) c.as_slice-2.result.now c.args.step.now.lost c.push_list.new.out.items c.push_lost.new.out.items c.as_slice-2.ensures c.in_ok-push_lost.ensures))))
