use Rattle.std.proofs.Common.{◌++◌, ℕ, List, codes}
use Rattle.wt_grid.specs.declared.image.Image.{Image}
use Rattle.wt_refute.specs.declared.tree.Refuted.{Refuted}
use Rattle.wt_cert.specs.Spelling.{line, numbers_tokens, tiles_lines, allowed_lines, refuted_lines, images_lines, marker_head, marker_lines}
use Rattle.wt_cert.proofs.Blocks.{written, as_lines}
use Rattle.wt_cert.proofs.write.push_marker.Goals as goal

pub returns : goal.returns
unfolding marker_lines
returns c = written c.args.out.now.items c.push_marker_head.new.out.items c.push_images.new.out.items (line (marker_head c.args.k c.args.step.now)) ((tiles_lines (codes "fine") c.args.step.now.fine) ++ ((tiles_lines (codes "coarse") c.args.step.now.coarse) ++ ((line (numbers_tokens (codes "markers") c.args.step.now.markers)) ++ ((allowed_lines (codes "1") c.args.step.now.allowed1) ++ ((allowed_lines (codes "2") c.args.step.now.allowed2) ++ ((refuted_lines c.args.version c.args.step.now.refuted) ++ (images_lines c.args.step.now.images))))))) c.in_ok-push_marker_head.ensures (written c.push_marker_head.new.out.items c.push_list_of_tiles.new.out.items c.push_images.new.out.items (tiles_lines (codes "fine") c.args.step.now.fine) ((tiles_lines (codes "coarse") c.args.step.now.coarse) ++ ((line (numbers_tokens (codes "markers") c.args.step.now.markers)) ++ ((allowed_lines (codes "1") c.args.step.now.allowed1) ++ ((allowed_lines (codes "2") c.args.step.now.allowed2) ++ ((refuted_lines c.args.version c.args.step.now.refuted) ++ (images_lines c.args.step.now.images)))))) c.in_ok-push_list_of_tiles.ensures (written c.push_list_of_tiles.new.out.items c.push_list_of_tiles-2.new.out.items c.push_images.new.out.items (tiles_lines (codes "coarse") c.args.step.now.coarse) ((line (numbers_tokens (codes "markers") c.args.step.now.markers)) ++ ((allowed_lines (codes "1") c.args.step.now.allowed1) ++ ((allowed_lines (codes "2") c.args.step.now.allowed2) ++ ((refuted_lines c.args.version c.args.step.now.refuted) ++ (images_lines c.args.step.now.images))))) c.in_ok-push_list_of_tiles-2.ensures (written c.push_list_of_tiles-2.new.out.items c.push_list.new.out.items c.push_images.new.out.items (line (numbers_tokens (codes "markers") c.args.step.now.markers)) ((allowed_lines (codes "1") c.args.step.now.allowed1) ++ ((allowed_lines (codes "2") c.args.step.now.allowed2) ++ ((refuted_lines c.args.version c.args.step.now.refuted) ++ (images_lines c.args.step.now.images)))) (as_lines (λ (x : List ℕ). line (numbers_tokens (codes "markers") x)) c.as_slice.result.now c.args.step.now.markers c.push_list_of_tiles-2.new.out.items c.push_list.new.out.items c.as_slice.ensures c.in_ok-push_list.ensures) (written c.push_list.new.out.items c.push_allowed.new.out.items c.push_images.new.out.items (allowed_lines (codes "1") c.args.step.now.allowed1) ((allowed_lines (codes "2") c.args.step.now.allowed2) ++ ((refuted_lines c.args.version c.args.step.now.refuted) ++ (images_lines c.args.step.now.images))) (as_lines (λ (x : List (ℕ × ℕ)). allowed_lines (codes "1") x) c.as_slice-2.result.now c.args.step.now.allowed1 c.push_list.new.out.items c.push_allowed.new.out.items c.as_slice-2.ensures c.in_ok-push_allowed.ensures) (written c.push_allowed.new.out.items c.push_allowed-2.new.out.items c.push_images.new.out.items (allowed_lines (codes "2") c.args.step.now.allowed2) ((refuted_lines c.args.version c.args.step.now.refuted) ++ (images_lines c.args.step.now.images)) (as_lines (λ (x : List (ℕ × ℕ)). allowed_lines (codes "2") x) c.as_slice-3.result.now c.args.step.now.allowed2 c.push_allowed.new.out.items c.push_allowed-2.new.out.items c.as_slice-3.ensures c.in_ok-push_allowed-2.ensures) (written c.push_allowed-2.new.out.items c.push_refuted.new.out.items c.push_images.new.out.items (refuted_lines c.args.version c.args.step.now.refuted) (images_lines c.args.step.now.images) (as_lines (λ (x : List Refuted). refuted_lines c.args.version x) c.as_slice-4.result.now c.args.step.now.refuted c.push_allowed-2.new.out.items c.push_refuted.new.out.items c.as_slice-4.ensures c.in_ok-push_refuted.ensures) (as_lines (λ (x : List Image). images_lines x) c.as_slice-5.result.now c.args.step.now.images c.push_refuted.new.out.items c.push_images.new.out.items c.as_slice-5.ensures c.in_ok-push_images.ensures)))))))
