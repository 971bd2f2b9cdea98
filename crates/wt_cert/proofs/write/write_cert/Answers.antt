use Rattle.std.proofs.Common.{◌≡◌, ◌++◌, ◌∷◌, [], List, ℕ, length, codes, ap, ◌∙◌}
use Rattle.wt_step.specs.declared.raw.RawLink.{RawLink}
use Rattle.wt_text.specs.Lines.{bytes_of}
use Rattle.wt_cert.specs.Spelling.{line, count_tokens, version_word, blocks_lines, end_lines, cert_lines}
use Rattle.wt_cert.proofs.Blocks.{written, as_lines}
use Rattle.wt_cert.proofs.write.write_cert.Goals as goal

pub returns : goal.returns
unfolding cert_lines
returns c =
    let e : c.push_word.new.out.items ≡ c.new-text.result.items ++ bytes_of (cert_lines c.args.raw.now) = written c.new-text.result.items c.push_version.new.out.items c.push_word.new.out.items (line (codes "certificate" ∷ version_word c.args.raw.now.version ∷ [])) ((line (count_tokens (codes "steps") (length c.args.raw.now.steps))) ++ ((blocks_lines c.args.raw.now.version 0 c.args.raw.now.steps) ++ ((end_lines c.args.raw.now.end) ++ (line (codes "end" ∷ []))))) c.in_ok-push_version.ensures (written c.push_version.new.out.items c.push_count.new.out.items c.push_word.new.out.items (line (count_tokens (codes "steps") (length c.args.raw.now.steps))) ((blocks_lines c.args.raw.now.version 0 c.args.raw.now.steps) ++ ((end_lines c.args.raw.now.end) ++ (line (codes "end" ∷ [])))) (as_lines (λ (x : List RawLink). line (count_tokens (codes "steps") (length x))) c.as_slice-links.result.now c.args.raw.now.steps c.push_version.new.out.items c.push_count.new.out.items c.as_slice-links.ensures c.in_ok-push_count.ensures) (written c.push_count.new.out.items c.push_blocks.new.out.items c.push_word.new.out.items (blocks_lines c.args.raw.now.version 0 c.args.raw.now.steps) ((end_lines c.args.raw.now.end) ++ (line (codes "end" ∷ []))) (as_lines (λ (x : List RawLink). blocks_lines c.args.raw.now.version 0 x) c.as_slice-links.result.now c.args.raw.now.steps c.push_count.new.out.items c.push_blocks.new.out.items c.as_slice-links.ensures c.in_ok-push_blocks.ensures) (written c.push_blocks.new.out.items c.push_end.new.out.items c.push_word.new.out.items (end_lines c.args.raw.now.end) (line (codes "end" ∷ [])) c.in_ok-push_end.ensures c.in_ok-push_word.ensures.ok))) in
    e ∙ ap (λ (x : List ℕ). x ++ bytes_of (cert_lines c.args.raw.now)) c.new-text.ensures.items
