use Rattle.std.proofs.Common.{◌≡◌, ◌++◌, drop}
use Rattle.std.specs.List.{flat_map}
use Rattle.wt_text.specs.Lines.{bytes_of}
use Rattle.wt_text.specs.Spellings.{line_spelling}
use Rattle.wt_cert.specs.Spelling.{image_tokens, images_lines}
use Rattle.wt_cert.proofs.write.lines.push_images.Given as goal

abbrev pub invariant-loop-image : goal.invariant-loop-image
invariant-loop-image l = l.out.items ++ bytes_of (flat_map (line_spelling image_tokens) (drop l.image-index l.images)) ≡ l.fn.out.items ++ bytes_of (images_lines l.images)
