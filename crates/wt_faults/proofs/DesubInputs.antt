-- The input of `desub`, both ways.
use Rattle.std.proofs.Common.{◌≡◌, ℕ, List, Ok, refl}
use Rattle.wt_grid.specs.Grid.{Grid}
use Rattle.wt_text.specs.Lines.{lines, bytes_of}
use Rattle.wt_text.specs.Readers.{both_parts, whole_text}
use Rattle.wt_text.proofs.Texts.{IsWhole, both_part, text_whole}
use Rattle.wt_pattern.specs.PatternRows.{pattern_part}
use Rattle.wt_chain.specs.declared.raw.RawChain.{RawChain}
use Rattle.wt_cert.specs.Fits.{IsWritable}
use Rattle.wt_cert.specs.Parts.{cert_part}
use Rattle.wt_cert.proofs.PartLaws.{certificate}
use Rattle.wt_faults.specs.Inputs.{desub_lines, HasDesubText}
use Rattle.wt_faults.proofs.Shaped.{with_sides, ShapedFits, shaped_part, fits_shape, shape_fits}

desub_whole : IsWhole (whole_text (both_parts cert_part pattern_part)) desub_lines (λ x. IsWritable x.0 × (ShapedFits (with_sides x.1) × (x.1 ≡ x.1)))
desub_whole = text_whole (both_part certificate shaped_part)

pub desub_spelled : (bytes : List ℕ) (x : RawChain × Grid) → whole_text (both_parts cert_part pattern_part) (lines bytes) ≡ Ok x → (bytes ≡ bytes_of (desub_lines x)) × HasDesubText x
desub_spelled bytes x e = let f = desub_whole.found bytes x e in (f.0, (f.1.0, fits_shape x.1 f.1.1.0))

pub spelled_desub : (x : RawChain × Grid) → HasDesubText x → whole_text (both_parts cert_part pattern_part) (lines (bytes_of (desub_lines x))) ≡ Ok x
spelled_desub x has = desub_whole.again x (has.0, (shape_fits x.1 has.1, refl))
