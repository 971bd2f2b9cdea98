-- What a search finds comes back through its certificate.
use Rattle.std.proofs.Common.{◌≡◌, ◌≤◌, ℕ, List, Option, None, ◌∙◌, ap}
use Rattle.std.specs.Prelude.{Result, Ok}
use Rattle.std.specs.List.{All}
use Rattle.wt_line.specs.declared.faults.What.{What}
use Rattle.wt_text.specs.Readers.{TextFault, whole_text}
use Rattle.wt_text.proofs.Texts.{IsWhole, text_whole}
use Rattle.wt_tile.specs.Names.{IsName}
use Rattle.wt_tile.specs.Sets.{set_fault}
use Rattle.wt_tile.specs.declared.tile.TileList.{TileList}
use Rattle.wt_chain.specs.declared.raw.RawChain.{RawChain}
use Rattle.wt_chain.specs.declared.raw.Refusal.{Refusal}
use Rattle.wt_chain.specs.Faults.{chain_fault}
use Rattle.wt_chain.specs.Limits.{IsWithinLimits}
use Rattle.wt_chain.specs.Sets.{BeginsWith}
use Rattle.wt_chain.proofs.Goodness.{good}
use Rattle.wt_cert.specs.Fits.{IsWritable}
use Rattle.wt_cert.specs.Parts.{cert_part}
use Rattle.wt_cert.specs.Spelling.{cert_lines}
use Rattle.wt_cert.proofs.PartLaws.{certificate}
use Rattle.wt_cert.proofs.WithinLimits.{good_writable}
use Rattle.wt_search.specs.Asked.{Asked}
use Rattle.wt_search.specs.Found.{found}
use Rattle.wt_search.proofs.Small.{small_found}
use Rattle.wt_search.proofs.Sound.{sound_found}
use Rattle.wt_program.specs.declared.reply.Reply.{Reply}
use Rattle.wt_program.specs.Checks.{chain_of, judged_by, accepted_read, reply_or, report_reply}
use Rattle.wt_program.specs.Founds.{cert_text, IsReadBack}

whole_cert : IsWhole (whole_text cert_part) cert_lines IsWritable
whole_cert = text_whole certificate

-- a good chain with a certificate comes back
comes_back : (c : RawChain) → chain_fault c ≡ None → IsWritable c → IsReadBack c
comes_back c fault fits =
    let read : chain_of (cert_text c) ≡ Ok c = whole_cert.again c fits in
    let accepted = ap accepted_read read ∙ ap (judged_by c) fault in
    record { fits = fits; read = read; accepted = accepted; answered = ap (reply_or report_reply) accepted }

pub read_back : (s : Asked) (set : TileList) (levels : ℕ) (c : RawChain) → s.radius ≤ 4 → levels ≤ 32 → set_fault set ≡ None
    → All IsName set.names1 → All IsName set.names2 → found s set levels ≡ Ok c → IsReadBack c
read_back s set levels c radius few set_good one two e =
    let sound = sound_found s set radius set_good levels c few e in
    let small = small_found s set levels c e in
    let within : IsWithinLimits c = record { steps = sound.2; nodes = small.nodes; end = small.end } in
    comes_back c sound.0 (good_writable set c (good c sound.0) sound.1 one two within)
