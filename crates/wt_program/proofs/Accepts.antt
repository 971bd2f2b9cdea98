-- What `check` accepts: the text of each good chain within the limits, and nothing else.
use Rattle.std.proofs.Common.{arith, ◌≤◌, length, ◌≡◌, ℕ, List, Option, None, Some, refl, sym, ◌∙◌, ap, subst}
use Rattle.std.specs.Prelude.{Result, Ok, Err, IfSome, Bool, true, false, nat_lt}
use Rattle.std.proofs.lemmas.Bool.{le-ltb, ltb-false}
use Rattle.wt_line.specs.declared.faults.What.{What}
use Rattle.wt_text.specs.Readers.{TextFault, syntax_at, limit_at, whole_text}
use Rattle.wt_text.proofs.Texts.{IsWhole, text_whole}
use Rattle.wt_chain.specs.declared.raw.RawChain.{RawChain}
use Rattle.wt_chain.specs.declared.raw.Refusal.{Refusal}
use Rattle.wt_chain.specs.Faults.{chain_fault}
use Rattle.wt_chain.proofs.Goodness.{good, back}
use Rattle.wt_cert.specs.Fits.{IsWritable}
use Rattle.wt_cert.specs.Parts.{cert_part}
use Rattle.wt_cert.specs.Spelling.{cert_lines}
use Rattle.wt_cert.proofs.PartLaws.{certificate}
use Rattle.wt_program.specs.Commands.{Command, check, command}
use Rattle.wt_program.specs.Replies.{Answer, said}
use Rattle.wt_program.specs.Checks.{chain_of, judged_by, accepted_read, reply_or, report_reply, check_reply}
use Rattle.wt_program.specs.Answers.{IsAnswerBy, IsAnswerTo}
use Rattle.wt_program.specs.Outcomes.{IsAnswered}
use Rattle.wt_program.specs.Accepts.{IsCertificateOf, AcceptsExactly}

whole_cert : IsWhole (whole_text cert_part) cert_lines IsWritable
whole_cert = text_whole certificate

-- the bytes are read as this chain, and it has no fault
pub record IsAccepted (chain : RawChain) (bytes : List ℕ) : Type 0 where
  pub read : chain_of bytes ≡ Ok chain
  pub faultless : chain_fault chain ≡ None

certified : (bytes : List ℕ) (c : RawChain) → length bytes ≤ 16777216 → IsAccepted c bytes → IsCertificateOf c bytes
certified bytes c few is = let g = whole_cert.found bytes c is.read in record { spelled = g.0; writable = g.1; good = good c is.faultless; few = few }

-- a certificate is read, and its chain has no fault
pub read_back : (bytes : List ℕ) (c : RawChain) → IsCertificateOf c bytes → IsAccepted c bytes
read_back bytes c is = record { read = ap (λ (b : List ℕ). chain_of b) is.spelled ∙ whole_cert.again c is.writable; faultless = back c is.good }

-- The reply of `check` has status 0 exactly then.

judged_well : (bytes : List ℕ) (c : RawChain) (f : Option Refusal) → chain_of bytes ≡ Ok c → chain_fault c ≡ f → (said (reply_or report_reply (judged_by c f))).status ≡ 0 → (c : RawChain) × IsAccepted c bytes
judged_well bytes c None e g s = (c, record { read = e; faultless = g })
judged_well bytes c (Some refusal) e g s = absurd cc

checked_well : (bytes : List ℕ) (r : Result RawChain (TextFault What)) → chain_of bytes ≡ r → (said (reply_or report_reply (accepted_read r))).status ≡ 0 → (c : RawChain) × IsAccepted c bytes
checked_well bytes (Ok c) e s = judged_well bytes c (chain_fault c) e refl s
checked_well bytes (Err (syntax_at n)) e s = absurd cc
checked_well bytes (Err (limit_at what n)) e s = absurd cc

reported : (bytes : List ℕ) (c : RawChain) → IsAccepted c bytes → (said (check_reply bytes)).status ≡ 0
reported bytes c is =
    ap (λ (r : Result RawChain (TextFault What)). (said (reply_or report_reply (accepted_read r))).status) is.read
    ∙ ap (λ (f : Option Refusal). (said (reply_or report_reply (judged_by c f))).status) is.faultless

answered_well : (b : Bool) (bytes : List ℕ) (answer : Answer) → nat_lt 16777216 (length bytes) ≡ b → IsAnswerTo b check bytes answer → answer.status ≡ 0
    → (length bytes ≤ 16777216) × ((c : RawChain) × IsAccepted c bytes)
answered_well true bytes answer long is s = absurd (let t : 5 ≡ 0 = sym (ap (λ (a : Answer). a.status) is) ∙ s in cc)
answered_well false bytes answer long is s =
    let t : (said (check_reply bytes)).status ≡ 0 = sym (ap (λ (a : Answer). a.status) (is.2 ∙ ap said is.1)) ∙ s in
    (ltb-false 16777216 (length bytes) long, checked_well bytes (chain_of bytes) refl t)

answered_zero : (bytes : List ℕ) (c : RawChain) (answer : Answer) → IsCertificateOf c bytes → IsAnswerTo (nat_lt 16777216 (length bytes)) check bytes answer → answer.status ≡ 0
answered_zero bytes c answer is to =
    let by = subst (λ (b : Bool). IsAnswerTo b check bytes answer) (le-ltb 16777216 (length bytes) is.few) to in
    ap (λ (a : Answer). a.status) (by.2 ∙ ap said by.1) ∙ reported bytes c (read_back bytes c is)

by_check : (words : List (List ℕ)) (bytes : List ℕ) (answer : Answer) → command words ≡ Some check → IsAnswerBy (command words) bytes answer → IsAnswerTo (nat_lt 16777216 (length bytes)) check bytes answer
by_check words bytes answer is to = subst (λ (o : Option Command). IsAnswerBy o bytes answer) is to

pub said_yes : (words : List (List ℕ)) (bytes : List ℕ) (old new : Option (List ℕ)) (status : ℕ) → command words ≡ Some check
    → IsAnswered words bytes old new status → status ≡ 0 → (c : RawChain) × IsCertificateOf c bytes
said_yes words bytes old new status is told z =
    let a = told (λ h. let k : status ≡ 3 = h in absurd (omega (arith, z, k))) (λ h. let k : status ≡ 4 = h in absurd (omega (arith, z, k))) (λ h. let k : status ≡ 7 = h in absurd (omega (arith, z, k))) in
    let w = answered_well (nat_lt 16777216 (length bytes)) bytes a.0 refl (by_check words bytes a.0 is a.1) (sym a.2 ∙ z) in
    (w.1.0, certified bytes w.1.0 w.0 w.1.1)

-- what was answered to `check` says whether the bytes are a certificate
pub accepts : (words : List (List ℕ)) (left old new : Option (List ℕ)) (status : ℕ) → command words ≡ Some check
    → IfSome left (λ bytes. IsAnswered words bytes old new status) → IfSome left (λ bytes. AcceptsExactly bytes status)
accepts words None old new status is told = tt
accepts words (Some bytes) old new status is told = record {
  certified = said_yes words bytes old new status is told;
  accepted = λ c of read write memory. let a = told read write memory in a.2 ∙ answered_zero bytes c a.0 of (by_check words bytes a.0 is a.1);
}
