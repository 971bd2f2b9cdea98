-- What is replied to layers, and to the answer of a search for an empty one.
use Rattle.std.proofs.Common.{◌≡◌, ◌≤◌, ℕ, List, sym, subst, inl, inr}
use Rattle.std.specs.Prelude.{Result, Ok, Err, IfOk}
use Rattle.wt_tile.specs.declared.tile.Tile.{Tile}
use Rattle.wt_strip.specs.declared.layers.Layers.{Layers}
use Rattle.wt_strip.specs.declared.layers.StripFault.{StripFault}
use Rattle.wt_strip.specs.declared.making.Stripped.{Stripped}
use Rattle.wt_strip.specs.declared.making.Stripped.TheVariants.{Empty, Filled}
use Rattle.wt_strip.specs.declared.making.StripEnd.{StripEnd}
use Rattle.wt_strip.specs.Exact.{IsExact, IsStripFault}
use Rattle.wt_program.specs.declared.reply.Reply.{Reply}
use Rattle.wt_program.specs.declared.reply.Reply.TheVariants.{Answered, Refused}
use Rattle.wt_program.specs.Strips.{IsToldStrip, IsWideAnswer, IsStripAnswer, IsLayersReply}
use Rattle.wt_program.specs.StripChecks.{exact_text, strip_fault_text, IsLayersVerdict}

-- layers that are answered have the width that was asked for
pub wide_answer : (ts : List Tile) (w h : ℕ) (answer : Result Stripped StripEnd) → 1 ≤ w → IsStripAnswer ts w h answer → IsWideAnswer answer
wide_answer ts w h (Ok (Empty l)) wide is = subst (λ (n : ℕ). 1 ≤ n) (sym is.1) wide
wide_answer ts w h (Ok (Filled g)) wide is = tt
wide_answer ts w h (Err end) wide is = tt

-- what was answered is told
pub told_strip : {E : Type 0} (ts : List Tile) (w h : ℕ) (answer : Result Stripped StripEnd) (r : Result Reply E) → IsStripAnswer ts w h answer → IfOk r (IsToldStrip answer) → IfOk r (IsLayersReply w h ts)
told_strip ts w h answer (Ok reply) may told = (answer, may, told)
told_strip ts w h answer (Err e) may told = tt

-- layers that are exact
pub exact_verdict : {E : Type 0} (ts : List Tile) (l : Layers) (r : Result Reply E) → IsExact ts l → IfOk r (λ reply. reply ≡ Answered (exact_text l)) → IfOk r (IsLayersVerdict l ts)
exact_verdict ts l (Ok reply) exact is = inl (exact, is)
exact_verdict ts l (Err e) exact is = tt

-- layers with a fault
pub faulty_verdict : {E : Type 0} (ts : List Tile) (l : Layers) (fault : StripFault) (r : Result Reply E) → IsStripFault ts l fault → IfOk r (λ reply. reply ≡ Refused (strip_fault_text fault)) → IfOk r (IsLayersVerdict l ts)
faulty_verdict ts l fault (Ok reply) first is = inr (fault, first, is)
faulty_verdict ts l fault (Err e) first is = tt
