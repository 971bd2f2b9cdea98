-- A reader that follows an open grammar has its faults.
use Rattle.std.proofs.Common.{◌≡◌, ℕ, List, Some, None, Result, Ok, Err, refl, sym, ap, ◌∙◌}
use Rattle.wt_line.specs.declared.faults.What.{What}
use Rattle.wt_text.specs.Lines.{Line}
use Rattle.wt_text.specs.Readers.{TextFault, whole_text}
use Rattle.wt_faults.specs.Grammars.{Grammar, ends}
use Rattle.wt_faults.specs.Meaning.{HasFaultsOf}
use Rattle.wt_faults.proofs.First.{first_fault, IsOpen}
use Rattle.wt_faults.proofs.Exact.{told, found, text_told, text_found}
use Rattle.wt_faults.proofs.Follows.{fault_of, IsRead, whole_read}

none_of : {A : Type 0} (r : Result A (TextFault What)) → fault_of r ≡ None → (x : A) × (r ≡ Ok x)
none_of (Ok x) e = (x, refl)
none_of (Err f) e = absurd cc

some_of : {A : Type 0} (r : Result A (TextFault What)) (f : TextFault What) → fault_of r ≡ Some f → r ≡ Err f
some_of (Ok x) f e = absurd cc
some_of (Err g) f e = cc

pub has_faults : {A : Type 0} (g : Grammar) (read : List Line → Result A (TextFault What)) → IsOpen g → ((ls : List Line) → first_fault g 1 ls ≡ fault_of (read ls)) → HasFaultsOf g read
has_faults g read open' same = record {
  told = λ text f e. told g text f open' (same text ∙ ap fault_of e);
  found = λ text f is. some_of (read text) f (sym (same text) ∙ found g text f open' is);
  reads = λ text x e. text_told g 1 text (same text ∙ ap fault_of e);
  all = λ text is within. none_of (read text) (sym (same text) ∙ text_found g 1 text is within);
}

pub read_faults : {A : Type 0} {read : ℕ × List Line → Result (A × (ℕ × List Line)) (TextFault What)} {part : (A → Grammar) → Grammar} → IsRead read part → IsOpen (part (λ x. ends)) → HasFaultsOf (part (λ x. ends)) (whole_text read)
read_faults {read = read} {part = part} f open' = has_faults (part (λ x. ends)) (whole_text read) open' (whole_read f)
