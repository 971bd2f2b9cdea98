-- A row of names in a line, both ways.
use Rattle.std.proofs.Common.{rules, arith, ◌≡◌, ℕ, Bool, true, false, cond, ◌&&◌, nat_eq, nat_lt, nat_le, List, [], ◌∷◌, ◌++◌, length, Option, Some, None, Result, Ok, Err, refl, sym, ap, ◌∙◌}
use Rattle.std.proofs.lemmas.Bool.{and_parts}
use Rattle.wt_tile.specs.Names.{is_name_byte, all_name_bytes}
use Rattle.std.proofs.lemmas.Bool.Decides.{nat_tests}
use Rattle.wt_text.specs.Readers.{LineFault, whole}
use Rattle.wt_text.specs.Spellings.{IsClean, AllFit}
use Rattle.wt_text.proofs.Formats.{IsFormat, IsLine, both_format, whole_line, read_is}
use Rattle.wt_names.specs.Rows.{is_name, name_word, name_spelling, row_form, row_spelling, RowFits}

byte_clean : (b : ℕ) → is_name_byte b ≡ true → (nat_eq b 32 ≡ false) × (nat_eq b 10 ≡ false)
byte_clean b e = (grind (arith, nat_tests), grind (arith, nat_tests))

bytes_clean : (bs : List ℕ) → all_name_bytes bs ≡ true → IsClean bs
bytes_clean [] e = tt
bytes_clean (b ∷ bs) e = let p = and_parts (is_name_byte b) (all_name_bytes bs) e in let c = byte_clean b p.0 in (c.0, c.1, bytes_clean bs p.1)

name_clean : (t : List ℕ) → is_name t ≡ true → IsClean t
name_clean t e = bytes_clean t (and_parts (nat_lt 0 (length t) && nat_le (length t) 16) (all_name_bytes t) e).1

pub name_format : {W : Type 0} → IsFormat {W = W} name_word name_spelling (λ t. is_name t ≡ true)
name_format {W} = record { found = found; again = λ x rest fits. rw fits refl; clean = λ x fits. (name_clean x fits, tt) }
  where
    go : (t : List ℕ) (ts : List (List ℕ)) (x : List ℕ) (rest : List (List ℕ)) (b : Bool) → is_name t ≡ b → ◌≡◌ {A = Option (Result (List ℕ) W × List (List ℕ))} (cond b (Some (Ok t, ts)) None) (Some (Ok x, rest))
        → (t ∷ ts ≡ x ∷ rest) × (is_name x ≡ true)
    go t ts x rest true h e = let p = read_is (Ok t) (Ok x) ts rest e in let same : t ≡ x = cc (p.0) in let left : ts ≡ rest = p.1 in (cc, ap is_name (sym same) ∙ h)
    go t ts x rest false h e = absurd cc

    found : (ts : List (List ℕ)) (x : List ℕ) (rest : List (List ℕ)) → name_word {W = W} ts ≡ Some (Ok x, rest) → (ts ≡ name_spelling x ++ rest) × (is_name x ≡ true)
    found [] x rest e = absurd cc
    found (t ∷ ts) x rest e = go t ts x rest (is_name t) refl e

pub row_line : {W : Type 0} → IsLine {W = W} row_form row_spelling RowFits
row_line = whole_line (λ x. tt) (both_format name_format (both_format name_format (both_format name_format name_format)))
