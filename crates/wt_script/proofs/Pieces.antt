-- Pieces of a script, one after the other, as a loop reads them.
use Rattle.std.proofs.Common.{arith, ◌≡◌, ℕ, zero, suc, ◌<◌, ◌≤◌, List, [], ◌∷◌, ◌++◌, length, Option, None, Some, Result, Ok, Err, refl, sym, ap, ◌∙◌, append_assoc}
use Rattle.std.proofs.lemmas.List.{append-nil}
use Rattle.wt_line.specs.declared.faults.What.{What}
use Rattle.wt_line.specs.declared.faults.TextFault.{TextFault}
use Rattle.wt_line.specs.declared.faults.TextFault.TheVariants as text
use Rattle.wt_line.specs.Faults.{TextFails, IsMore}
use Rattle.wt_line.proofs.Ended.{some_lines, no_lines}
use Rattle.wt_text.specs.Lines.{Line, lines}
use Rattle.wt_text.specs.Readers as words
use Rattle.wt_text.specs.Readers.{◌then◌, syntax_at}
use Rattle.wt_script.specs.declared.word.Command.{Command}
use Rattle.wt_script.specs.Script.{piece_at, in_front, pieces, script}
use Rattle.wt_script.specs.Fits.{AllFitting}
use Rattle.wt_script.specs.Seen.{PieceFits, said}
use Rattle.wt_script.proofs.Takes.{piece_takes}

-- what was read before, and what is still read
abbrev pub led : List Command → Result (List Command) (words.TextFault What) → Result (List Command) (words.TextFault What)
led front r = r then λ cs. Ok (front ++ cs)

-- what is read of the text is what was read before it, and the pieces from this place on
abbrev pub SoFar : List Command → ℕ × List Line → Result (List Command) (words.TextFault What) → Type 0
SoFar front p total = (most : ℕ) × (length p.1 ≤ most) × (led front (pieces most p.0 p.1) ≡ total)

pub begins : (bytes : List ℕ) → SoFar [] (1, lines bytes) (script bytes)
begins bytes = (length (lines bytes), omega arith, go (script bytes))
  where
    go : (r : Result (List Command) (words.TextFault What)) → led [] r ≡ r
    go (Ok cs) = refl
    go (Err e) = refl

regroup : (front : List Command) (x : Option Command) (r : Result (List Command) (words.TextFault What)) → led front (r then λ cs. Ok (in_front x cs)) ≡ led (front ++ said x) r
regroup front None (Ok cs) = ap (λ (f : List Command). Ok (f ++ cs)) (sym (append-nil front))
regroup front (Some c) (Ok cs) = ap (λ (f : List Command). Ok f) (simp append_assoc)
regroup front x (Err e) = refl

some_left : (front : List Command) (most n : ℕ) (ls : List Line) (x : Option Command) (q : ℕ × List Line) (total : Result (List Command) (words.TextFault What)) → length ls ≤ most → led front (pieces most n ls) ≡ total → piece_at n ls ≡ Ok (x, q)
    → SoFar (front ++ said x) q total
some_left front most n [] x q total le e h = absurd cc
some_left front zero n (l ∷ ls) x q total le e h = absurd (omega (arith, le))
some_left front (suc most) n (l ∷ ls) x q total le e h =
    let t = piece_takes n (l ∷ ls) x q h in
    let one : led front (pieces (suc most) n (l ∷ ls)) ≡ led (front ++ said x) (pieces most q.0 q.1) = rw h (regroup front x (pieces most q.0 q.1)) in
    (most, omega (arith, t, le), sym one ∙ e)

pub goes_on : (front : List Command) (p : ℕ × List Line) (x : Option Command) (q : ℕ × List Line) (total : Result (List Command) (words.TextFault What)) → SoFar front p total → piece_at p.0 p.1 ≡ Ok (x, q) → SoFar (front ++ said x) q total
goes_on front p x q total s h = some_left front s.0 p.0 p.1 x q total s.1 s.2 h

pub fewer : (p q : ℕ × List Line) (x : Option Command) → piece_at p.0 p.1 ≡ Ok (x, q) → length q.1 < length p.1
fewer p q x h = piece_takes p.0 p.1 x q h

fails : (front : List Command) (most n : ℕ) (l : Line) (ls : List Line) (e : words.TextFault What) → piece_at n (l ∷ ls) ≡ Err e → led front (pieces (suc most) n (l ∷ ls)) ≡ Err e
fails front most n l ls e h = rw h refl

none_right : (front : List Command) (e : TextFault) (most n : ℕ) (l : Line) (ls : List Line) (total : Result (List Command) (words.TextFault What)) → length (l ∷ ls) ≤ most → led front (pieces most n (l ∷ ls)) ≡ total → TextFails e (piece_at n (l ∷ ls)) → TextFails e total
none_right front text.OutOfMemory most n l ls total le so h = tt
none_right front (text.Syntax m) zero n l ls total le so h = absurd (omega (arith, le))
none_right front (text.Limit what m) zero n l ls total le so h = absurd (omega (arith, le))
none_right front (text.Syntax m) (suc most) n l ls total le so h = sym so ∙ fails front most n l ls (words.syntax_at m) h
none_right front (text.Limit what m) (suc most) n l ls total le so h = sym so ∙ fails front most n l ls (words.limit_at what m) h

pub ends : (front : List Command) (e : TextFault) (n : ℕ) (bytes : List ℕ) (total : Result (List Command) (words.TextFault What)) → 0 < length bytes → SoFar front (n, lines bytes) total → TextFails e (piece_at n (lines bytes)) → TextFails e total
ends front e n bytes total some so h = go (lines bytes) (some_lines n bytes some) so h
  where
    go : (ls : List Line) → IsMore n (text.Syntax n) ls → SoFar front (n, ls) total → TextFails e (piece_at n ls) → TextFails e total
    go [] m so h = absurd m
    go (l ∷ ls) m so h = none_right front e so.0 n l ls total so.1 so.2 h

pub is_done : (front : List Command) (n : ℕ) (bytes : List ℕ) (total : Result (List Command) (words.TextFault What)) → length bytes ≡ 0 → SoFar front (n, lines bytes) total → total ≡ Ok front
is_done front n bytes total z so = go (lines bytes) (no_lines bytes z) so
  where
    at_end : (most : ℕ) → led front (pieces most n []) ≡ Ok front
    at_end zero = ap (λ (f : List Command). Ok f) (append-nil front)
    at_end (suc most) = ap (λ (f : List Command). Ok f) (append-nil front)

    go : (ls : List Line) → ls ≡ [] → SoFar front (n, ls) total → total ≡ Ok front
    go [] e so = sym so.2 ∙ at_end so.0
    go (l ∷ ls) e so = absurd cc

pub fit_on : (front : List Command) (x : Option Command) → AllFitting front → PieceFits x → AllFitting (front ++ said x)
fit_on [] None f g = tt
fit_on [] (Some c) f g = (g, tt)
fit_on (c ∷ cs) x f g = (f.0, fit_on cs x f.1 g)
