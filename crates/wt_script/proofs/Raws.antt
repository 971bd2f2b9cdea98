-- Lines taken as they are, one after the other, as a loop does.
use Rattle.std.proofs.Common.{arith, ◌≡◌, ℕ, zero, suc, ◌+◌, ◌-◌, ◌<◌, List, [], ◌∷◌, ◌++◌, Result, Ok, Err, refl, sym, ap, ◌∙◌, append_assoc}
use Rattle.std.proofs.lemmas.List.{append-nil}
use Rattle.wt_line.specs.declared.faults.What.{What}
use Rattle.wt_line.specs.declared.faults.TextFault.{TextFault}
use Rattle.wt_line.specs.declared.faults.TextFault.TheVariants as text
use Rattle.wt_line.specs.Faults.{TextFails, IsSyntax, NoLine, ended_line}
use Rattle.wt_text.specs.Lines.{Line}
use Rattle.wt_text.specs.Readers as words
use Rattle.wt_text.specs.Readers.{◌then◌, syntax_at}
use Rattle.wt_script.specs.Raw.{raw_from}

abbrev pub Raw : Type 0
Raw = Result (List ℕ × (ℕ × List Line)) (words.TextFault What)

-- what was taken before, and what is still taken
abbrev pub led : List ℕ → Raw → Raw
led front r = r then λ x. Ok (front ++ x.0, x.1)

pub begins : (r : Raw) → led [] r ≡ r
begins (Ok x) = refl
begins (Err e) = refl

regroup : (front text : List ℕ) (r : Raw) → led front (r then λ x. Ok (text ++ 10 ∷ x.0, x.1)) ≡ led ((front ++ text) ++ 10 ∷ []) r
regroup front text (Ok x) = ap (λ (f : List ℕ). Ok (f, x.1)) (simp append_assoc)
regroup front text (Err e) = refl

pub goes_on : (front text : List ℕ) (k n : ℕ) (ls more : List Line) (total : Raw) → 0 < k → ls ≡ ended_line text ∷ more → led front (raw_from k n ls) ≡ total → led ((front ++ text) ++ 10 ∷ []) (raw_from (k - 1) (n + 1) more) ≡ total
goes_on front text zero n ls more total lt e so = absurd (omega arith)
goes_on front text (suc k) n ls more total lt e so =
    let one : led front (raw_from (suc k) n ls) ≡ led ((front ++ text) ++ 10 ∷ []) (raw_from k (n + 1) more) = rw e (regroup front text (raw_from k (n + 1) more)) in
    let m : suc k - 1 ≡ k = omega arith in
    rw m (sym one ∙ so)

stops : (front : List ℕ) (k n : ℕ) (ls : List Line) → NoLine ls → led front (raw_from (suc k) n ls) ≡ Err (syntax_at n)
stops front k n [] w = refl
stops front k n (l ∷ ls) w = rw w refl

pub ends : (e : TextFault) (front : List ℕ) (k n : ℕ) (ls : List Line) (total : Raw) → 0 < k → IsSyntax n e ls → led front (raw_from k n ls) ≡ total → TextFails e total
ends text.OutOfMemory front k n ls total lt w so = tt
ends (text.Limit what m) front k n ls total lt w so = absurd w
ends (text.Syntax m) front zero n ls total lt w so = absurd (omega arith)
ends (text.Syntax m) front (suc k) n ls total lt w so = sym so ∙ stops front k n ls w.1 ∙ ap (λ (i : ℕ). Err (syntax_at i)) (sym w.0)

pub is_done : (front : List ℕ) (n : ℕ) (ls : List Line) (total : Raw) → led front (raw_from 0 n ls) ≡ total → total ≡ Ok (front, (n, ls))
is_done front n ls total so = sym so ∙ ap (λ (f : List ℕ). Ok (f, (n, ls))) (append-nil front)
