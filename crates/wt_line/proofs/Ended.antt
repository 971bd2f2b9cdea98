-- Where a text or a line ends, and where it goes on.
use Rattle.std.proofs.Common.{arith, ◌≡◌, ◌<◌, ℕ, Bool, true, false, cond, nat_eq, List, [], ◌∷◌, length, Result, Ok, Err, refl}
use Rattle.wt_line.specs.declared.faults.What.{What}
use Rattle.wt_line.specs.declared.faults.LineFault.{LineFault}
use Rattle.wt_line.specs.declared.faults.LineFault.TheVariants.{Wrong, Past, OutOfMemory}
use Rattle.wt_line.specs.declared.faults.TextFault.{TextFault}
use Rattle.wt_line.specs.declared.faults.TextFault.TheVariants as text
use Rattle.wt_line.specs.Faults.{IsMore, TextFails, IsWrong, LineFails}
use Rattle.wt_text.specs.Lines.{Line, lines, in_line}
use Rattle.wt_text.specs.Readers as words
use Rattle.wt_text.specs.Readers.{ended_here, judged}

pub no_lines : (bytes : List ℕ) → length bytes ≡ 0 → lines bytes ≡ []
no_lines [] e = refl
no_lines (b ∷ bs) e = absurd (omega (arith, e))

pub some_lines : (n : ℕ) (bytes : List ℕ) → 0 < length bytes → IsMore n (text.Syntax n) (lines bytes)
some_lines n [] lt = absurd (omega arith)
some_lines n (b ∷ bs) lt = go (nat_eq b 10) (lines bs)
  where
    go : (c : Bool) (ls : List Line) → IsMore n (text.Syntax n) (cond c (record { text = []; ended = true } ∷ ls) (in_line b ls))
    go true ls = refl
    go false [] = refl
    go false (l ∷ ls) = refl

-- a text that goes on where it was to end is at fault
pub more_fails : {A : Type 0} (e : TextFault) (a : A) (n : ℕ) (ls : List Line) → IsMore n e ls → TextFails e (ended_here a n ls)
more_fails (text.Syntax m) a n [] w = absurd w
more_fails {A} (text.Syntax m) a n (l ∷ ls) w = go m n w
  where
    go : (m n : ℕ) → m ≡ n → ◌≡◌ {A = Result A (words.TextFault What)} (Err (words.syntax_at n)) (Err (words.syntax_at m))
    go m n e = cc
more_fails (text.Limit what m) a n ls w = absurd w
more_fails text.OutOfMemory a n ls w = absurd w

-- a line that goes on where it was to end is wrong, whatever was read of it
pub goes_on_is_wrong : {A : Type 0} (e : LineFault) (r : Result A What) (ts : List (List ℕ)) → IsWrong e ts → LineFails e (judged r ts)
goes_on_is_wrong Wrong (Ok a) (t ∷ ts) w = refl
goes_on_is_wrong Wrong (Err what) (t ∷ ts) w = refl
goes_on_is_wrong Wrong r [] w = absurd w
goes_on_is_wrong (Past what) r ts w = absurd w
goes_on_is_wrong OutOfMemory r ts w = absurd w
