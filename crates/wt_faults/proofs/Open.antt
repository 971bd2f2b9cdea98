-- Grammars whose forms have lines.
use Rattle.std.proofs.Common.{rules, arith, ◌≡◌, ℕ, zero, suc, ◌≤◌, List, [], ◌∷◌, Option, Some, None, Bool, true, false, cond, nat_eq, refl, sym, ap, ◌∙◌}
use Rattle.std.specs.Prelude.{codes}
use Rattle.std.proofs.lemmas.Bool.{eqb-false}
use Rattle.wt_line.specs.declared.limits.TheConstants.{MOST}
use Rattle.wt_line.specs.declared.faults.What.TheVariants.{Number, Width, Height}
use Rattle.wt_text.specs.Words.{tokens, number}
use Rattle.wt_text.specs.Lines.{line_of}
use Rattle.wt_text.specs.Readers.{after}
use Rattle.wt_text.specs.Spellings.{IsClean, AllFit, IsNotEmpty}
use Rattle.wt_text.proofs.Split.{tokens_spaced}
use Rattle.wt_text.proofs.Numbers.{some_is}
use Rattle.wt_text.proofs.Formats.{bind_some}
use Rattle.wt_pattern.specs.TileRows.{row_edges}
use Rattle.wt_faults.specs.Grammars.{Grammar, ends, Quantity, has_form, going_on, one, many}
use Rattle.wt_faults.specs.Forms.{quantity, a_number, a_number_from_one, behind_word, two, no_more, so_many}
use Rattle.wt_faults.specs.Rows.{names_line, names_part, set_grammar, cells_line, cells_grammar, shape_line, rows_grammar, pattern_grammar}
use Rattle.wt_faults.proofs.First.{IsOpen}

-- tokens of this form, which can stand in a line
pub record HasLine {A : Type 0} (form : List (List ℕ) → Option (A × List Quantity)) : Type 0 where
  pub tokens : List (List ℕ)
  pub some : IsNotEmpty tokens
  pub clean : AllFit IsClean tokens
  pub fits : has_form (form tokens) ≡ true

-- a line of a form, where what goes by the line is open
pub open_one : {A : Type 0} {form : List (List ℕ) → Option (A × List Quantity)} (next : A → Grammar) → HasLine form → ((ts : List (List ℕ)) (x : A) (qs : List Quantity) → form ts ≡ Some (x, qs) → IsOpen (next x)) → IsOpen (one form next)
open_one {A} {form} next e later = ((line_of e.tokens, refl, ap (λ (ts : List (List ℕ)). has_form (form ts)) (tokens_spaced e.tokens e.some e.clean) ∙ e.fits), λ ts fit. by ts (form ts) refl fit)
  where
    by : (ts : List (List ℕ)) (o : Option (A × List Quantity)) → form ts ≡ o → has_form o ≡ true → IsOpen (going_on next o)
    by ts None is fit = absurd cc
    by ts (Some x) is fit = later ts x.0 x.1 is

-- a part is open where what comes behind it is
pub record IsOpenPart {A : Type 0} (part : (A → Grammar) → Grammar) : Type 0 where
  pub opens : (next : A → Grammar) → ((x : A) → IsOpen (next x)) → IsOpen (part next)

pub one_open : {A : Type 0} {form : List (List ℕ) → Option (A × List Quantity)} → HasLine form → IsOpenPart (one form)
one_open e = record { opens = λ next later. open_one next e (λ ts x qs is. later x) }

pub many_open : {A : Type 0} {part : (A → Grammar) → Grammar} → IsOpenPart part → (n : ℕ) → IsOpenPart (many part n)
many_open f zero = record { opens = λ next later. later [] }
many_open f (suc n) = record { opens = λ next later. f.opens _ (λ x. (many_open f n).opens _ (λ xs. later (x ∷ xs))) }

-- ---- rows

names_example : HasLine names_line
names_example = let a : List ℕ = 97 ∷ [] in record { tokens = a ∷ a ∷ a ∷ a ∷ []; some = tt; clean = search rules; fits = refl }

pub names_open : IsOpenPart names_part
names_open = record { opens = λ next later. (one_open names_example).opens (λ x. next (row_edges x)) (λ x. later (row_edges x)) }

pub set_open : (n : ℕ) → IsOpen (set_grammar n)
set_open n = (many_open names_open n).opens (λ rows. ends) (λ rows. tt)

zeros : ℕ → List (List ℕ)
zeros zero = []
zeros (suc n) = (48 ∷ []) ∷ zeros n

zeros_clean : (n : ℕ) → AllFit IsClean (zeros n)
unfolding zeros
zeros_clean zero = tt
zeros_clean (suc n) = (search rules, zeros_clean n)

zeros_some : (n : ℕ) → 1 ≤ n → IsNotEmpty (zeros n)
unfolding zeros
zeros_some zero le = absurd (omega arith)
zeros_some (suc n) le = tt

zeros_fit : (n : ℕ) → (x : List ℕ × List Quantity) × (so_many (a_number MOST Number) n (zeros n) ≡ Some (x, []))
unfolding zeros
zeros_fit zero = (([], []), refl)
zeros_fit (suc n) = let more = zeros_fit n in ((0 ∷ more.0.0, quantity Number MOST 0 ∷ more.0.1), rw more.1 refl)

cells_example : (width : ℕ) → 1 ≤ width → HasLine (cells_line width)
cells_example width le = record { tokens = zeros width; some = zeros_some width le; clean = zeros_clean width; fits = let e = (zeros_fit width).1 in rw e refl }

pub cells_open : (width height : ℕ) → 1 ≤ width → IsOpenPart (cells_grammar width height)
cells_open width height le = many_open (one_open (cells_example width le)) height

pub rows_open : (width height : ℕ) → 1 ≤ width → IsOpen (rows_grammar width height)
rows_open width height le = (cells_open width height le).opens (λ rows. ends) (λ rows. tt)

shape_example : HasLine shape_line
shape_example = let n : List ℕ = 49 ∷ [] in record { tokens = codes "pattern" ∷ n ∷ n ∷ []; some = tt; clean = search rules; fits = refl }

-- the sides of a pattern aren't 0
wide : (ts : List (List ℕ)) (x : ℕ × ℕ) (qs : List Quantity) → shape_line ts ≡ Some (x, qs) → 1 ≤ x.0
wide ts x qs e =
    let a = bind_some (behind_word (codes "pattern") (two (a_number_from_one 4096 Width) (a_number_from_one 4096 Height)) ts) _ (x, qs) e in
    let b = bind_some (after (codes "pattern") ts) _ a.0 a.1 in
    let c = bind_some (a_number_from_one 4096 Width b.0) _ a.0 b.2 in
    let d = bind_some (a_number_from_one 4096 Height c.0.1) _ a.0 c.2 in
    let same : a.0.0.0.0 ≡ c.0.0.0 = ap (λ (y : ((ℕ × ℕ) × List Quantity) × List (List ℕ)). y.0.0.0) (sym (some_is _ _ d.2)) in
    let left : a.0.0.0.0 ≡ x.0 = rest a.0.0 a.0.1 (x, qs) a.2 in
    let some = from_one b.0 c.0 c.1 in
    omega (arith, same, left, some)
  where
    rest : (y : (ℕ × ℕ) × List Quantity) (ts : List (List ℕ)) (z : (ℕ × ℕ) × List Quantity) → no_more y ts ≡ Some z → y.0.0 ≡ z.0.0
    rest y [] z k = ap (λ (r : (ℕ × ℕ) × List Quantity). r.0.0) (some_is _ _ k)
    rest y (t ∷ ts) z k = absurd cc

    by : (t : List ℕ) (ts : List (List ℕ)) (n : ℕ) (y : (ℕ × List Quantity) × List (List ℕ)) (b : Bool) → nat_eq n 0 ≡ b → cond b None (Some ((n, quantity Width 4096 n ∷ []), ts)) ≡ Some y → 1 ≤ y.0.0
    by t ts n y true z k = absurd cc
    by t ts n y false z k = let same : n ≡ y.0.0 = ap (λ (r : (ℕ × List Quantity) × List (List ℕ)). r.0.0) (some_is _ _ k) in omega (arith, same, eqb-false n 0 z)

    from_one : (ts : List (List ℕ)) (y : (ℕ × List Quantity) × List (List ℕ)) → a_number_from_one 4096 Width ts ≡ Some y → 1 ≤ y.0.0
    from_one [] y k = absurd cc
    from_one (t ∷ ts) y k = let n = bind_some (number t) _ y k in by t ts n.0 y (nat_eq n.0 0) refl n.2

pub pattern_open : IsOpen pattern_grammar
pattern_open = open_one _ shape_example (λ ts x qs e. (cells_open x.0 x.1 (wide ts x qs e)).opens _ (λ rows. tt))
