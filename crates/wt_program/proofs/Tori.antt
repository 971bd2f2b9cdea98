-- The sides and the moves of a torus that was read have denominators above 0, and its regions are few.
use Rattle.std.proofs.Common.{arith, ◌≡◌, ℕ, zero, suc, ◌+◌, ◌≤◌, ◌<◌, ◌&&◌, Bool, true, false, cond, List, [], ◌∷◌, length, refl, sym, ap, ◌∙◌, subst}
use Rattle.std.proofs.lemmas.Int.{ints}
use Rattle.std.proofs.lemmas.Bool.{ltb-true}
use Rattle.std.specs.Prelude.{ℤ, pos, ◌<ℤ◌, nat_lt, codes, Option, None, Some, Result, Ok, Err}
use Rattle.wt_text.specs.Words.{tokens, number, value_from, is_decimal}
use Rattle.wt_text.specs.Lines.{Line}
use Rattle.wt_text.specs.Readers.{◌>>=◌, ◌then◌, pair, after, within, number_to, mapped, seen_value, value_behind, both, whole, judge, LineFault, TextFault, line_read, line_at, one_line, many_parts, both_parts, part_by, seen_as, whole_text, ended_here, syntax_at}
use Rattle.wt_text.proofs.Numbers.{if_some, some_is}
use Rattle.wt_text.proofs.Formats.{bind_some, read_is, within_ok, pair_ok, judge_ok}
use Rattle.wt_text.proofs.Texts.{then_ok, ok_is, ok_pair}
use Rattle.wt_line.specs.declared.faults.What.{What}
use Rattle.wt_line.specs.declared.faults.What.TheVariants.{Golden, Regions}
use Rattle.wt_line.specs.Signed.{is_signed}
use Rattle.wt_pattern.specs.TileRows.{no_state}
use Rattle.wt_golden.specs.Fractions.{Fraction, lowest}
use Rattle.wt_golden.proofs.Lowest.{lowest_above}
use Rattle.wt_torus.specs.Codes.{is_within}
use Rattle.wt_script.specs.declared.torus.RawBox.{RawBox}
use Rattle.wt_script.specs.declared.torus.RawTorus.{RawTorus}
use Rattle.wt_script.specs.declared.torus.RawRegion.{RawRegion}
use Rattle.wt_script.specs.Tokens.{at_colon, is_divisor, written, golden_within, golden_token, golden}
use Rattle.wt_script.specs.TorusText.{to_box, sides, box_and_count, plain_torus_form, plain_torus_part, regions_part}

-- the denominators of a box and of its moves are above 0
pub record IsUpright (box : RawBox) : Type 0 where
  pub width : pos 0 <ℤ box.width.d
  pub height : pos 0 <ℤ box.height.d
  pub move1 : pos 0 <ℤ box.move1.d
  pub move2 : pos 0 <ℤ box.move2.d

-- ---- a golden number

and_second : (a b c : Bool) → a && (b && c) ≡ true → c ≡ true
and_second true true c e = e
and_second true false c e = absurd cc
and_second false b c e = absurd cc

and_last : (a b : Bool) → a && b ≡ true → b ≡ true
and_last true b e = e
and_last false b e = absurd cc

above : (n : ℕ) → 0 < n → pos 0 <ℤ pos n
above n h = omega (arith, ints)

lowest_within : (g f : Fraction) → pos 0 <ℤ g.d → golden_within g ≡ Ok f → pos 0 <ℤ f.d
lowest_within g f h e = go (is_within g) e
  where
    go : (b : Bool) → cond b (Ok (lowest g)) (Err Golden) ≡ Ok f → pos 0 <ℤ f.d
    go true t = subst (λ (x : Fraction). pos 0 <ℤ x.d) (ok_is _ _ t) (lowest_above g h)
    go false t = absurd cc

token_above : (t : List ℕ) (f : Fraction) → golden_token t ≡ Some (Ok f) → pos 0 <ℤ f.d
token_above t f e =
    let x = bind_some (at_colon t) _ (Ok f) e in
    let y = bind_some (at_colon x.0.1) _ (Ok f) x.2 in
    let h = if_some (is_signed x.0.0 && (is_signed y.0.0 && is_divisor y.0.1)) (Some (golden_within (written x.0.0 y.0.0 y.0.1))) (Ok f) y.2 in
    let d = and_last (is_decimal y.0.1) (nat_lt 0 (value_from 0 y.0.1)) (and_second (is_signed x.0.0) (is_signed y.0.0) (is_divisor y.0.1) h.0) in
    lowest_within (written x.0.0 y.0.0 y.0.1) f (above (value_from 0 y.0.1) (ltb-true 0 (value_from 0 y.0.1) d)) (some_is _ _ h.1)

golden_above : (ts : List (List ℕ)) (f : Fraction) (rest : List (List ℕ)) → golden ts ≡ Some (Ok f, rest) → pos 0 <ℤ f.d
golden_above [] f rest e = absurd cc
golden_above (t ∷ ts) f rest e =
    let g = bind_some (golden_token t) _ (Ok f, rest) e in
    let p = read_is g.0 (Ok f) ts rest g.2 in
    token_above t f (g.1 ∙ ap (λ (y : Result Fraction What). Some y) p.0)

-- ---- a box

both_ok : {A B : Type 0} (ra : List (List ℕ) → Option (Result A What × List (List ℕ))) (rb : List (List ℕ) → Option (Result B What × List (List ℕ))) (ts : List (List ℕ)) (x : A × B) (rest : List (List ℕ))
    → both ra rb ts ≡ Some (Ok x, rest) → (mid : List (List ℕ)) × (ra ts ≡ Some (Ok x.0, mid)) × (rb mid ≡ Some (Ok x.1, rest))
unfolding both
both_ok {A} {B} ra rb ts x rest e =
    let a = bind_some (ra ts) _ (Ok x, rest) e in
    let b = bind_some (rb a.0.1) _ (Ok x, rest) a.2 in
    let p = read_is (pair a.0.0 b.0.0) (Ok x) b.0.1 rest b.2 in
    let oks = pair_ok a.0.0 b.0.0 x p.0 in (
      a.0.1,
      a.1 ∙ ap (λ (y : Result A What). Some (y, a.0.1)) oks.0,
      b.1 ∙ ap (λ (y : Result B What). Some (y, b.0.1)) oks.1 ∙ ap (λ (y : List (List ℕ)). Some (Ok x.1, y)) p.1,
    )

mapped_ok : {A B : Type 0} (to : A → B) (r : Result A What) (y : B) → mapped to r ≡ Ok y → (x : A) × (r ≡ Ok x) × (to x ≡ y)
mapped_ok to (Ok x) y e = (x, refl, ok_is _ _ e)
mapped_ok to (Err w) y e = absurd cc

sides_upright : (ts : List (List ℕ)) (box : RawBox) (rest : List (List ℕ)) → sides ts ≡ Some (Ok box, rest) → IsUpright box
unfolding sides
sides_upright ts box rest e =
    let read = both golden (both golden (both golden golden)) ts in
    let x = bind_some read _ (Ok box, rest) e in
    let p = read_is (mapped to_box x.0.0) (Ok box) x.0.1 rest x.2 in
    let m = mapped_ok to_box x.0.0 box p.0 in
    let w = both_ok golden (both golden (both golden golden)) ts m.0 x.0.1 (x.1 ∙ ap (λ (y : Result (Fraction × (Fraction × (Fraction × Fraction))) What). Some (y, x.0.1)) m.1) in
    let h = both_ok golden (both golden golden) w.0 m.0.1 x.0.1 w.2 in
    let v = both_ok golden golden h.0 m.0.1.1 x.0.1 h.2 in
    subst IsUpright m.2 (record {
      width = golden_above ts m.0.0 w.0 w.1;
      height = golden_above w.0 m.0.1.0 h.0 h.1;
      move1 = golden_above h.0 m.0.1.1.0 v.0 v.1;
      move2 = golden_above v.0 m.0.1.1.1 x.0.1 v.2;
    })

number_few : (most : ℕ) (what : What) (ts : List (List ℕ)) (n : ℕ) (rest : List (List ℕ)) → number_to most what ts ≡ Some (Ok n, rest) → n ≤ most
number_few most what [] n rest e = absurd cc
number_few most what (t ∷ ts) n rest e =
    let m = bind_some (number t) _ (Ok n, rest) e in
    (within_ok most what m.0 n (read_is (within most what m.0) (Ok n) ts rest m.2).0).1

form_upright : (ts : List (List ℕ)) (x : RawBox × ℕ) → plain_torus_form ts ≡ Ok x → IsUpright x.0 × (x.1 ≤ 1024)
unfolding plain_torus_form whole value_behind
form_upright ts x e =
    let r = bind_some (after (codes "torus") ts) box_and_count (Ok x, []) (judge_ok (value_behind (codes "torus") box_and_count ts) x e) in
    let b = both_ok sides _ r.0 x [] r.2 in
    (sides_upright r.0 x.0 b.0 b.1, number_few 1024 Regions b.0 x.1 [] b.2)

-- ---- a text

line_ok : {A : Type 0} (read : List (List ℕ) → Result A (LineFault What)) (p : ℕ × List Line) (x : A) (q : ℕ × List Line) → one_line read p ≡ Ok (x, q) → (ts : List (List ℕ)) × (read ts ≡ Ok x)
unfolding one_line
line_ok {A} read p x q e = at p.0 p.1 e
  where
    of_line : (n : ℕ) (ls : List Line) (r : Result A (LineFault What)) → line_read n ls r ≡ Ok (x, q) → r ≡ Ok x
    of_line n ls (Ok a) h = ap (λ (y : A). Ok y) (ok_pair a x (n + 1, ls) q h).0
    of_line n ls (Err w) h = absurd cc

    ended : (n : ℕ) (text : List ℕ) (b : Bool) (ls : List Line) → cond b (line_read n ls (read (tokens text))) (Err (syntax_at n)) ≡ Ok (x, q) → (ts : List (List ℕ)) × (read ts ≡ Ok x)
    ended n text true ls h = (tokens text, of_line n ls (read (tokens text)) h)
    ended n text false ls h = absurd cc

    at : (n : ℕ) (ls : List Line) → line_at read n ls ≡ Ok (x, q) → (ts : List (List ℕ)) × (read ts ≡ Ok x)
    at n [] h = absurd cc
    at n (l ∷ ls) h = ended n l.text l.ended ls h

many_length : {A S : Type 0} (read : S → ℕ × List Line → Result (A × (ℕ × List Line)) (TextFault What)) (next : S → A → S) (s : S) (n : ℕ) (p : ℕ × List Line) (xs : List A) (q : ℕ × List Line)
    → many_parts read next s n p ≡ Ok (xs, q) → length xs ≡ n
many_length read next s zero p xs q e = sym (ap length (ok_pair [] xs p q e).0)
many_length read next s (suc n) p xs q e =
    let a = then_ok (read s p) _ (xs, q) e in
    let b = then_ok (many_parts read next (next s a.0.0) n a.0.1) _ (xs, q) a.2 in
    sym (ap length (ok_pair (a.0.0 ∷ b.0.0) xs b.0.1 q b.2).0) ∙ ap suc (many_length read next (next s a.0.0) n a.0.1 b.0.0 b.0.1 b.1)

-- The denominators are above 0, and there are at most 1024 regions.
pub record IsWithinText (torus : RawTorus) : Type 0 where
  pub upright : IsUpright torus.sides
  pub few : length torus.regions ≤ 1024

part_within : (p : ℕ × List Line) (torus : RawTorus) (q : ℕ × List Line) → plain_torus_part p ≡ Ok (torus, q) → IsWithinText torus
unfolding plain_torus_part seen_as part_by
part_within p torus q e =
    let x = then_ok (part_by (one_line plain_torus_form) (λ head. regions_part head.1) p) _ (torus, q) e in
    let same = (ok_pair _ torus _ q x.2).0 in
    let head = then_ok (one_line plain_torus_form p) _ x.0 x.1 in
    let regions = then_ok (regions_part head.0.0.1 head.0.1) _ x.0 head.2 in
    let l = line_ok plain_torus_form p head.0.0 head.0.1 head.1 in
    let parts = (ok_pair (head.0.0, regions.0.0) x.0.0 regions.0.1 x.0.1 regions.2).0 in
    let first = ap (λ (y : (RawBox × ℕ) × List RawRegion). y.0.0) parts in
    let list = ap (λ (y : (RawBox × ℕ) × List RawRegion). y.1) parts in
    let f = form_upright l.0 head.0.0 l.1 in
    let many : length regions.0.0 ≡ head.0.0.1 = many_length _ no_state 0 head.0.0.1 head.0.1 regions.0.0 regions.0.1 regions.1 in
    let count : length torus.regions ≡ head.0.0.1 = sym (ap length (list ∙ ap (λ (t : RawTorus). t.regions) same)) ∙ many in
    let most : head.0.0.1 ≤ 1024 = f.1 in
    record {
      upright = subst IsUpright (first ∙ ap (λ (t : RawTorus). t.sides) same) f.0;
      few = omega (arith, count, most);
    }

pub part_few : (p : ℕ × List Line) (torus : RawTorus) (q : ℕ × List Line) → plain_torus_part p ≡ Ok (torus, q) → length torus.regions ≤ 1024
part_few p torus q e = (part_within p torus q e).few

ended_ok : {A : Type 0} (x y : A) (n : ℕ) (ls : List Line) → ended_here {W = What} x n ls ≡ Ok y → x ≡ y
ended_ok x y n [] e = ok_is _ _ e
ended_ok x y n (l ∷ ls) e = absurd cc

-- a text of another part and a torus
pub text_upright : {A : Type 0} (other : ℕ × List Line → Result (A × (ℕ × List Line)) (TextFault What)) (ls : List Line) (x : A × RawTorus) → whole_text (both_parts other plain_torus_part) ls ≡ Ok x → IsUpright x.1.sides
unfolding whole_text both_parts
text_upright {A} other ls x e =
    let t = then_ok (both_parts other plain_torus_part (1, ls)) _ x e in
    let a = then_ok (other (1, ls)) _ t.0 t.1 in
    let b = then_ok (plain_torus_part a.0.1) _ t.0 a.2 in
    let same = (ok_pair (a.0.0, b.0.0) t.0.0 b.0.1 t.0.1 b.2).0 ∙ ended_ok t.0.0 x t.0.1.0 t.0.1.1 t.2 in
    subst IsUpright (ap (λ (y : A × RawTorus). y.1.sides) same) (part_within a.0.1 b.0.0 b.0.1 b.1).upright
