-- Lists of values, one after the other, as loops make them.
use Rattle.std.proofs.Common.{arith, ◌≡◌, ◌<◌, ◌≤◌, ◌+◌, ◌-◌, ℕ, suc, nat_lt, true, false, codes, append_assoc, List, [], ◌∷◌, ◌++◌, map, refl, sym, ap, ◌∙◌}
use Rattle.wt_grid.specs.Grid.{Grid}
use Rattle.wt_pattern.specs.PatternRows.{row_cells}
use Rattle.wt_session.specs.Json.{numbers, rows_json, pattern_json, string_text, key_text, sides_text, pattern_text}
use Rattle.std.specs.Prelude.{Bool}
use Rattle.std.specs.Fmt.{decimal}
use Rattle.serde_json.specs.Data.{Data}
use Rattle.serde_json.specs.View.{view, items_of}
use Rattle.serde_json.specs.Written.{compact_text, comma_if, items_text}
use Rattle.std.proofs.lemmas.Bool.Decides.{nat_tests}
use Rattle.serde_json.specs.declared.value.Value.{Value}

-- one value more, before those that are left
pub one_more : (vs : List Value) (v : Value) (ds : List Data) → map view (vs ++ v ∷ []) ++ ds ≡ map view vs ++ view v ∷ ds
one_more [] v ds = refl
one_more (w ∷ ws) v ds = ap (λ (r : List Data). view w ∷ r) (one_more ws v ds)

-- one row more of a pattern
pub row_on : (p : Grid) (y h : ℕ) (out total : List ℕ) → y < h → out ++ items_text (nat_lt 0 y) (items_of (rows_json p y (h - y))) ≡ total
    → ((out ++ comma_if (nat_lt 0 y)) ++ compact_text (numbers (row_cells p y))) ++ items_text (nat_lt 0 (y + 1)) (items_of (rows_json p (y + 1) (h - (y + 1)))) ≡ total
row_on p y h out total lt so =
    let k : h - y ≡ suc (h - (y + 1)) = omega arith in
    let here : List ℕ = compact_text (numbers (row_cells p y)) in
    let rest : List ℕ = items_text true (items_of (rows_json p (y + 1) (h - (y + 1)))) in
    let up : nat_lt 0 (y + 1) ≡ true = grind (arith, nat_tests) in
    let one : out ++ (comma_if (nat_lt 0 y) ++ (here ++ rest)) ≡ total = rw k at so in
    rw up (append_assoc (out ++ comma_if (nat_lt 0 y)) here rest ∙ append_assoc out (comma_if (nat_lt 0 y)) (here ++ rest) ∙ one)

-- no row is left
pub rows_done : (p : Grid) (y h : ℕ) (out total : List ℕ) → h ≤ y → out ++ items_text (nat_lt 0 y) (items_of (rows_json p y (h - y))) ≡ total → out ++ 93 ∷ [] ≡ total
rows_done p y h out total le so =
    let k : h - y ≡ 0 = omega arith in
    let one : out ++ 93 ∷ [] ≡ total = rw k at so in
    one

-- a key before what follows it
key_on : (later : Bool) (k rest : List ℕ) → key_text later k ++ rest ≡ comma_if later ++ (string_text k ++ 58 ∷ rest)
unfolding key_text
key_on later k rest = append_assoc (comma_if later) (string_text k ++ codes ":") rest ∙ ap (λ (r : List ℕ). comma_if later ++ r) (append_assoc (string_text k) (codes ":") rest)

six : (a b c d e f rest : List ℕ) → (a ++ (b ++ (c ++ (d ++ (e ++ f))))) ++ rest ≡ a ++ (b ++ (c ++ (d ++ (e ++ (f ++ rest)))))
six a b c d e f rest = simp append_assoc refl

sides_on : (p : Grid) (rest : List ℕ) → sides_text p ++ rest
    ≡ key_text true (codes "height") ++ (decimal p.height ++ (key_text true (codes "kind") ++ (string_text (codes "pattern") ++ (key_text true (codes "width") ++ (decimal p.width ++ rest)))))
unfolding sides_text
sides_on p rest = six (key_text true (codes "height")) (decimal p.height) (key_text true (codes "kind")) (string_text (codes "pattern")) (key_text true (codes "width")) (decimal p.width) rest

-- the text of a pattern, written out
pub whole_pattern : (p : Grid) → pattern_text p ≡ compact_text (pattern_json p)
unfolding string_text
whole_pattern p = ap (λ (r : List ℕ). 123 ∷ r) (key_on false (codes "cells") (codes "[" ++ (cells ++ (sides_text p ++ codes "}"))) ∙ ap (λ (r : List ℕ). string_text (codes "cells") ++ 58 ∷ 91 ∷ (cells ++ r)) (sides_on p (codes "}") ∙ with_height))
  where
    cells : List ℕ
    cells = items_text false (items_of (rows_json p 0 p.height))

    end : List ℕ
    end = decimal p.width ++ codes "}"

    width : List ℕ
    width = key_text true (codes "width") ++ end

    kind : List ℕ
    kind = key_text true (codes "kind") ++ (string_text (codes "pattern") ++ width)

    height : List ℕ
    height = key_text true (codes "height") ++ (decimal p.height ++ kind)

    with_width : width ≡ comma_if true ++ (string_text (codes "width") ++ 58 ∷ end)
    with_width = key_on true (codes "width") end

    with_kind : kind ≡ comma_if true ++ (string_text (codes "kind") ++ 58 ∷ (string_text (codes "pattern") ++ (comma_if true ++ (string_text (codes "width") ++ 58 ∷ end))))
    with_kind = key_on true (codes "kind") (string_text (codes "pattern") ++ width)
        ∙ ap (λ (r : List ℕ). comma_if true ++ (string_text (codes "kind") ++ 58 ∷ (string_text (codes "pattern") ++ r))) with_width

    with_height : height ≡ comma_if true ++ (string_text (codes "height") ++ 58 ∷ (decimal p.height ++ (comma_if true ++ (string_text (codes "kind") ++ 58 ∷ (string_text (codes "pattern") ++ (comma_if true ++ (string_text (codes "width") ++ 58 ∷ end)))))))
    with_height = key_on true (codes "height") (decimal p.height ++ kind)
        ∙ ap (λ (r : List ℕ). comma_if true ++ (string_text (codes "height") ++ 58 ∷ (decimal p.height ++ r))) with_kind

pub written_pattern : (p : Grid) (text : List ℕ) → text ≡ pattern_text p → text ≡ compact_text (pattern_json p)
written_pattern p text e = e ∙ whole_pattern p
