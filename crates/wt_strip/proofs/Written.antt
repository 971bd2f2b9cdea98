-- Layers that are written line by line.
use Rattle.std.proofs.Common.{arith, ◌≡◌, ℕ, zero, suc, ◌+◌, ◌<◌, Bool, true, false, if◌then◌else◌, List, [], ◌∷◌, ◌++◌, length, map, get_or, drop, refl, sym, ap, ◌∙◌, append_assoc, add-one, drop-cons, codes}
use Rattle.std.specs.List.{flat_map}
use Rattle.std.specs.Fmt.{decimal}
use Rattle.std.proofs.lemmas.List.{append-nil}
use Rattle.std.proofs.lemmas.Grind.{flat_map-append}
use Rattle.wt_text.specs.Words.{spaced}
use Rattle.wt_text.specs.Lines.{Line, bytes_of}
use Rattle.wt_text.specs.Spellings.{line_spelling}
use Rattle.wt_grid.specs.Grid.{listed}
use Rattle.wt_grid.proofs.Bridge.{length-listed}
use Rattle.wt_pattern.specs.PatternRows.{cells_spelling}
use Rattle.wt_strip.specs.declared.layers.Layers.{Layers}
use Rattle.wt_strip.specs.Listed.{rows_in, row_at}
use Rattle.wt_strip.specs.StripText.{layer_rows, count_tokens, head_tokens, end_tokens, layer_lines, strip_lines}

bytes_both : (a b : List Line) → bytes_of (a ++ b) ≡ bytes_of a ++ bytes_of b
bytes_both [] b = refl
bytes_both (l ∷ ls) b = by l.ended (bytes_both ls b)
  where
    by : (e : Bool) → bytes_of (ls ++ b) ≡ bytes_of ls ++ bytes_of b → l.text ++ (if e then 10 ∷ bytes_of (ls ++ b) else bytes_of (ls ++ b)) ≡ (l.text ++ (if e then 10 ∷ bytes_of ls else bytes_of ls)) ++ bytes_of b
    by true h = ap (λ (x : List ℕ). l.text ++ 10 ∷ x) h ∙ sym (append_assoc l.text (10 ∷ bytes_of ls) (bytes_of b))
    by false h = ap (λ (x : List ℕ). l.text ++ x) h ∙ sym (append_assoc l.text (bytes_of ls) (bytes_of b))

listed_last : {A : Type 0} (n : ℕ) (f : ℕ → A) → listed (suc n) f ≡ listed n f ++ f n ∷ []
listed_last zero f = refl
listed_last (suc n) f = ap (λ (r : List _). f 0 ∷ r) (listed_last n (λ k. f (suc k)))

-- lines behind lines
pub written : (out o1 o2 : List ℕ) (a b : List Line) → o1 ≡ out ++ bytes_of a → o2 ≡ o1 ++ bytes_of b → o2 ≡ out ++ bytes_of (a ++ b)
written out o1 o2 a b e1 e2 = rw (e2, e1, bytes_both a b) (append_assoc out (bytes_of a) (bytes_of b))

-- the same lines of the same value
pub as_lines : {A : Type 0} (f : A → List Line) (x y : A) (out new : List ℕ) → x ≡ y → new ≡ out ++ bytes_of (f x) → new ≡ out ++ bytes_of (f y)
as_lines f x y out new e h = h ∙ ap (λ (z : _). out ++ bytes_of (f z)) e

abbrev pub row_lines : ℕ → List ℕ → ℕ → List Line
row_lines w cells n = flat_map (line_spelling cells_spelling) (listed n (row_at w cells))

-- no row yet
pub no_row : (w : ℕ) (cells out : List ℕ) → out ≡ out ++ bytes_of (row_lines w cells 0)
no_row w cells out = sym (append-nil out)

-- one row more
pub row_written : (w : ℕ) (cells : List ℕ) (r : ℕ) (q start out new : List ℕ) → q ≡ row_at w cells r → new ≡ out ++ spaced (map decimal q) ++ 10 ∷ [] → out ≡ start ++ bytes_of (row_lines w cells r) → new ≡ start ++ bytes_of (row_lines w cells (r + 1))
row_written w cells r q start out new eq n so_far =
    let one : r + 1 ≡ suc r = omega arith in
    let line = line_spelling cells_spelling (row_at w cells r) in
    let last : row_lines w cells (suc r) ≡ row_lines w cells r ++ line =
    ap (flat_map (line_spelling cells_spelling)) (listed_last r (row_at w cells)) ∙ flat_map-append (line_spelling cells_spelling) (listed r (row_at w cells)) (row_at w cells r ∷ []) in
    let same : new ≡ out ++ bytes_of line = n ∙ append_assoc out (spaced (map decimal q)) (10 ∷ []) ∙ ap (λ (x : List ℕ). out ++ bytes_of (line_spelling cells_spelling x)) eq in
    written start out new (row_lines w cells r) line so_far same ∙ ap (λ (x : List Line). start ++ bytes_of x) (sym last) ∙ ap (λ (k : ℕ). start ++ bytes_of (row_lines w cells k)) (sym one)

-- the first line of a layer
pub count_written : (out a b c : List ℕ) (n : ℕ) → a ≡ out ++ codes "layer" → b ≡ a ++ 32 ∷ decimal n → c ≡ b ++ 10 ∷ [] → c ≡ out ++ bytes_of (line_spelling (count_tokens (codes "layer")) n)
count_written out a b c n ea eb ec = rw (ec, eb, ea) (simp append_assoc refl)

-- the lines of a layer
pub layer_written : (w : ℕ) (cells out a b : List ℕ) → a ≡ out ++ bytes_of (line_spelling (count_tokens (codes "layer")) (rows_in w cells)) → b ≡ a ++ bytes_of (flat_map (line_spelling cells_spelling) (layer_rows w cells)) → b ≡ out ++ bytes_of (layer_lines w cells)
layer_written w cells out a b ea eb =
    let n = length-listed (rows_in w cells) (row_at w cells) in
    written out a b (line_spelling (count_tokens (codes "layer")) (length (layer_rows w cells))) (flat_map (line_spelling cells_spelling) (layer_rows w cells))
    (as_lines (line_spelling (count_tokens (codes "layer"))) (rows_in w cells) (length (layer_rows w cells)) out a (sym n) ea) eb

at_index : (xs : List (List ℕ)) (i : ℕ) (x : List ℕ) → i < length xs → x ≡ get_or xs i x → drop i xs ≡ x ∷ drop (i + 1) xs
at_index xs i x lt e = rw (add-one, drop-cons xs i x lt, ← e) refl

-- one layer more
pub layers_written : (w : ℕ) (layers : List (List ℕ)) (i : ℕ) (x cells out new total : List ℕ) → i < length layers → x ≡ get_or layers i x → cells ≡ x → new ≡ out ++ bytes_of (layer_lines w cells)
    → out ++ bytes_of (flat_map (layer_lines w) (drop i layers)) ≡ total → new ++ bytes_of (flat_map (layer_lines w) (drop (i + 1) layers)) ≡ total
layers_written w layers i x cells out new total lt at same n so_far =
    let rest = flat_map (layer_lines w) (drop (i + 1) layers) in
    let d : flat_map (layer_lines w) (drop i layers) ≡ layer_lines w x ++ rest = ap (flat_map (layer_lines w)) (at_index layers i x lt at) in
    let e : bytes_of (flat_map (layer_lines w) (drop i layers)) ≡ bytes_of (layer_lines w x) ++ bytes_of rest = ap bytes_of d ∙ bytes_both (layer_lines w x) rest in
    let h : new ≡ out ++ bytes_of (layer_lines w x) = n ∙ ap (λ (c : List ℕ). out ++ bytes_of (layer_lines w c)) same in
    ap (λ (y : List ℕ). y ++ bytes_of rest) h ∙ append_assoc out (bytes_of (layer_lines w x)) (bytes_of rest) ∙ ap (λ (y : List ℕ). out ++ y) (sym e) ∙ so_far

-- the first and the last line
pub head_written : (out a b c d : List ℕ) (w n : ℕ) → a ≡ out ++ codes "strip" → b ≡ a ++ 32 ∷ decimal w → c ≡ b ++ 32 ∷ decimal n → d ≡ c ++ 10 ∷ [] → d ≡ out ++ bytes_of (line_spelling head_tokens (w, n))
head_written out a b c d w n ea eb ec ed = rw (ed, ec, eb, ea) (simp append_assoc refl)

pub end_written : (out a b : List ℕ) → a ≡ out ++ codes "end" → b ≡ a ++ 10 ∷ [] → b ≡ out ++ bytes_of (line_spelling end_tokens tt)
end_written out a b ea eb = rw (eb, ea) (simp append_assoc refl)

-- all lines
pub strip_written : (l : Layers) (layers : List (List ℕ)) (out a b c : List ℕ) → layers ≡ l.layers → a ≡ out ++ bytes_of (line_spelling head_tokens (l.width, length layers)) → b ≡ a ++ bytes_of (flat_map (layer_lines l.width) layers) → c ≡ b ++ bytes_of (line_spelling end_tokens tt)
    → c ≡ out ++ bytes_of (strip_lines l)
strip_written l layers out a b c e ea eb ec =
    let front : b ≡ out ++ bytes_of (line_spelling head_tokens (l.width, length layers) ++ flat_map (layer_lines l.width) layers) =
    written out a b (line_spelling head_tokens (l.width, length layers)) (flat_map (layer_lines l.width) layers) ea eb in
    as_lines (λ (ls : List (List ℕ)). (line_spelling head_tokens (l.width, length ls) ++ flat_map (layer_lines l.width) ls) ++ line_spelling end_tokens tt) layers l.layers out c e
    (written out b c (line_spelling head_tokens (l.width, length layers) ++ flat_map (layer_lines l.width) layers) (line_spelling end_tokens tt) front ec)
