-- The names that the commands of a script bind are well formed.
use Rattle.std.proofs.Common.{◌≡◌, ℕ, zero, suc, ◌+◌, Bool, true, false, cond, List, [], ◌∷◌, length, Option, None, Some, Result, Ok, Err, refl, ap, subst, ◌∙◌}
use Rattle.std.specs.Prelude.{IfOk, IfSome, codes}
use Rattle.wt_line.specs.declared.faults.What.{What}
use Rattle.wt_text.specs.Words.{tokens}
use Rattle.wt_text.specs.Lines.{Line, lines}
use Rattle.wt_text.specs.Readers.{◌then◌, ◌>>=◌, LineFault, TextFault, syntax_at, line_read, line_at, one_line, seen_as, part_by, pair, judged, judge, whole, value_behind, both, after}
use Rattle.wt_text.proofs.Formats.{bind_some}
use Rattle.wt_text.proofs.Texts.{then_ok, ok_is, ok_pair}
use Rattle.wt_pattern.specs.TileRows.{tile_rows}
use Rattle.wt_pattern.specs.PatternRows.{pattern_rows}
use Rattle.wt_script.specs.declared.word.Word.{Word}
use Rattle.wt_script.specs.declared.word.Command.{Command}
use Rattle.wt_script.specs.declared.kinds.Kind.{Kind}
use Rattle.wt_script.specs.declared.kinds.Kind.TheVariants.{Tiles, Pattern, Valid, Period, Dominoes, Surround, Markers, Fuse, Same, Derive, Search, Cert, Check, Upgrade, Lighten, Expand, Image, Desub, Bound, Primitive, Seeds, Census, Draw, Json, Torus, Code, Induce}
use Rattle.wt_script.specs.Tokens.{is_name, name}
use Rattle.wt_script.specs.Raw.{raw_lines}
use Rattle.wt_script.specs.Forms.{Form, Part, tiles_form, pattern_form, names_form, derive_form, search_form, check_form, lighten_form, expand_form, desub_form, code_form, induce_form}
use Rattle.wt_script.specs.TorusText.{torus_form, regions_part}
use Rattle.wt_script.specs.Parts.{to_tiles, to_pattern, to_check, to_derive, to_search, to_upgrade, to_lighten, to_expand, to_desub, to_torus, to_code, to_induce, tiles_part, pattern_part, check_part, valid_part, cert_part, primitive_part, json_part, period_part, bound_part, dominoes_part, markers_part, surround_part, fuse_part, same_part, derive_part, search_part, upgrade_part, lighten_part, expand_part, image_part, desub_part, seeds_part, census_part, draw_part, torus_part, code_part, induce_part, kind_at, part_of}
use Rattle.wt_script.specs.Script.{is_skipped, command_at, piece_at, in_front, pieces, script}
use Rattle.wt_script.specs.Bound.{BindsName, AllBindNames}

abbrev pub IsNamed : List ℕ → Type 0
IsNamed n = is_name n ≡ true

-- what a line's form gives has a property
abbrev pub Tells : {A : Type 0} → (A → Type 0) → Form A → Type 0
Tells {A} P form = (ts : List (List ℕ)) (x : A) → form ts ≡ Ok x → P x

-- what some lines give has it
abbrev pub Gives : {A : Type 0} → (A → Type 0) → Part A → Type 0
Gives {A} P read = (p : ℕ × List Line) (x : A) (q : ℕ × List Line) → read p ≡ Ok (x, q) → P x

some_is : {A : Type 0} (x y : A) → ◌≡◌ {A = Option A} (Some x) (Some y) → x ≡ y
some_is x y e = cc

first_is : {A B : Type 0} (a : A) (b : B) (y : A × B) → ◌≡◌ {A = Option (A × B)} (Some (a, b)) (Some y) → a ≡ y.0
first_is {A} {B} a b y e = ap (λ (z : A × B). z.0) (some_is (a, b) y e)

named : (ts : List (List ℕ)) (r : Result (List ℕ) What × List (List ℕ)) → name ts ≡ Some r → IfOk r.0 IsNamed
named [] r e = absurd cc
named (t ∷ ts) r e = go (is_name t) refl e
  where
    here : Option (Result (List ℕ) What × List (List ℕ))
    here = Some (Ok t, ts)

    go : (b : Bool) → is_name t ≡ b → cond b here None ≡ Some r → IfOk r.0 IsNamed
    go true n e = subst (λ (y : Result (List ℕ) What × List (List ℕ)). IfOk y.0 IsNamed) (some_is (Ok t, ts) r e) n
    go false n e = absurd cc

module _ {A : Type 0} where
  no_more : (r : Result A What) (ts : List (List ℕ)) (x : A) → judged r ts ≡ Ok x → r ≡ Ok x
  no_more (Ok a) [] x e = ap (λ (y : A). Ok y) (ok_is a x e)
  no_more (Err w) [] x e = absurd cc
  no_more (Ok a) (t ∷ ts) x e = absurd cc
  no_more (Err w) (t ∷ ts) x e = absurd cc

  good : (r : Option (Result A What × List (List ℕ))) (x : A) → judge r ≡ Ok x → (y : Result A What × List (List ℕ)) × (r ≡ Some y) × (y.0 ≡ Ok x)
  good (Some y) x e = (y, refl, no_more y.0 y.1 x e)
  good None x e = absurd cc

  pair_named : (a : Result (List ℕ) What) (b : Result A What) (x : List ℕ × A) → pair a b ≡ Ok x → IfOk a IsNamed → IsNamed x.0
  pair_named (Ok a) (Ok b) x e n = subst (λ (y : List ℕ × A). IsNamed y.0) (ok_is (a, b) x e) n
  pair_named (Ok a) (Err w) x e n = absurd cc
  pair_named (Err w) (Ok b) x e n = absurd cc
  pair_named (Err w) (Err v) x e n = absurd cc

-- a form that begins with a name
module _ {A : Type 0} (w : List ℕ) (others : List (List ℕ) → Option (Result A What × List (List ℕ))) where
  pub first_named : Tells (λ (x : List ℕ × A). IsNamed x.0) (whole (value_behind w (both name others)))
  unfolding whole value_behind both
  first_named ts x e =
      let r = good (value_behind w (both name others) ts) x e in
      let t = bind_some (after w ts) (both name others) r.0 r.1 in
      let a = bind_some (name t.0) (λ a. others a.1 >>= λ b. Some (pair a.0 b.0, b.1)) r.0 t.2 in
      let b = bind_some (others a.0.1) (λ b. Some (pair a.0.0 b.0, b.1)) r.0 a.2 in
      pair_named a.0.0 b.0.0 x (first_is (pair a.0.0 b.0.0) b.0.1 r.0 b.2 ∙ r.2) (named t.0 a.0 a.1)

module _ {A : Type 0} (P : A → Type 0) (form : Form A) where
  read_ok : (n : ℕ) (ls : List Line) (r : Result A (LineFault What)) (x : A) (q : ℕ × List Line) → line_read n ls r ≡ Ok (x, q) → r ≡ Ok x
  read_ok n ls (Ok a) x q e = ap (λ (y : A). Ok y) (ok_pair a x (n + 1, ls) q e).0
  read_ok n ls (Err w) x q e = absurd cc

  ended_ok : (b : Bool) (n : ℕ) (ls : List Line) (r : Result A (LineFault What)) (x : A) (q : ℕ × List Line) → cond b (line_read n ls r) (Err (syntax_at n)) ≡ Ok (x, q) → r ≡ Ok x
  ended_ok true n ls r x q e = read_ok n ls r x q e
  ended_ok false n ls r x q e = absurd cc

  line_gives : Tells P form → (n : ℕ) (ls : List Line) (x : A) (q : ℕ × List Line) → line_at form n ls ≡ Ok (x, q) → P x
  line_gives tells n [] x q e = absurd cc
  line_gives tells n (l ∷ ls) x q e = tells (tokens l.text) x (ended_ok l.ended n ls (form (tokens l.text)) x q e)

  pub one_gives : Tells P form → Gives P (one_line form)
  unfolding one_line
  one_gives tells p x q e = line_gives tells p.0 p.1 x q e

pub seen_gives : {A B : Type 0} (P : B → Type 0) (to : A → B) (read : Part A) → Gives (λ x. P (to x)) read → Gives P (seen_as to read)
unfolding seen_as
seen_gives P to read gives p x q e =
    let f = then_ok (read p) (λ y. Ok (to y.0, y.1)) (x, q) e in
    let g = ok_pair (to f.0.0) x f.0.1 q f.2 in
    subst P g.0 (gives p f.0.0 f.0.1 f.1)

pub by_gives : {A B : Type 0} (P : A → Type 0) (ra : Part A) (rb : A → Part B) → Gives P ra → Gives (λ (x : A × B). P x.0) (part_by ra rb)
unfolding part_by
by_gives {A} {B} P ra rb gives p x q e =
    let f = then_ok (ra p) (λ a. rb a.0 a.1 then λ b. Ok ((a.0, b.0), b.1)) (x, q) e in
    let g = then_ok (rb f.0.0 f.0.1) (λ b. Ok ((f.0.0, b.0), b.1)) (x, q) f.2 in
    let same = ok_pair (f.0.0, g.0.0) x g.0.1 q g.2 in
    subst (λ (y : A × B). P y.0) same.0 (gives p f.0.0 f.0.1 f.1)

-- a command whose first line begins with the name that it binds, behind its word
module _ {A : Type 0} (to : List ℕ × A → Word) (form : Form (List ℕ × A)) (tells : Tells (λ (x : List ℕ × A). IsNamed x.0) form) where
  pub line_binds : ((x : List ℕ × A) → IsNamed x.0 → BindsName (to x)) → Gives BindsName (seen_as to (one_line form))
  line_binds binds = seen_gives BindsName to (one_line form) (λ p x q e. binds x (one_gives (λ (x : List ℕ × A). IsNamed x.0) form tells p x q e))

pub command_binds : (kind : Option Kind) → Gives BindsName (part_of kind)
unfolding tiles_part pattern_part check_part valid_part cert_part primitive_part json_part period_part bound_part dominoes_part markers_part surround_part fuse_part same_part derive_part search_part upgrade_part lighten_part expand_part image_part desub_part seeds_part census_part draw_part torus_part code_part induce_part tiles_form pattern_form names_form derive_form search_form check_form lighten_form expand_form desub_form code_form induce_form torus_form
command_binds None p x q e = absurd cc
command_binds (Some Tiles) p x q e = seen_gives BindsName to_tiles _ (by_gives (λ head. IsNamed head.0) (one_line tiles_form) (λ head. tile_rows head.1) (one_gives (λ head. IsNamed head.0) tiles_form (first_named (codes "tiles") _))) p x q e
command_binds (Some Pattern) p x q e = seen_gives BindsName to_pattern _ (by_gives (λ head. IsNamed head.0) (one_line pattern_form) (λ head. pattern_rows head.1.1.0 head.1.1.1) (one_gives (λ head. IsNamed head.0) pattern_form (first_named (codes "pattern") _))) p x q e
command_binds (Some Check) p x q e = seen_gives BindsName to_check _ (by_gives (λ head. IsNamed head.0) (one_line check_form) (λ head. raw_lines head.1) (one_gives (λ head. IsNamed head.0) check_form (first_named (codes "check") _))) p x q e
command_binds (Some Torus) p x q e = seen_gives BindsName to_torus _ (by_gives (λ head. IsNamed head.0) (one_line torus_form) (λ head. regions_part head.1.1) (one_gives (λ head. IsNamed head.0) torus_form (first_named (codes "torus") _))) p x q e
command_binds (Some Derive) p x q e = line_binds to_derive derive_form (first_named (codes "derive") _) (λ x n. n) p x q e
command_binds (Some Search) p x q e = line_binds to_search search_form (first_named (codes "search") _) (λ x n. n) p x q e
command_binds (Some Upgrade) p x q e = line_binds to_upgrade (names_form (codes "upgrade")) (first_named (codes "upgrade") _) (λ x n. n) p x q e
command_binds (Some Lighten) p x q e = line_binds to_lighten lighten_form (first_named (codes "lighten") _) (λ x n. n) p x q e
command_binds (Some Expand) p x q e = line_binds to_expand expand_form (first_named (codes "expand") _) (λ x n. n) p x q e
command_binds (Some Desub) p x q e = line_binds to_desub desub_form (first_named (codes "desub") _) (λ x n. n) p x q e
command_binds (Some Code) p x q e = line_binds to_code code_form (first_named (codes "code") _) (λ x n. n) p x q e
command_binds (Some Induce) p x q e = line_binds to_induce induce_form (first_named (codes "induce") _) (λ x n. n) p x q e
command_binds (Some Valid) p x q e = seen_gives BindsName _ _ (λ p x q e. tt) p x q e
command_binds (Some Period) p x q e = seen_gives BindsName _ _ (λ p x q e. tt) p x q e
command_binds (Some Dominoes) p x q e = seen_gives BindsName _ _ (λ p x q e. tt) p x q e
command_binds (Some Surround) p x q e = seen_gives BindsName _ _ (λ p x q e. tt) p x q e
command_binds (Some Markers) p x q e = seen_gives BindsName _ _ (λ p x q e. tt) p x q e
command_binds (Some Fuse) p x q e = seen_gives BindsName _ _ (λ p x q e. tt) p x q e
command_binds (Some Same) p x q e = seen_gives BindsName _ _ (λ p x q e. tt) p x q e
command_binds (Some Cert) p x q e = seen_gives BindsName _ _ (λ p x q e. tt) p x q e
command_binds (Some Image) p x q e = seen_gives BindsName _ _ (λ p x q e. tt) p x q e
command_binds (Some Bound) p x q e = seen_gives BindsName _ _ (λ p x q e. tt) p x q e
command_binds (Some Primitive) p x q e = seen_gives BindsName _ _ (λ p x q e. tt) p x q e
command_binds (Some Seeds) p x q e = seen_gives BindsName _ _ (λ p x q e. tt) p x q e
command_binds (Some Census) p x q e = seen_gives BindsName _ _ (λ p x q e. tt) p x q e
command_binds (Some Draw) p x q e = seen_gives BindsName _ _ (λ p x q e. tt) p x q e
command_binds (Some Json) p x q e = seen_gives BindsName _ _ (λ p x q e. tt) p x q e

-- the command of a piece binds such a name, if the piece is one
abbrev pub PieceBinds : Option Command → Type 0
PieceBinds x = IfSome x (λ c. BindsName c.word)

piece_binds : (n : ℕ) (ls : List Line) (x : Option Command) (q : ℕ × List Line) → piece_at n ls ≡ Ok (x, q) → PieceBinds x
piece_binds n [] x q e = absurd cc
piece_binds n (l ∷ ls) x q e = go (is_skipped l) e
  where
    here : Result (Option Command × (ℕ × List Line)) (TextFault What)
    here = Ok (None, (n + 1, ls))

    there : Result (Option Command × (ℕ × List Line)) (TextFault What)
    there = part_of (kind_at (l ∷ ls)) (n, l ∷ ls) then command_at n

    go : (b : Bool) → cond b here there ≡ Ok (x, q) → PieceBinds x
    go true e = let g = ok_pair None x (n + 1, ls) q e in subst PieceBinds g.0 tt
    go false e =
        let f = then_ok (part_of (kind_at (l ∷ ls)) (n, l ∷ ls)) (command_at n) (x, q) e in
        let same = ok_pair (Some (record { line = n; word = f.0.0 })) x f.0.1 q f.2 in
        subst PieceBinds same.0 (command_binds (kind_at (l ∷ ls)) (n, l ∷ ls) f.0.0 f.0.1 f.1)

in_front_binds : (x : Option Command) (cs : List Command) → PieceBinds x → AllBindNames cs → AllBindNames (in_front x cs)
in_front_binds None cs b all = all
in_front_binds (Some c) cs b all = (b, all)

pieces_bind : (most n : ℕ) (ls : List Line) (cs : List Command) → pieces most n ls ≡ Ok cs → AllBindNames cs
pieces_bind zero n [] cs e = subst AllBindNames (ok_is [] cs e) tt
pieces_bind (suc most) n [] cs e = subst AllBindNames (ok_is [] cs e) tt
pieces_bind zero n (l ∷ ls) cs e = absurd cc
pieces_bind (suc most) n (l ∷ ls) cs e =
    let f = then_ok (piece_at n (l ∷ ls)) (λ x. pieces most x.1.0 x.1.1 then λ more. Ok (in_front x.0 more)) cs e in
    let g = then_ok (pieces most f.0.1.0 f.0.1.1) (λ more. Ok (in_front f.0.0 more)) cs f.2 in
    let all = in_front_binds f.0.0 g.0 (piece_binds n (l ∷ ls) f.0.0 f.0.1 f.1) (pieces_bind most f.0.1.0 f.0.1.1 g.0 g.1) in
    subst AllBindNames (ok_is (in_front f.0.0 g.0) cs g.2) all

pub script_binds : (bytes : List ℕ) (cs : List Command) → script bytes ≡ Ok cs → AllBindNames cs
script_binds bytes cs e = pieces_bind (length (lines bytes)) 1 (lines bytes) cs e
