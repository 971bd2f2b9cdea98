-- A reader that takes lines leaves fewer of them.
use Rattle.std.proofs.Common.{arith, ◌≡◌, ℕ, zero, suc, ◌+◌, ◌<◌, ◌≤◌, Bool, true, false, cond, List, [], ◌∷◌, ◌++◌, length, Option, None, Some, Result, Ok, Err, sym, ap}
use Rattle.wt_line.specs.declared.faults.What.{What}
use Rattle.wt_text.specs.Words.{tokens}
use Rattle.wt_text.specs.Lines.{Line}
use Rattle.wt_text.specs.Readers.{◌then◌, LineFault, TextFault, syntax_at, line_read, line_at, one_line, many_parts, seen_as, part_by}
use Rattle.wt_text.proofs.Texts.{then_ok, ok_pair}
use Rattle.wt_pattern.specs.TileRows.{no_state, rows_list, row_part, tile_rows}
use Rattle.wt_pattern.specs.PatternRows.{cells_form, rows_grid, pattern_rows}
use Rattle.wt_script.specs.declared.word.Command.{Command}
use Rattle.wt_script.specs.declared.kinds.Kind.{Kind}
use Rattle.wt_script.specs.declared.kinds.Kind.TheVariants.{Tiles, Pattern, Valid, Period, Dominoes, Surround, Markers, Fuse, Same, Derive, Search, Cert, Check, Upgrade, Lighten, Expand, Image, Desub, Bound, Primitive, Seeds, Census, Draw, Json, Torus, Code, Induce}
use Rattle.wt_script.specs.Raw.{raw_from, raw_lines}
use Rattle.wt_script.specs.Forms.{Part, tiles_form, pattern_form, check_form}
use Rattle.wt_script.specs.TorusText.{plane_form, plane_part, planes_part, region_form, to_region, region_part, torus_form, regions_part}
use Rattle.wt_script.specs.Parts.{to_tiles, to_pattern, to_check, tiles_part, pattern_part, check_part, valid_part, cert_part, primitive_part, json_part, period_part, bound_part, dominoes_part, markers_part, surround_part, fuse_part, same_part, derive_part, search_part, upgrade_part, lighten_part, expand_part, image_part, desub_part, seeds_part, census_part, draw_part, to_torus, torus_part, code_part, induce_part, kind_at, part_of}
use Rattle.wt_script.specs.Script.{is_skipped, command_at, piece_at}

abbrev pub Keeps : {A : Type 0} → Part A → Type 0
Keeps {A} read = (p : ℕ × List Line) (x : A) (q : ℕ × List Line) → read p ≡ Ok (x, q) → length q.1 ≤ length p.1

abbrev pub Takes : {A : Type 0} → Part A → Type 0
Takes {A} read = (p : ℕ × List Line) (x : A) (q : ℕ × List Line) → read p ≡ Ok (x, q) → length q.1 < length p.1

module _ {A : Type 0} (form : List (List ℕ) → Result A (LineFault What)) where
  read_one : (n : ℕ) (ls : List Line) (r : Result A (LineFault What)) (x : A) (q : ℕ × List Line) → line_read n ls r ≡ Ok (x, q) → ls ≡ q.1
  read_one n ls (Ok a) x q e = ap (λ (y : ℕ × List Line). y.1) (ok_pair a x (n + 1, ls) q e).1
  read_one n ls (Err w) x q e = absurd cc

  ended : (b : Bool) (n : ℕ) (ls : List Line) (r : Result A (LineFault What)) (x : A) (q : ℕ × List Line) → cond b (line_read n ls r) (Err (syntax_at n)) ≡ Ok (x, q) → ls ≡ q.1
  ended true n ls r x q e = read_one n ls r x q e
  ended false n ls r x q e = absurd cc

  one_at : (n : ℕ) (ls : List Line) (x : A) (q : ℕ × List Line) → line_at form n ls ≡ Ok (x, q) → length q.1 < length ls
  one_at n [] x q e = absurd cc
  one_at n (l ∷ ls) x q e = let h = ended l.ended n ls (form (tokens l.text)) x q e in rw (sym h) (omega arith)

  pub one_takes : Takes (one_line form)
  unfolding one_line
  one_takes p x q e = one_at p.0 p.1 x q e

pub less : {A : Type 0} {read : Part A} → Takes read → Keeps read
less takes p x q e = let h = takes p x q e in omega (arith, h)

pub seen_takes : {A B : Type 0} (to : A → B) (read : Part A) → Takes read → Takes (seen_as to read)
unfolding seen_as
seen_takes to read takes p x q e =
    let f = then_ok (read p) (λ y. Ok (to y.0, y.1)) (x, q) e in
    let g = ok_pair (to f.0.0) x f.0.1 q f.2 in
    let h = takes p f.0.0 f.0.1 f.1 in
    rw (sym g.1) h

pub seen_keeps : {A B : Type 0} (to : A → B) (read : Part A) → Keeps read → Keeps (seen_as to read)
unfolding seen_as
seen_keeps to read keeps p x q e =
    let f = then_ok (read p) (λ y. Ok (to y.0, y.1)) (x, q) e in
    let g = ok_pair (to f.0.0) x f.0.1 q f.2 in
    let h = keeps p f.0.0 f.0.1 f.1 in
    rw (sym g.1) h

pub by_takes : {A B : Type 0} (ra : Part A) (rb : A → Part B) → Takes ra → ((a : A) → Keeps (rb a)) → Takes (part_by ra rb)
unfolding part_by
by_takes ra rb takes keeps p x q e =
    let f = then_ok (ra p) (λ a. rb a.0 a.1 then λ b. Ok ((a.0, b.0), b.1)) (x, q) e in
    let g = then_ok (rb f.0.0 f.0.1) (λ b. Ok ((f.0.0, b.0), b.1)) (x, q) f.2 in
    let same = ok_pair (f.0.0, g.0.0) x g.0.1 q g.2 in
    let h = takes p f.0.0 f.0.1 f.1 in
    let k = keeps f.0.0 f.0.1 g.0.0 g.0.1 g.1 in
    rw (sym same.1) (omega (arith, h, k))

module _ {A S : Type 0} (read : S → Part A) (next : S → A → S) (keeps : (s : S) → Keeps (read s)) where
  pub many_keeps : (s : S) (n : ℕ) → Keeps (many_parts read next s n)
  many_keeps s zero p x q e = let g = ok_pair [] x p q e in rw (sym g.1) (omega arith)
  many_keeps s (suc n) p x q e =
      let f = then_ok (read s p) (λ a. many_parts read next (next s a.0) n a.1 then λ as'. Ok (a.0 ∷ as'.0, as'.1)) (x, q) e in
      let g = then_ok (many_parts read next (next s f.0.0) n f.0.1) (λ as'. Ok (f.0.0 ∷ as'.0, as'.1)) (x, q) f.2 in
      let same = ok_pair (f.0.0 ∷ g.0.0) x g.0.1 q g.2 in
      let h = keeps s p f.0.0 f.0.1 f.1 in
      let k = many_keeps (next s f.0.0) n f.0.1 g.0.0 g.0.1 g.1 in
      rw (sym same.1) (omega (arith, h, k))

rows_keep : (n : ℕ) → Keeps (tile_rows n)
rows_keep n = seen_keeps rows_list _ (many_keeps (λ s. row_part) no_state (λ s. less (seen_takes _ _ (one_takes _))) 0 n)

grid_keeps : (w h : ℕ) → Keeps (pattern_rows w h)
grid_keeps w h = seen_keeps (rows_grid w h) _ (many_keeps (λ s. one_line (cells_form w)) no_state (λ s. less (one_takes (cells_form w))) 0 h)

raw_keep : (k n : ℕ) (ls : List Line) (x : List ℕ) (q : ℕ × List Line) → raw_from k n ls ≡ Ok (x, q) → length q.1 ≤ length ls
raw_keep zero n ls x q e = let g = ok_pair [] x (n, ls) q e in rw (sym g.1) (omega arith)
raw_keep (suc k) n [] x q e = absurd cc
raw_keep (suc k) n (l ∷ ls) x q e = go l.ended e (raw_keep k (n + 1) ls)
  where
    again : Result (List ℕ × (ℕ × List Line)) (TextFault What)
    again = raw_from k (n + 1) ls then λ y. Ok (l.text ++ 10 ∷ y.0, y.1)

    go : (b : Bool) → cond b again (Err (syntax_at n)) ≡ Ok (x, q) → ((y : List ℕ) (r : ℕ × List Line) → raw_from k (n + 1) ls ≡ Ok (y, r) → length r.1 ≤ length ls) → length q.1 ≤ suc (length ls)
    go false e h = absurd cc
    go true e h =
        let f = then_ok (raw_from k (n + 1) ls) (λ y. Ok (l.text ++ 10 ∷ y.0, y.1)) (x, q) e in
        let same = ok_pair (l.text ++ 10 ∷ f.0.0) x f.0.1 q f.2 in
        let i = h f.0.0 f.0.1 f.1 in
        rw (sym same.1) (omega (arith, i))

raw_keeps : (k : ℕ) → Keeps (raw_lines k)
unfolding raw_lines
raw_keeps k p x q e = raw_keep k p.0 p.1 x q e

planes_keep : (n : ℕ) → Keeps (planes_part n)
planes_keep n = many_keeps (λ s. plane_part) no_state (λ s. less (seen_takes _ _ (one_takes plane_form))) 0 n

region_takes : Takes region_part
unfolding region_part
region_takes = seen_takes to_region _ (by_takes (one_line region_form) (λ head. planes_part head.1) (one_takes region_form) (λ head. planes_keep head.1))

regions_keep : (n : ℕ) → Keeps (regions_part n)
regions_keep n = many_keeps (λ s. region_part) no_state (λ s. less region_takes) 0 n

pub command_takes : (kind : Option Kind) → Takes (part_of kind)
unfolding tiles_part pattern_part check_part valid_part cert_part primitive_part json_part period_part bound_part dominoes_part markers_part surround_part fuse_part same_part derive_part search_part upgrade_part lighten_part expand_part image_part desub_part seeds_part census_part draw_part torus_part code_part induce_part
command_takes None p x q e = absurd cc
command_takes (Some Tiles) p x q e = seen_takes to_tiles _ (by_takes (one_line tiles_form) (λ head. tile_rows head.1) (one_takes tiles_form) (λ head. rows_keep head.1)) p x q e
command_takes (Some Pattern) p x q e = seen_takes to_pattern _ (by_takes (one_line pattern_form) (λ head. pattern_rows head.1.1.0 head.1.1.1) (one_takes pattern_form) (λ head. grid_keeps head.1.1.0 head.1.1.1)) p x q e
command_takes (Some Check) p x q e = seen_takes to_check _ (by_takes (one_line check_form) (λ head. raw_lines head.1) (one_takes check_form) (λ head. raw_keeps head.1)) p x q e
command_takes (Some Valid) p x q e = seen_takes _ _ (one_takes _) p x q e
command_takes (Some Period) p x q e = seen_takes _ _ (one_takes _) p x q e
command_takes (Some Dominoes) p x q e = seen_takes _ _ (one_takes _) p x q e
command_takes (Some Surround) p x q e = seen_takes _ _ (one_takes _) p x q e
command_takes (Some Markers) p x q e = seen_takes _ _ (one_takes _) p x q e
command_takes (Some Fuse) p x q e = seen_takes _ _ (one_takes _) p x q e
command_takes (Some Same) p x q e = seen_takes _ _ (one_takes _) p x q e
command_takes (Some Derive) p x q e = seen_takes _ _ (one_takes _) p x q e
command_takes (Some Search) p x q e = seen_takes _ _ (one_takes _) p x q e
command_takes (Some Cert) p x q e = seen_takes _ _ (one_takes _) p x q e
command_takes (Some Upgrade) p x q e = seen_takes _ _ (one_takes _) p x q e
command_takes (Some Lighten) p x q e = seen_takes _ _ (one_takes _) p x q e
command_takes (Some Expand) p x q e = seen_takes _ _ (one_takes _) p x q e
command_takes (Some Image) p x q e = seen_takes _ _ (one_takes _) p x q e
command_takes (Some Desub) p x q e = seen_takes _ _ (one_takes _) p x q e
command_takes (Some Bound) p x q e = seen_takes _ _ (one_takes _) p x q e
command_takes (Some Primitive) p x q e = seen_takes _ _ (one_takes _) p x q e
command_takes (Some Seeds) p x q e = seen_takes _ _ (one_takes _) p x q e
command_takes (Some Census) p x q e = seen_takes _ _ (one_takes _) p x q e
command_takes (Some Draw) p x q e = seen_takes _ _ (one_takes _) p x q e
command_takes (Some Json) p x q e = seen_takes _ _ (one_takes _) p x q e
command_takes (Some Torus) p x q e = seen_takes to_torus _ (by_takes (one_line torus_form) (λ head. regions_part head.1.1) (one_takes torus_form) (λ head. regions_keep head.1.1)) p x q e
command_takes (Some Code) p x q e = seen_takes _ _ (one_takes _) p x q e
command_takes (Some Induce) p x q e = seen_takes _ _ (one_takes _) p x q e

-- a piece takes a line or more
pub piece_takes : (n : ℕ) (ls : List Line) (x : Option Command) (q : ℕ × List Line) → piece_at n ls ≡ Ok (x, q) → length q.1 < length ls
piece_takes n [] x q e = absurd cc
piece_takes n (l ∷ ls) x q e = go (is_skipped l) e
  where
    here : Result (Option Command × (ℕ × List Line)) (TextFault What)
    here = Ok (None, (n + 1, ls))

    there : Result (Option Command × (ℕ × List Line)) (TextFault What)
    there = part_of (kind_at (l ∷ ls)) (n, l ∷ ls) then command_at n

    go : (b : Bool) → cond b here there ≡ Ok (x, q) → length q.1 < suc (length ls)
    go true e = let g = ok_pair None x (n + 1, ls) q e in rw (sym g.1) (omega arith)
    go false e =
        let f = then_ok (part_of (kind_at (l ∷ ls)) (n, l ∷ ls)) (command_at n) (x, q) e in
        let same = ok_pair (Some (record { line = n; word = f.0.0 })) x f.0.1 q f.2 in
        let h = command_takes (kind_at (l ∷ ls)) (n, l ∷ ls) f.0.0 f.0.1 f.1 in
        rw (sym same.1) h
