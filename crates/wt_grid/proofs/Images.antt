-- The image of coarse lines that match is a field of fine lines.
use Rattle.std.proofs.Common.{◌≡◌, ◌<◌, ◌++◌, ℕ, List, [], ◌∷◌, length, Bool, true, false, Some, slice_get, refl, sym, ap, subst, ◌∙◌, inl, inr}
use Rattle.wt_grid.specs.declared.image.Image.TheVariants.{One as Single, Two as Double}
use Rattle.wt_grid.specs.declared.image.Image.{Image}
use Rattle.std.proofs.lemmas.Option.{slice_get-get_or}
use Rattle.wt_grid.specs.Lines.{IsAcross, IsBeside, IsField, Singles, Pairs, IsImage}
use Rattle.wt_grid.specs.Images.{piece_at, first_tile, last_tile, is_pair, firsts, lasts, is_double, line_image, image_lines, IsEvenLine, IsEven, LineBelow, LinesBelow}
use Rattle.wt_grid.proofs.Coarse.{MatchAcross}

-- the piece of a tile that has one
stands : (im : List Image) (i : ℕ) → i < length im → slice_get im i ≡ Some (piece_at im i)
stands im i lt = slice_get-get_or im i (Single 0) lt

is_one : (p : Image) → is_pair p ≡ false → p ≡ Single (first_tile p)
is_one (Single a) e = refl
is_one (Double a b) e = absurd cc

is_two : (p : Image) → is_pair p ≡ true → p ≡ Double (first_tile p) (last_tile p)
is_two (Single a) e = absurd cc
is_two (Double a b) e = refl

-- Even lines have an image.

singles_of : (im : List Image) (q : List ℕ) → LineBelow (length im) q → IsEvenLine im false q → Singles im q (firsts im q)
singles_of im [] b e = tt
singles_of im (i ∷ is) b e = (stands im i b.0 ∙ ap Some (is_one (piece_at im i) e.0), singles_of im is b.1 e.1)

pairs_of : (im : List Image) (q : List ℕ) → LineBelow (length im) q → IsEvenLine im true q → Pairs im q (firsts im q) (lasts im q)
pairs_of im [] b e = tt
pairs_of im (i ∷ is) b e = (stands im i b.0 ∙ ap Some (is_two (piece_at im i) e.0), pairs_of im is b.1 e.1)

one_before : (im : List Image) (q : List ℕ) (qs : List (List ℕ)) (u : List ℕ) (ls : List (List ℕ)) → Singles im q u → IsImage im qs ls → IsImage im (q ∷ qs) (u ∷ ls)
one_before im q qs u [] s i = (s, i)
one_before im q qs u (v ∷ ls) s i = inl (s, i)

image_of_line : (im : List Image) (q : List ℕ) (qs ls : List (List ℕ)) (b : Bool) → is_double im q ≡ b → LineBelow (length im) q → IsEvenLine im b q → IsImage im qs ls
    → IsImage im (q ∷ qs) (line_image im q ++ ls)
image_of_line im q qs ls true e b h i = rw e (inr (pairs_of im q b h, i))
image_of_line im q qs ls false e b h i = rw e (one_before im q qs (firsts im q) ls (singles_of im q b h) i)

pub even_image : (im : List Image) (qs : List (List ℕ)) → LinesBelow (length im) qs → IsEven im qs → IsImage im qs (image_lines im qs)
even_image im [] b e = tt
even_image im (q ∷ qs) b e = image_of_line im q qs (image_lines im qs) (is_double im q) refl b.0 e.0 (even_image im qs b.1 e.1)

-- The lines of an image fit together where their coarse lines do.

one_length : (f : ℕ → ℕ → Bool) (p r : Image) → MatchAcross f p r → is_pair r ≡ is_pair p
one_length f (Single a) (Single b) m = refl
one_length f (Single a) (Double c d) m = absurd m
one_length f (Double a b) (Single c) m = absurd m
one_length f (Double a b) (Double c d) m = refl

first_matches : (f : ℕ → ℕ → Bool) (p r : Image) → MatchAcross f p r → f (first_tile p) (first_tile r) ≡ true
first_matches f (Single a) (Single b) m = m
first_matches f (Single a) (Double c d) m = absurd m
first_matches f (Double a b) (Single c) m = absurd m
first_matches f (Double a b) (Double c d) m = m.0

last_matches : (f : ℕ → ℕ → Bool) (p r : Image) → MatchAcross f p r → f (last_tile p) (last_tile r) ≡ true
last_matches f (Single a) (Single b) m = m
last_matches f (Single a) (Double c d) m = absurd m
last_matches f (Double a b) (Single c) m = absurd m
last_matches f (Double a b) (Double c d) m = m.1

module _ (im : List Image) (m1 m2 c1 c2 : ℕ → ℕ → Bool)
    (joined : (i j : ℕ) → i < length im → j < length im → c1 i j ≡ true → m1 (last_tile (piece_at im i)) (first_tile (piece_at im j)) ≡ true)
    (stacked : (i j : ℕ) → i < length im → j < length im → c2 i j ≡ true → MatchAcross m2 (piece_at im i) (piece_at im j))
    (blocks : (i : ℕ) → i < length im → is_pair (piece_at im i) ≡ true → m1 (first_tile (piece_at im i)) (last_tile (piece_at im i)) ≡ true) where
  even_from : (i : ℕ) (is : List ℕ) (b : Bool) → is_pair (piece_at im i) ≡ b → LineBelow (length im) (i ∷ is) → IsAcross c2 (i ∷ is) → IsEvenLine im b (i ∷ is)
  even_from i [] b e l h = (e, tt)
  even_from i (j ∷ js) b e l h = (e, even_from j js b (one_length m2 (piece_at im i) (piece_at im j) (stacked i j l.0 l.1.0 h.0) ∙ e) l.1 h.1)

  pub even_line : (q : List ℕ) → LineBelow (length im) q → IsAcross c2 q → IsEvenLine im (is_double im q) q
  even_line [] l h = tt
  even_line (i ∷ is) l h = even_from i is (is_pair (piece_at im i)) refl l h

  firsts_across : (q : List ℕ) → LineBelow (length im) q → IsAcross c2 q → IsAcross m2 (firsts im q)
  firsts_across [] l h = tt
  firsts_across (i ∷ []) l h = tt
  firsts_across (i ∷ j ∷ is) l h = (first_matches m2 (piece_at im i) (piece_at im j) (stacked i j l.0 l.1.0 h.0), firsts_across (j ∷ is) l.1 h.1)

  lasts_across : (q : List ℕ) → LineBelow (length im) q → IsAcross c2 q → IsAcross m2 (lasts im q)
  lasts_across [] l h = tt
  lasts_across (i ∷ []) l h = tt
  lasts_across (i ∷ j ∷ is) l h = (last_matches m2 (piece_at im i) (piece_at im j) (stacked i j l.0 l.1.0 h.0), lasts_across (j ∷ is) l.1 h.1)

  inside : (q : List ℕ) → LineBelow (length im) q → IsEvenLine im true q → IsBeside m1 (firsts im q) (lasts im q)
  inside [] l e = tt
  inside (i ∷ is) l e = (blocks i l.0 e.0, inside is l.1 e.1)

  between : (q r : List ℕ) → LineBelow (length im) q → LineBelow (length im) r → IsBeside c1 q r → IsBeside m1 (lasts im q) (firsts im r)
  between [] [] l k h = tt
  between [] (j ∷ js) l k h = absurd h
  between (i ∷ is) [] l k h = absurd h
  between (i ∷ is) (j ∷ js) l k h = (joined i j l.0 k.0 h.0, between is js l.1 k.1 h.1)

  single_last : (p : Image) → is_pair p ≡ false → last_tile p ≡ first_tile p
  single_last (Single a) e = refl
  single_last (Double a b) e = absurd cc

  single_lasts : (q : List ℕ) → IsEvenLine im false q → lasts im q ≡ firsts im q
  single_lasts [] e = refl
  single_lasts (i ∷ is) e = let a = single_last (piece_at im i) e.0 in let r = single_lasts is e.1 in cc

  -- an image begins with the first tiles of its first line
  begin_of : (q : List ℕ) (ls : List (List ℕ)) (b : Bool) → is_double im q ≡ b → (tail : List (List ℕ)) × (line_image im q ++ ls ≡ firsts im q ∷ tail)
  begin_of q ls true e = (lasts im q ∷ ls, rw e refl)
  begin_of q ls false e = (ls, rw e refl)

  behind : (u v : List ℕ) (ls tail : List (List ℕ)) → ls ≡ v ∷ tail → IsAcross m2 u → IsBeside m1 u v → IsField m1 m2 ls → IsField m1 m2 (u ∷ ls)
  behind u v ls tail e a b f =
      let g : IsField m1 m2 (v ∷ tail) = subst (λ (ms : List (List ℕ)). IsField m1 m2 ms) e f in
      subst (λ (ms : List (List ℕ)). IsField m1 m2 (u ∷ ms)) (sym e) (a, b, g)

  -- one line before the image of others
  before_image : (u : List ℕ) (qs : List (List ℕ)) → IsAcross m2 u → ((q : List ℕ) (rest : List (List ℕ)) → qs ≡ q ∷ rest → IsBeside m1 u (firsts im q)) → IsField m1 m2 (image_lines im qs) → IsField m1 m2 (u ∷ image_lines im qs)
  before_image u [] a b f = a
  before_image u (q ∷ qs) a b f =
      let e = begin_of q (image_lines im qs) (is_double im q) refl in
      behind u (firsts im q) (image_lines im (q ∷ qs)) e.0 e.1 a (b q qs refl) f

  line_of_field : (q : List ℕ) (qs : List (List ℕ)) → IsField c1 c2 (q ∷ qs) → IsAcross c2 q
  line_of_field q [] f = f
  line_of_field q (r ∷ rs) f = f.0

  next_of_field : (q : List ℕ) (qs : List (List ℕ)) → IsField c1 c2 (q ∷ qs) → (r : List ℕ) (rest : List (List ℕ)) → qs ≡ r ∷ rest → IsBeside c1 q r
  next_of_field q [] f r rest e = absurd cc
  next_of_field q (s ∷ ss) f r rest e = let same : s ≡ r = cc in rw (sym same) f.1

  rest_of_field : (q : List ℕ) (qs : List (List ℕ)) → IsField c1 c2 (q ∷ qs) → IsField c1 c2 qs
  rest_of_field q [] f = tt
  rest_of_field q (r ∷ rs) f = f.2

  first_below : (qs : List (List ℕ)) → LinesBelow (length im) qs → (r : List ℕ) (rest : List (List ℕ)) → qs ≡ r ∷ rest → LineBelow (length im) r
  first_below [] l r rest e = absurd cc
  first_below (s ∷ ss) l r rest e = let same : s ≡ r = cc in rw (sym same) l.0

  one_more : (q : List ℕ) (qs : List (List ℕ)) (b : Bool) → is_double im q ≡ b → IsEvenLine im b q → LineBelow (length im) q → LinesBelow (length im) qs → IsField c1 c2 (q ∷ qs)
      → IsField m1 m2 (image_lines im qs) → IsField m1 m2 (line_image im q ++ image_lines im qs)
  one_more q qs true e h l k f r =
      rw e (behind (firsts im q) (lasts im q) (lasts im q ∷ image_lines im qs) (image_lines im qs) refl (firsts_across q l (line_of_field q qs f)) (inside q l h)
      (before_image (lasts im q) qs (lasts_across q l (line_of_field q qs f)) (λ s rest e'. between q s l (first_below qs k s rest e') (next_of_field q qs f s rest e')) r))
  one_more q qs false e h l k f r =
      rw e (before_image (firsts im q) qs (firsts_across q l (line_of_field q qs f))
      (λ s rest e'. let t = between q s l (first_below qs k s rest e') (next_of_field q qs f s rest e') in let same = single_lasts q h in rw (sym same) t) r)

  pub image_even : (qs : List (List ℕ)) → LinesBelow (length im) qs → IsField c1 c2 qs → IsEven im qs
  image_even [] l f = tt
  image_even (q ∷ qs) l f = (even_line q l.0 (line_of_field q qs f), image_even qs l.1 (rest_of_field q qs f))

  pub image_field : (qs : List (List ℕ)) → LinesBelow (length im) qs → IsField c1 c2 qs → IsField m1 m2 (image_lines im qs)
  image_field [] l f = tt
  image_field (q ∷ qs) l f =
      one_more q qs (is_double im q) refl (even_line q l.0 (line_of_field q qs f)) l.0 l.1 f (image_field qs l.1 (rest_of_field q qs f))
