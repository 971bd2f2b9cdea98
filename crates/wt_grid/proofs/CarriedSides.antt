-- Blocks that repeat themselves: for both sides, and wherever a run of them begins.
use Rattle.std.proofs.Common.{arith, ◌≡◌, ◌⊎◌, ◌≤◌, ◌<◌, ◌+◌, ◌-◌, ℕ, zero, suc, List, [], ◌∷◌, ◌++◌, length, length-append, take, drop, get_or, Bool, true, false, cond, Some, slice_get, map, refl, sym, ap, ◌∙◌, subst, inl, inr}
use Rattle.wt_grid.proofs.Cut.{field_rest}
use Rattle.wt_grid.specs.declared.image.Image.TheVariants.{One as Single, Two as Double}
use Rattle.wt_grid.specs.declared.image.Image.{Image}
use Rattle.wt_grid.specs.declared.axis.Side.TheVariants.{After, Before}
use Rattle.wt_grid.specs.declared.axis.Side.{Side}
use Rattle.std.proofs.lemmas.List.{take-append-drop, get_or-drop, length-drop, get_or_append_left, get_or-append_right, length-take-le}
use Rattle.std.proofs.lemmas.Option.{get_or_from_slice_get}
use Rattle.std.proofs.Math.Seq.{drop-append_seam, take-append_seam}
use Rattle.wt_grid.specs.Lines.{IsGood, IsAcross, IsField, Singles, Pairs, IsImage, is_marker_line, AllLong, Shift}
use Rattle.wt_grid.specs.Cuts.{backwards, opposite, cut_front, cut_lines, cut, flip, step_table}
use Rattle.wt_grid.specs.Shifts.{Same, Meets, Repeats, fill}
use Rattle.wt_grid.specs.Images.{piece_at, first_tile, last_tile, is_pair, firsts, lasts, is_double, line_image, image_lines, IsEvenLine, IsEven}
use Rattle.wt_grid.proofs.Grids.{long_coarse, filled_long}
use Rattle.wt_grid.proofs.Backwards.{backwards_append, backwards_twice, length-backwards, field_backwards, image_backwards}
use Rattle.wt_grid.proofs.Law.{flipped, cut_long, long_backwards, long_front}
use Rattle.wt_grid.proofs.Carried.{EachLine, each_drop, shift_tail, shift_with, length_front, carry_cut}

-- ---- the image of coarse lines is the computed one

one_stands : (im : List Image) (i a : ℕ) → slice_get im i ≡ Some (Single a) → piece_at im i ≡ Single a
one_stands im i a e = get_or_from_slice_get im i (Single a) (Single 0) e

two_stands : (im : List Image) (i a b : ℕ) → slice_get im i ≡ Some (Double a b) → piece_at im i ≡ Double a b
two_stands im i a b e = get_or_from_slice_get im i (Double a b) (Single 0) e

singles_found : (im : List Image) (q u : List ℕ) → Singles im q u → (u ≡ firsts im q) × IsEvenLine im false q
singles_found im [] [] s = (refl, tt)
singles_found im [] (a ∷ as') s = absurd s
singles_found im (i ∷ is) [] s = absurd s
singles_found im (i ∷ is) (a ∷ as') s =
    let e = one_stands im i a s.0 in
    let r = singles_found im is as' s.1 in
    let f : first_tile (piece_at im i) ≡ a = ap first_tile e in
    (cc, (ap is_pair e, r.1))

pairs_found : (im : List Image) (q u v : List ℕ) → Pairs im q u v → (u ≡ firsts im q) × (v ≡ lasts im q) × IsEvenLine im true q
pairs_found im [] [] [] s = (refl, refl, tt)
pairs_found im [] [] (b ∷ bs) s = absurd s
pairs_found im [] (a ∷ as') v s = absurd s
pairs_found im (i ∷ is) [] v s = absurd s
pairs_found im (i ∷ is) (a ∷ as') [] s = absurd s
pairs_found im (i ∷ is) (a ∷ as') (b ∷ bs) s =
    let e = two_stands im i a b s.0 in
    let r = pairs_found im is as' bs s.1 in
    let f : first_tile (piece_at im i) ≡ a = ap first_tile e in
    let l : last_tile (piece_at im i) ≡ b = ap last_tile e in
    (cc, cc, (ap is_pair e, r.2))

-- a line of images of one length, which isn't empty, tells the length
even_double : (im : List Image) (b : Bool) (i : ℕ) (is : List ℕ) → IsEvenLine im b (i ∷ is) → is_double im (i ∷ is) ≡ b
even_double im b i is e = e.0

even_itself : (im : List Image) (b : Bool) (q : List ℕ) → 1 ≤ length q → IsEvenLine im b q → (is_double im q ≡ b) × IsEvenLine im (is_double im q) q
even_itself im b [] le e = absurd (omega arith)
even_itself im b (i ∷ is) le e = (e.0, subst (λ (c : Bool). IsEvenLine im c (i ∷ is)) (sym e.0) e)

single_image : (im : List Image) (q u : List ℕ) (qs ls : List (List ℕ)) → 1 ≤ length q → Singles im q u → ls ≡ image_lines im qs → u ∷ ls ≡ image_lines im (q ∷ qs)
single_image im q u qs ls le s e =
    let f = singles_found im q u s in
    let d = even_itself im false q le f.1 in
    rw d.0 (ap (λ (x : List ℕ). x ∷ ls) f.0 ∙ ap (λ (y : List (List ℕ)). firsts im q ∷ y) e)

pair_image : (im : List Image) (q u v : List ℕ) (qs ls : List (List ℕ)) → 1 ≤ length q → Pairs im q u v → ls ≡ image_lines im qs → u ∷ v ∷ ls ≡ image_lines im (q ∷ qs)
pair_image im q u v qs ls le s e =
    let f = pairs_found im q u v s in
    let d = even_itself im true q le f.2 in
    rw d.0 (ap (λ (x : List ℕ). x ∷ v ∷ ls) f.0 ∙ (ap (λ (x : List ℕ). firsts im q ∷ x ∷ ls) f.1 ∙ ap (λ (y : List (List ℕ)). firsts im q ∷ lasts im q ∷ y) e))

pub image_found : (im : List Image) (m : ℕ) (qs ls : List (List ℕ)) → 1 ≤ m → AllLong m qs → IsImage im qs ls → (ls ≡ image_lines im qs) × IsEven im qs
image_found im m [] [] le l i = (refl, tt)
image_found im m [] (u ∷ ls) le l i = absurd i
image_found im m (q ∷ qs) [] le l i = absurd i
image_found im m (q ∷ qs) (u ∷ []) le l i =
    let r = image_found im m qs [] le l.1 i.1 in
    let n : 1 ≤ length q = (let h : length q ≡ m = l.0 in omega arith) in
    (single_image im q u qs [] n i.0 r.0, ((even_itself im false q n (singles_found im q u i.0).1).1, r.1))
image_found im m (q ∷ qs) (u ∷ v ∷ ls) le l i =
    let n : 1 ≤ length q = (let h : length q ≡ m = l.0 in omega arith) in
    elim i [
      | inl s ↦ (let r = image_found im m qs (v ∷ ls) le l.1 s.1 in (single_image im q u qs (v ∷ ls) n s.0 r.0, ((even_itself im false q n (singles_found im q u s.0).1).1, r.1)))
      | inr p ↦ (let r = image_found im m qs ls le l.1 p.1 in (pair_image im q u v qs ls n p.0 r.0, ((even_itself im true q n (pairs_found im q u v p.0).2).1, r.1)))
    ]

-- ---- how many lines a run of blocks fills

-- the lines of one block
abbrev pub size : List Image → List ℕ → ℕ
size im q = length (line_image im q)

pub fill_image : (im : List Image) (qs : List (List ℕ)) → length (image_lines im qs) ≡ fill (size im) qs
fill_image im [] = refl
fill_image im (q ∷ qs) = let e = length-append (line_image im q) (image_lines im qs) in let r = fill_image im qs in omega arith

fill_more : (f : List ℕ → ℕ) (m : ℕ) (qs : List (List ℕ)) (y : List ℕ) (rest : List (List ℕ)) → drop m qs ≡ y ∷ rest → fill f (take (suc m) qs) ≡ fill f (take m qs) + f y
fill_more f zero [] y rest e = absurd cc
fill_more f (suc m) [] y rest e = absurd cc
fill_more f zero (q ∷ qs) y rest e = let s : q ≡ y = cc in rw s (omega arith)
fill_more f (suc m) (q ∷ qs) y rest e = let r = fill_more f m qs y rest e in omega arith

first_left : {A : Type 0} (m : ℕ) (xs : List A) → suc m ≤ length xs → (y : A) × (rest : List A) × (drop m xs ≡ y ∷ rest)
first_left m [] le = absurd (omega arith)
first_left zero (x ∷ xs) le = (x, xs, refl)
first_left (suc m) (x ∷ xs) le = first_left m xs (omega arith)

abbrev pub AsLarge : (List ℕ → ℕ) → List ℕ → List ℕ → Type 0
AsLarge f u v = f u ≡ f v

window_step : (f : List ℕ → ℕ) (n : ℕ) (q : List ℕ) (qs : List (List ℕ)) → n ≤ length qs → Shift (AsLarge f) (q ∷ qs) (drop n (q ∷ qs)) → fill f (take n qs) ≡ fill f (take n (q ∷ qs))
window_step f zero q qs le s = refl
window_step f (suc m) q qs le s =
    let y = first_left m qs le in
    let e : f q ≡ f y.0 = (subst (λ (ys : List (List ℕ)). Shift (AsLarge f) (q ∷ qs) ys) y.2 s).0 in
    let r = fill_more f m qs y.0 y.1 y.2 in
    omega arith

pub windows : (f : List ℕ → ℕ) (n k : ℕ) (qs : List (List ℕ)) → k + n ≤ length qs → Shift (AsLarge f) qs (drop n qs) → fill f (take n (drop k qs)) ≡ fill f (take n qs)
windows f n zero qs le s = refl
windows f n (suc k) [] le s = absurd (let h : suc k + n ≤ 0 = le in omega arith)
windows f n (suc k) (q ∷ qs) le s =
    let h : suc k + n ≤ suc (length qs) = le in
    windows f n k qs (omega arith) (shift_tail (AsLarge f) q qs n s) ∙ window_step f n q qs (omega arith) s

-- ---- blocks that meet are as large

even_at : (im : List Image) (b : Bool) (a : ℕ) (q : List ℕ) (x : ℕ) (xs : List ℕ) → IsEvenLine im b q → drop a q ≡ x ∷ xs → is_pair (piece_at im x) ≡ b
even_at im b zero [] x xs e d = absurd cc
even_at im b (suc a) [] x xs e d = absurd cc
even_at im b zero (i ∷ is) x xs e d = let z : i ≡ x = cc in subst (λ (k : ℕ). is_pair (piece_at im k) ≡ b) z e.0
even_at im b (suc a) (i ∷ is) x xs e d = even_at im b a is x xs e.1 d

-- even lines, longer than a and b
abbrev EvenLong : List Image → ℕ → ℕ → List ℕ → Type 0
EvenLong im a b q = IsEvenLine im (is_double im q) q × (a < length q) × (b < length q)

same_double : (im : List Image) (a b : ℕ) (q r : List ℕ) → Meets a b q r → EvenLong im a b q → EvenLong im a b r → is_double im q ≡ is_double im r
same_double im a b q r m e f =
    let x = first_left a q (let h : a < length q = e.1 in omega arith) in
    let y = first_left b r (let h : b < length r = f.2 in omega arith) in
    let s : Same (x.0 ∷ x.1) (y.0 ∷ y.1) = subst (λ (w : List ℕ). Same (x.0 ∷ x.1) w) y.2 (subst (λ (w : List ℕ). Same w (drop b r)) x.2 m) in
    sym (even_at im (is_double im q) a q x.0 x.1 e.0 x.2) ∙ (ap (λ (k : ℕ). is_pair (piece_at im k)) s.0 ∙ even_at im (is_double im r) b r y.0 y.1 f.0 y.2)

size_is : (im : List Image) (q : List ℕ) (b : Bool) → is_double im q ≡ b → size im q ≡ cond b 2 1
size_is im q true e = rw e refl
size_is im q false e = rw e refl

same_size : (im : List Image) (a b : ℕ) (q r : List ℕ) → Meets a b q r → EvenLong im a b q → EvenLong im a b r → size im q ≡ size im r
same_size im a b q r m e f = size_is im q (is_double im r) (same_double im a b q r m e f) ∙ sym (size_is im r (is_double im r) refl)

even_long : (im : List Image) (a b m : ℕ) (qs : List (List ℕ)) → a < m → b < m → IsEven im qs → AllLong m qs → EachLine (EvenLong im a b) qs
even_long im a b m [] la lb e l = tt
even_long im a b m (q ∷ qs) la lb e l = ((e.0, (let h : length q ≡ m = l.0 in omega arith), (let h : length q ≡ m = l.0 in omega arith)), even_long im a b m qs la lb e.1 l.1)

shift_map : (R S : List ℕ → List ℕ → Type 0) (xs ys : List (List ℕ)) → ((u v : List ℕ) → R u v → S u v) → Shift R xs ys → Shift S xs ys
shift_map R S [] ys h s = tt
shift_map R S (x ∷ xs) [] h s = tt
shift_map R S (x ∷ xs) (y ∷ ys) h s = (h x y s.0, shift_map R S xs ys h s.1)

pub sizes_repeat : (im : List Image) (a b m n : ℕ) (qs : List (List ℕ)) → a < m → b < m → IsEven im qs → AllLong m qs → Repeats a b n qs → Shift (AsLarge (size im)) qs (drop n qs)
sizes_repeat im a b m n qs la lb e l r =
    let each = even_long im a b m qs la lb e l in
    shift_map (λ u v. Meets a b u v × EvenLong im a b u × EvenLong im a b v) (AsLarge (size im)) qs (drop n qs) (λ u v h. same_size im a b u v h.0 h.1 h.2)
    (shift_with (Meets a b) (EvenLong im a b) qs (drop n qs) r each (each_drop (EvenLong im a b) n qs each))

-- ---- in the opposite order

pub shift_to : (R : List ℕ → List ℕ → Type 0) (xs ys : List (List ℕ)) (i : ℕ) → Shift R xs ys → i < length xs → i < length ys → R (get_or xs i []) (get_or ys i [])
shift_to R [] ys i s lx ly = absurd (omega arith)
shift_to R (x ∷ xs) [] i s lx ly = absurd (omega arith)
shift_to R (x ∷ xs) (y ∷ ys) zero s lx ly = s.0
shift_to R (x ∷ xs) (y ∷ ys) (suc i) s lx ly = shift_to R xs ys i s.1 (omega arith) (omega arith)

pub shift_from : (R : List ℕ → List ℕ → Type 0) (xs ys : List (List ℕ)) → ((i : ℕ) → i < length xs → i < length ys → R (get_or xs i []) (get_or ys i [])) → Shift R xs ys
shift_from R [] ys h = tt
shift_from R (x ∷ xs) [] h = tt
shift_from R (x ∷ xs) (y ∷ ys) h = (h 0 (omega arith) (omega arith), shift_from R xs ys (λ i lx ly. h (suc i) (omega arith) (omega arith)))

get_backwards : (xs : List (List ℕ)) (i : ℕ) → i < length xs → get_or (backwards xs) i [] ≡ get_or xs (length xs - 1 - i) []
get_backwards [] i lt = absurd (omega arith)
get_backwards (x ∷ xs) i lt = elim (side i) [
  | inl h ↦ (let n = length-backwards xs in get_or_append_left (backwards xs) (x ∷ []) [] i (omega arith) ∙ (get_backwards xs i h ∙ at_next (omega arith)))
  | inr h ↦ (let n = length-backwards xs in get_or-append_right (backwards xs) (x ∷ []) (length xs) i [] n (omega arith) ∙ (let z : i - length xs ≡ 0 = omega arith in let w : suc (length xs) - 1 - i ≡ 0 = omega arith in rw (z, w) refl))
]
  where
    side : (i : ℕ) → (i < length xs) ⊎ (length xs ≤ i)
    side i = grind arith

    at_next : suc (length xs - 1 - i) ≡ suc (length xs) - 1 - i → get_or xs (length xs - 1 - i) [] ≡ get_or (x ∷ xs) (suc (length xs) - 1 - i) []
    at_next e = subst (λ (k : ℕ). get_or xs (length xs - 1 - i) [] ≡ get_or (x ∷ xs) k []) e refl

shift_backwards : (R : List ℕ → List ℕ → Type 0) (xs : List (List ℕ)) (d : ℕ) → Shift R xs (drop d xs) → Shift (λ u v. R v u) (backwards xs) (drop d (backwards xs))
shift_backwards R xs d s = shift_from (λ u v. R v u) (backwards xs) (drop d (backwards xs)) (λ i lx ly.
    let n = length-backwards xs in
    let e = length-drop d (backwards xs) in
    let f = length-drop d xs in
    let k : ℕ = length xs - 1 - (d + i) in
    let lk : k < length xs = omega arith in
    let ld : k < length (drop d xs) = omega arith in
    let same : d + k ≡ length xs - 1 - i = omega arith in
    let r : R (get_or xs k []) (get_or (drop d xs) k []) = shift_to R xs (drop d xs) k s lk ld in
    let here : get_or (backwards xs) i [] ≡ get_or (drop d xs) k [] = get_backwards xs i (omega arith) ∙ (ap (λ (j : ℕ). get_or xs j []) (sym same) ∙ sym (get_or-drop d xs k [])) in
    let there : get_or (drop d (backwards xs)) i [] ≡ get_or xs k [] = get_or-drop d (backwards xs) i [] ∙ get_backwards xs (d + i) (omega arith) in
    subst (λ (u : List ℕ). R (get_or (drop d (backwards xs)) i []) u) (sym here) (subst (λ (v : List ℕ). R v (get_or (drop d xs) k [])) (sym there) r))

same_back : (xs ys : List ℕ) → Same xs ys → Same ys xs
same_back [] [] s = tt
same_back [] (y ∷ ys) s = tt
same_back (x ∷ xs) [] s = tt
same_back (x ∷ xs) (y ∷ ys) s = (sym s.0, same_back xs ys s.1)

repeats_backwards : (a b d : ℕ) (xs : List (List ℕ)) → Repeats a b d xs → Repeats b a d (backwards xs)
repeats_backwards a b d xs s =
    shift_map (λ u v. Meets a b v u) (Meets b a) (backwards xs) (drop d (backwards xs)) (λ u v m. same_back (drop a v) (drop b u) m) (shift_backwards (Meets a b) xs d s)

fill_append : (f : List ℕ → ℕ) (xs ys : List (List ℕ)) → fill f (xs ++ ys) ≡ fill f xs + fill f ys
fill_append f [] ys = omega arith
fill_append f (x ∷ xs) ys = let r = fill_append f xs ys in omega arith

fill_backwards : (f : List ℕ → ℕ) (xs : List (List ℕ)) → fill f (backwards xs) ≡ fill f xs
fill_backwards f [] = refl
fill_backwards f (x ∷ xs) = let r = fill_backwards f xs in let e = fill_append f (backwards xs) (x ∷ []) in omega arith

fill_same : (f g : List ℕ → ℕ) (xs : List (List ℕ)) → ((u : List ℕ) → f u ≡ g u) → fill f xs ≡ fill g xs
fill_same f g [] h = refl
fill_same f g (x ∷ xs) h = let a = h x in let r = fill_same f g xs h in omega arith

pair_flip : (p : Image) → is_pair (flip p) ≡ is_pair p
pair_flip (Single a) = refl
pair_flip (Double a b) = refl

at_flip : (im : List Image) (i : ℕ) → piece_at (map flip im) i ≡ flip (piece_at im i)
at_flip [] i = refl
at_flip (p ∷ ps) zero = refl
at_flip (p ∷ ps) (suc i) = at_flip ps i

double_flip : (im : List Image) (q : List ℕ) → is_double (map flip im) q ≡ is_double im q
double_flip im [] = refl
double_flip im (i ∷ is) = ap is_pair (at_flip im i) ∙ pair_flip (piece_at im i)

size_flip : (im : List Image) (q : List ℕ) → size (map flip im) q ≡ size im q
size_flip im q = size_is (map flip im) q (is_double im q) (double_flip im q) ∙ sym (size_is im q (is_double im q) refl)

-- ---- the law, for both sides

line_across : (f g : ℕ → ℕ → Bool) (u : List ℕ) (ls : List (List ℕ)) → IsField f g (u ∷ ls) → IsAcross g u
line_across f g u [] h = h
line_across f g u (v ∷ ls) h = h.0

abbrev FitsLong : (ℕ → ℕ → Bool) → ℕ → ℕ → List ℕ → Type 0
FitsLong g a b u = (a < length u) × (b < length u) × IsAcross g u

all_fit : (f g : ℕ → ℕ → Bool) (a b m : ℕ) (ls : List (List ℕ)) → a < m → b < m → AllLong m ls → IsField f g ls → EachLine (FitsLong g a b) ls
all_fit f g a b m [] la lb l h = tt
all_fit f g a b m (u ∷ ls) la lb l h =
    (((let e : length u ≡ m = l.0 in omega arith), (let e : length u ≡ m = l.0 in omega arith), line_across f g u ls h), all_fit f g a b m ls la lb l.1 (field_rest f g u ls h))

pub long_take : (m d : ℕ) (ls : List (List ℕ)) → AllLong m ls → AllLong m (take d ls)
long_take m zero ls h = tt
long_take m (suc d) [] h = tt
long_take m (suc d) (u ∷ ls) h = (h.0, long_take m d ls h.1)

-- what a period of lines becomes on the blocks: n blocks, which fill d lines wherever they begin
abbrev pub Carried : List Image → ℕ → ℕ → ℕ → List (List ℕ) → ℕ → Type 0
Carried im a b d qs n = (n ≤ length qs) × Repeats a b n qs × ((k : ℕ) → k + n ≤ length qs → length (image_lines im (take n (drop k qs))) ≡ d)

carry_after : (al ac : ℕ → ℕ → Bool) (marker : ℕ → Bool) (im : List Image) → IsGood (step_table After al ac marker im) → (a b m d : ℕ) (ls qs : List (List ℕ)) → a < m → b < m → AllLong m ls → IsField al ac ls
    → d + 3 ≤ length ls → Repeats a b d ls → IsImage im qs (cut_lines marker ls) → (n : ℕ) × Carried im a b d qs n
carry_after al ac marker im good a b m d ls qs la lb l f le s i =
    let t = step_table After al ac marker im in
    let Single : 1 ≤ m = omega arith in
    let r = carry_cut t good a b ls qs d (filled_long m ls Single l) (all_fit al ac a b m ls la lb l f) f le s i in
    let lq : AllLong m qs = long_coarse im m qs (cut_lines marker ls) i (cut_long After m marker ls l) in
    let le' = length_front marker ls in
    let lt : AllLong m (take d (cut_front marker ls)) = long_take m d (cut_front marker ls) (long_front m marker ls l) in
    let found = image_found im m r.0 (take d (cut_front marker ls)) Single (long_coarse im m r.0 (take d (cut_front marker ls)) r.3 lt) r.3 in
    let even = (image_found im m qs (cut_lines marker ls) Single lq i).1 in
    let n : ℕ = length r.0 in
    let back : drop n qs ≡ r.1 = ap (drop n) r.2 ∙ drop-append_seam r.0 r.1 in
    let front : take n qs ≡ r.0 = ap (take n) r.2 ∙ take-append_seam r.0 r.1 in
    let rep : Repeats a b n qs = subst (λ (ys : List (List ℕ)). Shift (Meets a b) qs ys) (sym back) r.4 in
    let total : length (image_lines im r.0) ≡ d = sym (ap length found.0) ∙ length-take-le d (cut_front marker ls) (omega arith) in
    let lengths : length qs ≡ length r.0 + length r.1 = ap length r.2 ∙ length-append r.0 r.1 in
    let large = sizes_repeat im a b m n qs la lb even lq rep in
    (n, (omega arith, rep, λ k lk. fill_image im (take n (drop k qs)) ∙ (windows (size im) n k qs lk large ∙ (ap (fill (size im)) front ∙ (sym (fill_image im r.0) ∙ total)))))

split_backwards : (n : ℕ) (qs : List (List ℕ)) → n ≤ length qs → drop (length qs - n) (backwards qs) ≡ backwards (take n qs)
split_backwards n qs le =
    let e : backwards qs ≡ backwards (drop n qs) ++ backwards (take n qs) = ap backwards (sym (take-append-drop n qs)) ∙ backwards_append (take n qs) (drop n qs) in
    let c : length (backwards (drop n qs)) ≡ length qs - n = length-backwards (drop n qs) ∙ length-drop n qs in
    ap (drop (length qs - n)) e ∙ subst (λ (k : ℕ). drop k (backwards (drop n qs) ++ backwards (take n qs)) ≡ backwards (take n qs)) c (drop-append_seam (backwards (drop n qs)) (backwards (take n qs)))

take_rest : (n : ℕ) (xs : List (List ℕ)) → length xs ≤ n → take n xs ≡ xs
take_rest zero [] le = refl
take_rest zero (x ∷ xs) le = absurd (let h : suc (length xs) ≤ 0 = le in omega arith)
take_rest (suc n) [] le = refl
take_rest (suc n) (x ∷ xs) le = ap (λ (ys : List (List ℕ)). x ∷ ys) (take_rest n xs (omega arith))

carry_before : (al ac : ℕ → ℕ → Bool) (marker : ℕ → Bool) (im : List Image) → IsGood (step_table Before al ac marker im) → (a b m d : ℕ) (ls qs : List (List ℕ)) → a < m → b < m → AllLong m ls → IsField al ac ls
    → d + 3 ≤ length ls → Repeats a b d ls → IsImage im qs (cut Before marker ls) → (n : ℕ) × Carried im a b d qs n
carry_before al ac marker im good a b m d ls qs la lb l f le s i =
    let om = map flip im in
    let L = cut_lines marker (backwards ls) in
    let Single : 1 ≤ m = omega arith in
    let j : IsImage om (backwards qs) L = subst (λ (ys : List (List ℕ)). IsImage om (backwards qs) ys) (backwards_twice L) (image_backwards im om (flipped im) qs (backwards L) i) in
    let len = length-backwards ls in
    let r = carry_after (opposite al) ac marker om good b a m d (backwards ls) (backwards qs) lb la (long_backwards m ls l) (field_backwards al ac ls f) (omega arith) (repeats_backwards a b d ls s) j in
    let n : ℕ = r.0 in
    let lenq = length-backwards qs in
    let few : n ≤ length qs = (let h = r.1.0 in omega arith) in
    let rep : Repeats a b n qs = subst (λ (ys : List (List ℕ)). Shift (Meets a b) ys (drop n ys)) (backwards_twice qs) (repeats_backwards b a n (backwards qs) r.1.1) in
    let lq : AllLong m qs = long_coarse im m qs (cut Before marker ls) i (cut_long Before m marker ls l) in
    let even = (image_found im m qs (cut Before marker ls) Single lq i).1 in
    let large = sizes_repeat im a b m n qs la lb even lq rep in
    let k : ℕ = length qs - n in
    let last : length (image_lines om (take n (drop k (backwards qs)))) ≡ d = r.1.2 k (omega arith) in
    let short : length (backwards (take n qs)) ≡ n = length-backwards (take n qs) ∙ length-take-le n qs few in
    let win : take n (drop k (backwards qs)) ≡ backwards (take n qs) = ap (take n) (split_backwards n qs few) ∙ take_rest n (backwards (take n qs)) (omega arith) in
    let total : fill (size im) (take n qs) ≡ d =
    sym (fill_backwards (size im) (take n qs)) ∙ (sym (fill_same (size om) (size im) (backwards (take n qs)) (size_flip im))
    ∙ (sym (fill_image om (backwards (take n qs))) ∙ (ap (λ (ys : List (List ℕ)). length (image_lines om ys)) (sym win) ∙ last))) in
    (n, (few, rep, λ k' lk. fill_image im (take n (drop k' qs)) ∙ (windows (size im) n k' qs lk large ∙ total)))

-- A period of the lines of a core is a period of its blocks.
pub carry : (side : Side) (al ac : ℕ → ℕ → Bool) (marker : ℕ → Bool) (im : List Image) → IsGood (step_table side al ac marker im) → (a b m d : ℕ) (ls qs : List (List ℕ)) → a < m → b < m → AllLong m ls → IsField al ac ls
    → d + 3 ≤ length ls → Repeats a b d ls → IsImage im qs (cut side marker ls) → (n : ℕ) × Carried im a b d qs n
carry After al ac marker im good a b m d ls qs la lb l f le s i = carry_after al ac marker im good a b m d ls qs la lb l f le s i
carry Before al ac marker im good a b m d ls qs la lb l f le s i = carry_before al ac marker im good a b m d ls qs la lb l f le s i
