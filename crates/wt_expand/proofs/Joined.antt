-- The words above a level are joined of the words below it, and no word is long.
use Rattle.std.proofs.Common.{arith, ◌≡◌, ◌≤◌, ◌<◌, ◌+◌, ◌*◌, ℕ, zero, suc, Bool, List, [], ◌∷◌, length, take, drop, slice_get, Some, refl, sym, ◌∙◌, ap}
use Rattle.wt_grid.specs.declared.image.Image.{Image}
use Rattle.wt_grid.specs.declared.axis.Axis.TheVariants.{One, Two}
use Rattle.wt_grid.specs.declared.axis.Axis.{Axis}
use Rattle.std.specs.List.{flat_map}
use Rattle.std.proofs.lemmas.List.{append-nil, length-append, drop-drop}
use Rattle.wt_grid.specs.Traces.{piece_tiles}
use Rattle.wt_chain.specs.Turns.{axis_of}
use Rattle.wt_expand.specs.Levels.{Level}
use Rattle.wt_expand.specs.Rows.{Digit}
use Rattle.wt_expand.specs.Blocks.{digit_of, digits, piece_under, tile_of}
use Rattle.wt_expand.specs.Words.{laid_piece, word, words}
use Rattle.wt_expand.specs.WordTables.{times, longest_word}
use Rattle.wt_expand.proofs.Places.{same_some}
use Rattle.wt_expand.proofs.Tabled.{few}
use Rattle.wt_expand.proofs.Worded.{flat_flat, one_each}

module _ (renaming : List ℕ) (b : ℕ) where
  one_more : (i : ℕ) (levels : List Level) (space : List ℕ) (level : Level) (t : ℕ) → slice_get levels i ≡ Some level
      → words renaming (take (i + 1) levels) (digits b levels space) t
      ≡ flat_map (words renaming (take i levels) (digits b levels space)) (word renaming level (digit_of (drop (i * b) space)).is_upper t)
  one_more i [] space level t e = absurd cc
  one_more zero (l ∷ ls) space level t e =
      let same : l ≡ level = same_some l level (Some l) refl e in
      let z : 0 ≡ 0 * b = omega arith in
      append-nil (word renaming l (digit_of space).is_upper t)
      ∙ sym (one_each (word renaming l (digit_of space).is_upper t))
      ∙ ap (λ (n : ℕ). flat_map (λ (x : ℕ). x ∷ []) (word renaming l (digit_of (drop n space)).is_upper t)) z
      ∙ ap (λ (x : Level). flat_map (λ (y : ℕ). y ∷ []) (word renaming x (digit_of (drop (0 * b) space)).is_upper t)) same
  one_more (suc i) (l ∷ ls) space level t e =
      let s : suc i + 1 ≡ suc (i + 1) = omega arith in
      let p : b + i * b ≡ suc i * b = omega arith in
      let rest = digits b ls (drop b space) in
      let g = word renaming l (digit_of space).is_upper in
      ap (λ (n : ℕ). words renaming (take n (l ∷ ls)) (digits b (l ∷ ls) space) t) s
      ∙ ap (flat_map g) (one_more i ls (drop b space) level t e)
      ∙ flat_flat g (words renaming (take i ls) rest) (word renaming level (digit_of (drop (i * b) (drop b space))).is_upper t)
      ∙ ap (λ (xs : List ℕ). flat_map (words renaming (take (suc i) (l ∷ ls)) (digits b (l ∷ ls) space)) (word renaming level (digit_of xs).is_upper t))
      (drop-drop (i * b) b space ∙ ap (λ (n : ℕ). drop n space) p)

  -- the words above level i are joined of those below it, as the bit of its row says
  pub joined : (i k : ℕ) (levels : List Level) (space : List ℕ) (ss : List Digit) (level : Level) (upper : Bool) (t : ℕ) → i + 1 ≡ k → slice_get levels i ≡ Some level → ss ≡ digits b levels space
      → upper ≡ (digit_of (drop (i * b) space)).is_upper
      → words renaming (take k levels) ss t ≡ flat_map (words renaming (take i levels) ss) (word renaming level upper t)
  joined i k levels space ss level upper t next e whole bit =
      ap (λ (n : ℕ). words renaming (take n levels) ss t) (sym next)
      ∙ ap (λ (ds : List Digit). words renaming (take (i + 1) levels) ds t) whole
      ∙ one_more i levels space level t e
      ∙ ap (λ (ds : List Digit). flat_map (words renaming (take i levels) ds) (word renaming level (digit_of (drop (i * b) space)).is_upper t)) (sym whole)
      ∙ ap (λ (u : Bool). flat_map (words renaming (take i levels) ss) (word renaming level u t)) (sym bit)

-- the same of what is laid of a tile
pub of_image : (renaming : List ℕ) (b i k : ℕ) (levels : List Level) (space : List ℕ) (ss : List Digit) (level : Level) (upper : Bool) (t : ℕ) (p : Image) → i + 1 ≡ k → slice_get levels i ≡ Some level
    → ss ≡ digits b levels space → upper ≡ (digit_of (drop (i * b) space)).is_upper → p ≡ laid_piece (axis_of level.link) upper (piece_under renaming level t)
    → words renaming (take k levels) ss t ≡ flat_map (words renaming (take i levels) ss) (piece_tiles p)
of_image renaming b i k levels space ss level upper t p next e whole bit laid =
    joined renaming b i k levels space ss level upper t next e whole bit
    ∙ ap (λ (q : Image). flat_map (words renaming (take i levels) ss) (piece_tiles q)) (sym laid)

-- ---- how long words are

times_more : (a : Axis) (m n : ℕ) → m ≤ n → times a m ≤ times a n
times_more One m n le = omega (arith, le)
times_more Two m n le = le

times_least : (a : Axis) (n : ℕ) → n ≤ times a n
times_least One n = omega arith
times_least Two n = omega arith

times_twice : (a c : Axis) (n : ℕ) → times a (times c n) ≡ times c (times a n)
times_twice One One n = refl
times_twice One Two n = refl
times_twice Two One n = refl
times_twice Two Two n = refl

some_tile : (levels : List Level) → 1 ≤ longest_word levels
some_tile [] = omega arith
some_tile (l ∷ ls) = let i = some_tile ls in let m = times_least (axis_of l.link) (longest_word ls) in omega (arith, i, m)

-- one level more
pub longer : (levels : List Level) (i : ℕ) (level : Level) → slice_get levels i ≡ Some level → longest_word (take (i + 1) levels) ≡ times (axis_of level.link) (longest_word (take i levels))
longer [] i level e = absurd cc
longer (l ∷ ls) zero level e = ap (λ (x : Level). times (axis_of x.link) 1) (same_some l level (Some l) refl e)
longer (l ∷ ls) (suc i) level e =
    let s : suc i + 1 ≡ suc (i + 1) = omega arith in
    ap (λ (n : ℕ). longest_word (take n (l ∷ ls))) s ∙ ap (times (axis_of l.link)) (longer ls i level e) ∙ times_twice (axis_of l.link) (axis_of level.link) (longest_word (take i ls))

-- below fewer levels words are no longer
pub shorter : (levels : List Level) (k n : ℕ) → k ≤ n → longest_word (take k levels) ≤ longest_word (take n levels)
shorter levels zero n le = some_tile (take n levels)
shorter levels (suc k) zero le = absurd (omega arith)
shorter [] (suc k) (suc n) le = omega arith
shorter (l ∷ ls) (suc k) (suc n) le = times_more (axis_of l.link) (longest_word (take k ls)) (longest_word (take n ls)) (shorter ls k n (omega (arith, le)))

twice : (f : ℕ → Image) (xs : List ℕ) → length (flat_map (λ t. piece_tiles (f t)) xs) ≤ 2 * length xs
twice f [] = omega arith
twice f (x ∷ xs) = let i = twice f xs in let p = few (f x) in let a = length-append (piece_tiles (f x)) (flat_map (λ t. piece_tiles (f t)) xs) in omega (arith, i, p, a)

one_of_each : (g : ℕ → ℕ) (xs : List ℕ) → length (flat_map (λ t. g t ∷ []) xs) ≡ length xs
one_of_each g [] = refl
one_of_each g (x ∷ xs) = ap suc (one_of_each g xs)

laid_short : (a : Axis) (upper : Bool) (f : ℕ → Image) (xs : List ℕ) (n : ℕ) → length xs ≤ n → length (flat_map (λ t. piece_tiles (laid_piece a upper (f t))) xs) ≤ times a n
laid_short One upper f xs n le = let i = twice f xs in omega (arith, i, le)
laid_short Two upper f xs n le = let i = one_of_each (λ t. tile_of upper (f t)) xs in omega (arith, i, le)

-- no word is longer than the longest
pub words_short : (renaming : List ℕ) (levels : List Level) (ss : List Digit) (t : ℕ) → length (words renaming levels ss t) ≤ longest_word levels
words_short renaming [] ss t = omega arith
words_short renaming (l ∷ ls) [] t = some_tile (l ∷ ls)
words_short renaming (l ∷ ls) (s ∷ ss) t = laid_short (axis_of l.link) s.is_upper (piece_under renaming l) (words renaming ls ss t) (longest_word ls) (words_short renaming ls ss t)

-- nor are the words that are joined of an image's
pub joined_short : (renaming : List ℕ) (levels : List Level) (k n : ℕ) (ss : List Digit) (t : ℕ) (xs : List ℕ) → words renaming (take k levels) ss t ≡ xs → longest_word (take k levels) ≤ n → length xs ≤ n
joined_short renaming levels k n ss t xs e le = let s = words_short renaming (take k levels) ss t in let l = ap length e in omega (arith, s, l, le)
