-- Pieces that are looked up in tables.
use Rattle.std.proofs.Common.{arith, ◌≡◌, ◌<◌, ◌≤◌, ◌+◌, ℕ, List, [], ◌∷◌, ◌++◌, length, set, take, drop, refl, sym, ◌∙◌, ap, subst, append_assoc, inl, inr}
use Rattle.wt_grid.specs.declared.image.Image.TheVariants.{One as Single, Two as Double}
use Rattle.wt_grid.specs.declared.image.Image.{Image}
use Rattle.std.proofs.lemmas.List.{get_or-set_same, get_or-set_other, take-take, take_all, take_at, drop_at, length-take-le, length-set, length-append, take_more_set}
use Rattle.std.proofs.lemmas.Bool.{cases_lt}
use Rattle.std.proofs.Math.Seq.{take-add}
use Rattle.wt_grid.specs.Images.{first_tile, last_tile}
use Rattle.wt_grid.specs.Traces.{piece_tiles}
use Rattle.wt_expand.specs.PieceTables.{IsPiece}

-- one entry more, and those before it stay
pub one_more : (firsts lasts lens : List ℕ) (a b n t : ℕ) (f : ℕ → Image) → length firsts ≡ 256 → length lasts ≡ 256 → length lens ≡ 256 → t < 256
    → a ≡ first_tile (f t) → b ≡ last_tile (f t) → n ≡ length (piece_tiles (f t)) → ((k : ℕ) → k < t → IsPiece firsts lasts lens k (f k))
    → (k : ℕ) → k < t + 1 → IsPiece (set firsts t a) (set lasts t b) (set lens t n) k (f k)
one_more firsts lasts lens a b n t f x y z lt ea eb en each k le = elim (cases_lt k t) [
  | inl less ↦ let is = each k less in record {
    first = get_or-set_other firsts t k a 0 (apart less) ∙ is.first;
    last = get_or-set_other lasts t k b 0 (apart less) ∙ is.last;
    count = get_or-set_other lens t k n 0 (apart less) ∙ is.count;
  }
  | inr more ↦ let e : t ≡ k = omega (arith, le, more) in subst (λ (m : ℕ). IsPiece (set firsts t a) (set lasts t b) (set lens t n) m (f m)) e (record {
    first = get_or-set_same firsts t a 0 (omega (arith, x, lt)) ∙ ea;
    last = get_or-set_same lasts t b 0 (omega (arith, y, lt)) ∙ eb;
    count = get_or-set_same lens t n 0 (omega (arith, z, lt)) ∙ en;
  })
]
  where
    apart : k < t → k ≡ t → ⊥
    apart less e = absurd (omega (arith, less, e))

-- a piece has its ends, and one tile or two
front : (p : Image) → take (length (piece_tiles p)) (first_tile p ∷ last_tile p ∷ []) ≡ piece_tiles p
front (Single a) = refl
front (Double a b) = refl

pub few : (p : Image) → length (piece_tiles p) ≤ 2
few (Single a) = omega arith
few (Double a b) = omega arith

-- both ends are written, and n of them count
pub both_put : (row : List ℕ) (len a b n : ℕ) (p : Image) → len + 2 ≤ length row → a ≡ first_tile p → b ≡ last_tile p → n ≡ length (piece_tiles p)
    → take (len + n) (set (set row len a) (len + 1) b) ≡ take (length row) (take len row ++ piece_tiles p)
both_put row len a b n p room ea eb en =
    let now = set (set row len a) (len + 1) b in
    let le : n ≤ 2 = subst (λ (m : ℕ). m ≤ 2) (sym en) (few p) in
    let long : length (take len row) ≡ len = length-take-le len row (omega (arith, room)) in
    let two_more : take (len + 2) now ≡ take len row ++ (a ∷ b ∷ []) =
    ap (λ (m : ℕ). take m now) (let e : len + 2 ≡ len + 1 + 1 = omega arith in e)
    ∙ take_more_set (set row len a) (len + 1) b (omega (arith, room, length-set row len a))
    ∙ ap (λ (xs : List ℕ). xs ++ b ∷ []) (take_more_set row len a (omega (arith, room)))
    ∙ append_assoc (take len row) (a ∷ []) (b ∷ []) in
    let ends : take n (a ∷ b ∷ []) ≡ piece_tiles p = rw (ea, eb, en) (front p) in
    let some : take (len + n) now ≡ take len row ++ piece_tiles p =
    sym (take-take (len + n) (len + 2) now (omega (arith, le))) ∙ ap (λ (xs : List ℕ). take (len + n) xs) two_more
    ∙ take-add len n (take len row ++ (a ∷ b ∷ []))
    ∙ ap (λ (xs : List ℕ). xs ++ take n (drop len (take len row ++ (a ∷ b ∷ [])))) (take_at (take len row) (a ∷ b ∷ []) len long)
    ∙ ap (λ (xs : List ℕ). take len row ++ take n xs) (drop_at (take len row) (a ∷ b ∷ []) len long)
    ∙ ap (λ (xs : List ℕ). take len row ++ xs) ends in
    some ∙ sym (take_all (length row) (take len row ++ piece_tiles p) (omega (arith, length-append (take len row) (piece_tiles p), long, few p, room)))
