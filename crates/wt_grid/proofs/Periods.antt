-- A shift that maps lines to lines maps blocks to blocks.
use Rattle.std.proofs.Common.{arith, ◌≡◌, ◌⊎◌, ◌≤◌, ℕ, List, [], ◌∷◌, length, Bool, true, false, refl, ◌∙◌, inl, inr}
use Rattle.wt_grid.specs.Lines.{Table, IsGood, Singles, Pairs, IsImage, is_marker_line, cut_end, AllFilled, Shift, KeepsBlocks}
use Rattle.wt_grid.proofs.Desub.{block_begins, pair_ends, not_both}

module _ (t : Table) (good : IsGood t) where
  -- the first block in front of a line, by whether that is a marker line
  abbrev pub Front : (q u : List ℕ) (qs : List (List ℕ)) (v : List ℕ) (ls : List (List ℕ)) → Type 0
  Front q u qs v ls =
      (Singles t.images q u × IsImage t.images qs (cut_end t.marker (v ∷ ls)) × (is_marker_line t.marker v ≡ false))
      ⊎ (Pairs t.images q u v × IsImage t.images qs (cut_end t.marker ls) × (is_marker_line t.marker v ≡ true))

  front_end : (q u : List ℕ) (qs : List (List ℕ)) (b : ℕ) (bs : List ℕ) (f : Bool) → t.marker b ≡ f → IsImage t.images (q ∷ qs) (u ∷ cut_end t.marker ((b ∷ bs) ∷ [])) → Front q u qs (b ∷ bs) []
  front_end q u qs b bs true m i =
      let j : IsImage t.images (q ∷ qs) (u ∷ (b ∷ bs) ∷ []) = rw m at i in
      elim j [ inl s ↦ absurd (not_both t good b m (block_begins t good qs b bs [] s.1)) | inr p ↦ inr (p.0, p.1, m) ]
  front_end q u qs b bs false m i =
      let j : IsImage t.images (q ∷ qs) (u ∷ []) = rw m at i in
      inl (j.0, rw m j.1, m)

  pub front : (q u : List ℕ) (qs : List (List ℕ)) (b : ℕ) (bs : List ℕ) (ls : List (List ℕ)) → IsImage t.images (q ∷ qs) (u ∷ cut_end t.marker ((b ∷ bs) ∷ ls)) → Front q u qs (b ∷ bs) ls
  front q u qs b bs [] i = front_end q u qs b bs (t.marker b) refl i
  front q u qs b bs (w ∷ ls) i = elim i [
    | inl s ↦ inl (s.0, s.1, block_begins t good qs b bs (cut_end t.marker (w ∷ ls)) s.1)
    | inr p ↦ inr (p.0, p.1, pair_ends t good q u b bs p.0)
  ]

  none_left : (rs : List (List ℕ)) (b : ℕ) (bs : List ℕ) (f : Bool) → t.marker b ≡ f → IsImage t.images rs (cut_end t.marker ((b ∷ bs) ∷ [])) → rs ≡ []
  none_left rs b bs true m i =
      let j : IsImage t.images rs ((b ∷ bs) ∷ []) = rw m at i in
      absurd (not_both t good b m (block_begins t good rs b bs [] j))
  none_left [] b bs false m i = refl
  none_left (r ∷ rs) b bs false m i =
      let j : IsImage t.images (r ∷ rs) [] = rw m at i in absurd j

  nothing : (R : List ℕ → List ℕ → Type 0) (qs rs : List (List ℕ)) → rs ≡ [] → Shift R qs rs
  nothing R [] rs e = tt
  nothing R (q ∷ qs) rs e = rw e tt

  empty_image : (rs : List (List ℕ)) → IsImage t.images rs [] → rs ≡ []
  empty_image [] i = refl
  empty_image (r ∷ rs) i = absurd i

  module _ (R Q : List ℕ → List ℕ → Type 0) (k : KeepsBlocks t R Q) where
    pub shift_blocks : (ls ms qs rs : List (List ℕ)) → length ms ≤ length ls → AllFilled ls → AllFilled ms → Shift R ls ms
        → IsImage t.images qs (cut_end t.marker ls) → IsImage t.images rs (cut_end t.marker ms) → Shift Q qs rs
    shift_blocks ls [] qs rs le f g s i j = nothing Q qs rs (empty_image rs j)
    shift_blocks ls ([] ∷ ms) qs rs le f g s i j = absurd g
    shift_blocks ls ((b ∷ bs) ∷ []) qs rs le f g s i j = nothing Q qs rs (none_left rs b bs (t.marker b) refl j)
    shift_blocks ls ((b ∷ bs) ∷ [] ∷ ms) qs rs le f g s i j = absurd g
    shift_blocks [] ((b ∷ bs) ∷ (d ∷ ds) ∷ ms) qs rs le f g s i j = absurd (omega arith)
    shift_blocks (u ∷ []) ((b ∷ bs) ∷ (d ∷ ds) ∷ ms) qs rs le f g s i j = absurd (omega arith)
    shift_blocks ([] ∷ v ∷ ls) ((b ∷ bs) ∷ (d ∷ ds) ∷ ms) qs rs le f g s i j = absurd f
    shift_blocks ((a ∷ as') ∷ [] ∷ ls) ((b ∷ bs) ∷ (d ∷ ds) ∷ ms) qs rs le f g s i j = absurd f
    shift_blocks ((a ∷ as') ∷ (c ∷ cs) ∷ ls) ((b ∷ bs) ∷ (d ∷ ds) ∷ ms) [] rs le f g s i j = absurd i
    shift_blocks ((a ∷ as') ∷ (c ∷ cs) ∷ ls) ((b ∷ bs) ∷ (d ∷ ds) ∷ ms) (q ∷ qs) [] le f g s i j = absurd j
    shift_blocks ((a ∷ as') ∷ (c ∷ cs) ∷ ls) ((b ∷ bs) ∷ (d ∷ ds) ∷ ms) (q ∷ qs) (r ∷ rs) le f g s i j =
        let same : t.marker c ≡ t.marker d = k.flags (c ∷ cs) (d ∷ ds) s.1.0 in
        elim (front q (a ∷ as') qs c cs ls i) [
          | inl x ↦ elim (front r (b ∷ bs) rs d ds ms j) [
            | inl y ↦ (k.ones_keep q r (a ∷ as') (b ∷ bs) x.0 y.0 s.0, shift_blocks ((c ∷ cs) ∷ ls) ((d ∷ ds) ∷ ms) qs rs (omega arith) f g s.1 x.1 y.1)
            | inr y ↦ absurd (not_both t good c (same ∙ y.2) x.2)
          ]
          | inr x ↦ elim (front r (b ∷ bs) rs d ds ms j) [
            | inl y ↦ absurd (not_both t good c x.2 (same ∙ y.2))
            | inr y ↦ (k.twos_keep q r (a ∷ as') (b ∷ bs) (c ∷ cs) (d ∷ ds) x.0 y.0 s.0 s.1.0, shift_blocks ls ms qs rs (omega arith) f g s.1.1 x.1 y.1)
          ]
        ]
