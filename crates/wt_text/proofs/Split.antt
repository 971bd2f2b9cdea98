-- Bytes as lines of tokens, and back.
use Rattle.std.proofs.Common.{rules, arith, ◌≡◌, ℕ, zero, suc, ◌+◌, List, [], ◌∷◌, ◌++◌, Bool, true, false, cond, nat_eq, refl, sym, ap, ◌∙◌, append_assoc, subst}
use Rattle.std.specs.List.{flat_map}
use Rattle.std.proofs.lemmas.Bool.{eqb-true}
use Rattle.wt_text.specs.Words.{tokens, in_first, spaced}
use Rattle.wt_text.specs.Lines.{Line, lines, in_line, line_of, bytes_of}
use Rattle.wt_text.specs.Spellings.{IsClean, AllFit, IsNotEmpty}

pub some_tokens : (bs : List ℕ) → IsNotEmpty (tokens bs)
some_tokens [] = tt
some_tokens (b ∷ bs) = go (nat_eq b 32) (tokens bs)
  where
    go : (s : Bool) (ts : List (List ℕ)) → IsNotEmpty (cond s ([] ∷ ts) (in_first b ts))
    go true ts = tt
    go false [] = tt
    go false (t ∷ ts) = tt

spaced_first : (b : ℕ) (ts : List (List ℕ)) → spaced (in_first b ts) ≡ b ∷ spaced ts
spaced_first b [] = refl
spaced_first b (t ∷ []) = refl
spaced_first b (t ∷ u ∷ ts) = refl

spaced_empty : (ts : List (List ℕ)) → IsNotEmpty ts → spaced ([] ∷ ts) ≡ 32 ∷ spaced ts
spaced_empty [] s = absurd s
spaced_empty (t ∷ ts) s = refl

-- a line is its tokens with spaces between them
pub spaced_tokens : (bs : List ℕ) → spaced (tokens bs) ≡ bs
spaced_tokens [] = refl
spaced_tokens (b ∷ bs) = go (nat_eq b 32) refl (spaced_tokens bs)
  where
    go : (s : Bool) → nat_eq b 32 ≡ s → spaced (tokens bs) ≡ bs → spaced (cond s ([] ∷ tokens bs) (in_first b (tokens bs))) ≡ b ∷ bs
    go true e r = spaced_empty (tokens bs) (some_tokens bs) ∙ ap (λ (x : List ℕ). 32 ∷ x) r ∙ ap (λ (x : ℕ). x ∷ bs) (sym (eqb-true b 32 e))
    go false e r = spaced_first b (tokens bs) ∙ ap (λ (x : List ℕ). b ∷ x) r

one_token : (t : List ℕ) → IsClean t → tokens t ≡ t ∷ []
one_token [] c = refl
one_token (b ∷ bs) c = rw (c.0, one_token bs c.2) refl

first_token : (t bs : List ℕ) → IsClean t → tokens (t ++ 32 ∷ bs) ≡ t ∷ tokens bs
first_token [] bs c = refl
first_token (b ∷ t) bs c = rw (c.0, first_token t bs c.2) refl

-- clean tokens are those of their line
pub tokens_spaced : (ts : List (List ℕ)) → IsNotEmpty ts → AllFit IsClean ts → tokens (spaced ts) ≡ ts
tokens_spaced [] s c = absurd s
tokens_spaced (t ∷ []) s c = one_token t c.0
tokens_spaced (t ∷ u ∷ ts) s c = first_token t (spaced (u ∷ ts)) c.0 ∙ ap (λ (r : List (List ℕ)). t ∷ r) (tokens_spaced (u ∷ ts) tt c.1)

-- the bytes of a text are those of its lines
pub bytes_lines : (bs : List ℕ) → bytes_of (lines bs) ≡ bs
bytes_lines [] = refl
bytes_lines (b ∷ bs) = go (nat_eq b 10) refl (bytes_lines bs)
  where
    front : (ls : List Line) → bytes_of (in_line b ls) ≡ b ∷ bytes_of ls
    front [] = refl
    front (l ∷ ls) = refl

    go : (s : Bool) → nat_eq b 10 ≡ s → bytes_of (lines bs) ≡ bs → bytes_of (cond s (record { text = []; ended = true } ∷ lines bs) (in_line b (lines bs))) ≡ b ∷ bs
    go true e r = ap (λ (x : List ℕ). 10 ∷ x) r ∙ ap (λ (x : ℕ). x ∷ bs) (sym (eqb-true b 10 e))
    go false e r = front (lines bs) ∙ ap (λ (x : List ℕ). b ∷ x) r

-- a line of clean tokens, and any lines behind it
front_line : (t bs : List ℕ) (text : List ℕ) (ls : List Line) → IsClean t → lines bs ≡ record { text = text; ended = true } ∷ ls → lines (t ++ bs) ≡ record { text = t ++ text; ended = true } ∷ ls
front_line [] bs text ls c e = e
front_line (b ∷ t) bs text ls c e = rw (c.1, front_line t bs text ls c.2 e) refl

pub line_split : (ts : List (List ℕ)) (bs : List ℕ) → AllFit IsClean ts → lines (spaced ts ++ 10 ∷ bs) ≡ line_of ts ∷ lines bs
line_split [] bs c = refl
line_split (t ∷ []) bs c = front_line t (10 ∷ bs) [] (lines bs) c.0 refl ∙ ap (λ (x : List ℕ). record { text = x; ended = true } ∷ lines bs) (simp append_nil)
  where
    append_nil : (x : List ℕ) → x ++ [] ≡ x
    append_nil [] = refl
    append_nil (y ∷ ys) = ap (λ (r : List ℕ). y ∷ r) (append_nil ys)
line_split (t ∷ u ∷ ts) bs c =
    let r : lines (32 ∷ (spaced (u ∷ ts) ++ 10 ∷ bs)) ≡ record { text = 32 ∷ spaced (u ∷ ts); ended = true } ∷ lines bs = rw (line_split (u ∷ ts) bs c.1) refl in
    rw (append_assoc t (32 ∷ spaced (u ∷ ts)) (10 ∷ bs)) (front_line t (32 ∷ (spaced (u ∷ ts) ++ 10 ∷ bs)) (32 ∷ spaced (u ∷ ts)) (lines bs) c.0 r)

-- lines of clean tokens
unfoldable pub AllClean : List Line → Type 0
AllClean [] = Unit {0}
AllClean (l ∷ ls) = ((ts : List (List ℕ)) × (l ≡ line_of ts) × AllFit IsClean ts) × AllClean ls

pub lines_again : (ls : List Line) → AllClean ls → lines (bytes_of ls) ≡ ls
unfolding AllClean
lines_again [] c = refl
lines_again (l ∷ ls) c =
    let P : Line → Type 0 = λ y. lines (bytes_of (y ∷ ls)) ≡ y ∷ ls in
    subst P (sym c.0.1) (line_split c.0.0 (bytes_of ls) c.0.2 ∙ ap (λ (x : List Line). line_of c.0.0 ∷ x) (lines_again ls c.1))
