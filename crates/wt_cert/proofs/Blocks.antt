-- Parts of a certificate that are written one after the other.
use Rattle.std.proofs.Common.{◌≡◌, ℕ, ◌+◌, ◌<◌, List, [], ◌∷◌, ◌++◌, length, get_or, drop, drop-cons, add-one, codes, refl, sym, ap, ◌∙◌, append_assoc}
use Rattle.std.specs.Fmt.{decimal}
use Rattle.wt_step.specs.declared.raw.RawLink.{RawLink}
use Rattle.wt_chain.specs.declared.raw.Version.{Version}
use Rattle.wt_chain.specs.declared.raw.End.TheVariants.{Loop}
use Rattle.wt_text.specs.Lines.{Line, bytes_of}
use Rattle.wt_cert.specs.Spelling.{line, numbers_tokens, link_lines, blocks_lines, end_lines}
use Rattle.wt_cert.proofs.Written.{bytes_both}

-- lines behind lines
pub written : (out o1 o2 : List ℕ) (a b : List Line) → o1 ≡ out ++ bytes_of a → o2 ≡ o1 ++ bytes_of b → o2 ≡ out ++ bytes_of (a ++ b)
written out o1 o2 a b e1 e2 = rw (e2, e1, bytes_both a b) (append_assoc out (bytes_of a) (bytes_of b))

at_index : {A : Type 0} (xs : List A) (i : ℕ) (x : A) → i < length xs → x ≡ get_or xs i x → drop i xs ≡ x ∷ drop (i + 1) xs
at_index xs i x lt e = rw (add-one, drop-cons xs i x, ← e)

-- one block more
pub block_written : (version : Version) (links : List RawLink) (k : ℕ) (x : RawLink) (out new total : List ℕ) → k < length links → x ≡ get_or links k x → new ≡ out ++ bytes_of (link_lines version k x)
    → out ++ bytes_of (blocks_lines version k (drop k links)) ≡ total → new ++ bytes_of (blocks_lines version (k + 1) (drop (k + 1) links)) ≡ total
block_written version links k x out new total lt at n so_far =
    let rest = blocks_lines version (k + 1) (drop (k + 1) links) in
    let d : blocks_lines version k (drop k links) ≡ link_lines version k x ++ rest = ap (blocks_lines version k) (at_index links k x lt at) in
    let e : bytes_of (blocks_lines version k (drop k links)) ≡ bytes_of (link_lines version k x) ++ bytes_of rest = ap bytes_of d ∙ bytes_both (link_lines version k x) rest in
    ap (λ (y : List ℕ). y ++ bytes_of rest) n ∙ append_assoc out (bytes_of (link_lines version k x)) (bytes_of rest) ∙ ap (λ (y : List ℕ). out ++ y) (sym e) ∙ so_far

-- the two lines of a loop
pub loop_written : (out a b c d e : List ℕ) (n m start expansion : ℕ) (renaming : List ℕ) → n ≡ start → m ≡ expansion → a ≡ out ++ codes "loop" → b ≡ a ++ 32 ∷ decimal n → c ≡ b ++ 32 ∷ decimal m → d ≡ c ++ 10 ∷ []
    → e ≡ d ++ bytes_of (line (numbers_tokens (codes "renaming") renaming)) → e ≡ out ++ bytes_of (end_lines (Loop start renaming expansion))
loop_written out a b c d e n m start expansion renaming en em ea eb ec ed ee = rw (ee, ed, ec, eb, ea, en, em) (simp append_assoc refl)

-- the same lines of the same value
pub as_lines : {A : Type 0} (f : A → List Line) (x y : A) (out new : List ℕ) → x ≡ y → new ≡ out ++ bytes_of (f x) → new ≡ out ++ bytes_of (f y)
as_lines f x y out new e h = h ∙ ap (λ (z : _). out ++ bytes_of (f z)) e

-- bytes behind bytes
step : (out o1 o2 x y : List ℕ) → o1 ≡ out ++ x → o2 ≡ o1 ++ y → o2 ≡ out ++ (x ++ y)
step out o1 o2 x y e1 e2 = e2 ∙ ap (λ (z : List ℕ). z ++ y) e1 ∙ append_assoc out x y

moved : (k p axis q side r radius t : List ℕ) → (k ++ (p ++ (axis ++ (q ++ (side ++ (r ++ radius)))))) ++ t ≡ k ++ (p ++ (axis ++ (q ++ (side ++ (r ++ (radius ++ t))))))
moved k p axis q side r radius t = simp append_assoc refl

-- the first line of a marker step
pub head_written : (out a b c d e f g h i axis side : List ℕ) (k n radius : ℕ) → n ≡ radius → a ≡ out ++ codes "step" → b ≡ a ++ 32 ∷ decimal k → c ≡ b ++ codes " axis " → d ≡ c ++ axis → e ≡ d ++ codes " side " → f ≡ e ++ side → g ≡ f ++ codes " radius" → h ≡ g ++ 32 ∷ decimal n → i ≡ h ++ 10 ∷ []
    → i ≡ out ++ bytes_of (line (codes "step" ∷ decimal k ∷ codes "axis" ∷ axis ∷ codes "side" ∷ side ∷ codes "radius" ∷ decimal radius ∷ []))
head_written out a b c d e f g h i axis side k n radius en ea eb ec ed ee ef eg eh ei =
    let dk = decimal k in
    let dr = decimal radius in
    let eh' : h ≡ g ++ 32 ∷ dr = eh ∙ ap (λ (m : ℕ). g ++ 32 ∷ decimal m) en in
    let s8 : i ≡ g ++ ((32 ∷ dr) ++ 10 ∷ []) = step g h i (32 ∷ dr) (10 ∷ []) eh' ei in
    let s7 : i ≡ f ++ (codes " radius" ++ ((32 ∷ dr) ++ 10 ∷ [])) = step f g i (codes " radius") ((32 ∷ dr) ++ 10 ∷ []) eg s8 in
    let t7 : List ℕ = codes " radius" ++ ((32 ∷ dr) ++ 10 ∷ []) in
    let s6 : i ≡ e ++ (side ++ t7) = step e f i side t7 ef s7 in
    let s5 : i ≡ d ++ (codes " side " ++ (side ++ t7)) = step d e i (codes " side ") (side ++ t7) ee s6 in
    let t5 : List ℕ = codes " side " ++ (side ++ t7) in
    let s4 : i ≡ c ++ (axis ++ t5) = step c d i axis t5 ed s5 in
    let s3 : i ≡ b ++ (codes " axis " ++ (axis ++ t5)) = step b c i (codes " axis ") (axis ++ t5) ec s4 in
    let t3 : List ℕ = codes " axis " ++ (axis ++ t5) in
    let s2 : i ≡ a ++ ((32 ∷ dk) ++ t3) = step a b i (32 ∷ dk) t3 eb s3 in
    let s1 : i ≡ out ++ (codes "step" ++ ((32 ∷ dk) ++ t3)) = step out a i (codes "step") ((32 ∷ dk) ++ t3) ea s2 in
    s1 ∙ ap (λ (y : List ℕ). out ++ (codes "step " ++ y)) (sym (moved dk (codes " axis ") axis (codes " side ") side (codes " radius ") dr (10 ∷ [])))
