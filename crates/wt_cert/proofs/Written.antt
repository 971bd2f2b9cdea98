-- Lines and tokens that are written one after the other.
use Rattle.std.proofs.Common.{◌≡◌, ℕ, suc, ◌+◌, Bool, true, false, List, [], ◌∷◌, ◌++◌, ◌<◌, if◌then◌else◌, length, get_or, map, drop, refl, sym, ap, ◌∙◌, append_assoc}
use Rattle.wt_grid.specs.declared.axis.Axis.{Axis}
use Rattle.std.proofs.lemmas.List.{append-nil}
use Rattle.std.specs.Fmt.{decimal}
use Rattle.wt_refute.specs.declared.tree.Child.{Child}
use Rattle.wt_refute.specs.Refutation.{Refutation, Branches, branch, cite, branch_count}
use Rattle.wt_refute.specs.View.{refutation, children_view}
use Rattle.wt_refute.proofs.Children.{view_more}
use Rattle.wt_cert.specs.Trees.{tree_spelling, branches_spelling, axis_word}
use Rattle.wt_text.specs.Lines.{Line, line_of, bytes_of}
use Rattle.wt_write.specs.Behind.{behind_spaces}
use Rattle.wt_write.proofs.Spaces.{spaced_first, behind_both}

one_line : (l : Line) (a b : List ℕ) → l.text ++ (if l.ended then 10 ∷ (a ++ b) else a ++ b) ≡ (l.text ++ (if l.ended then 10 ∷ a else a)) ++ b
one_line l a b = go l.ended
  where
    go : (e : Bool) → l.text ++ (if e then 10 ∷ (a ++ b) else a ++ b) ≡ (l.text ++ (if e then 10 ∷ a else a)) ++ b
    go true = sym (append_assoc l.text (10 ∷ a) b)
    go false = sym (append_assoc l.text a b)

-- the bytes of lines behind others
pub bytes_both : (a b : List Line) → bytes_of (a ++ b) ≡ bytes_of a ++ bytes_of b
bytes_both [] b = refl
bytes_both (l ∷ ls) b = ap (λ (x : List ℕ). l.text ++ (if l.ended then 10 ∷ x else x)) (bytes_both ls b) ∙ one_line l (bytes_of ls) (bytes_of b)

-- the bytes of a line of its own
pub bytes_line : (t : List ℕ) (ts : List (List ℕ)) → bytes_of (line_of (t ∷ ts) ∷ []) ≡ t ++ (behind_spaces ts ++ 10 ∷ [])
bytes_line t ts = ap (λ (x : List ℕ). x ++ 10 ∷ []) (spaced_first t ts) ∙ append_assoc t (behind_spaces ts) (10 ∷ [])

-- a word, a count and n numbers
pub list_written : (out word a b c d : List ℕ) (n : ℕ) (ns : List ℕ) → a ≡ out ++ word → b ≡ a ++ 32 ∷ decimal n → c ≡ b ++ behind_spaces (map decimal ns) → d ≡ c ++ 10 ∷ [] → d ≡ out ++ bytes_of (line_of (word ∷ decimal n ∷ map decimal ns) ∷ [])
list_written out word a b c d n ns ea eb ec ed = rw (ed, ec, eb, ea, bytes_line word (decimal n ∷ map decimal ns)) (simp append_assoc refl)

-- a number, and then a tree
pub lost_written : (out a b d : List ℕ) (n tile : ℕ) (ts : List (List ℕ)) → n ≡ tile → a ≡ out ++ decimal n → b ≡ a ++ behind_spaces ts → d ≡ b ++ 10 ∷ [] → d ≡ out ++ bytes_of (line_of (decimal tile ∷ ts) ∷ [])
lost_written out a b d n tile ts e ea eb ed = rw (ed, eb, ea, e, bytes_line (decimal tile) ts) (simp append_assoc refl)

-- an axis, two tiles, maybe a radius, and then a tree
pub refutation_written : (out word a b c d e f : List ℕ) (n m x y : ℕ) (rs ts : List (List ℕ)) → n ≡ x → m ≡ y → a ≡ out ++ word → b ≡ a ++ 32 ∷ decimal n → c ≡ b ++ 32 ∷ decimal m → d ≡ c ++ behind_spaces rs → e ≡ d ++ behind_spaces ts → f ≡ e ++ 10 ∷ []
    → f ≡ out ++ bytes_of (line_of (word ∷ decimal x ∷ decimal y ∷ (rs ++ ts)) ∷ [])
refutation_written out word a b c d e f n m x y rs ts en em ea eb ec ed ee ef = rw (ef, ee, ed, ec, eb, ea, en, em, bytes_line word (decimal x ∷ decimal y ∷ (rs ++ ts)), behind_both rs ts) (simp append_assoc refl)

-- ---- trees

count_children : (cs : List Child) → branch_count (children_view cs) ≡ length cs
count_children [] = refl
count_children (c ∷ cs) = ap suc (count_children cs)

pub cite_written : (out a b : List ℕ) (n cell : ℕ) (axis : Axis) (t : Refutation) → t ≡ cite cell axis → n ≡ cell → a ≡ out ++ 32 ∷ decimal n → b ≡ a ++ 32 ∷ axis_word axis → b ≡ out ++ behind_spaces (tree_spelling t)
cite_written out a b n cell axis t et e ea eb = rw (eb, ea, e, et) (simp (append_assoc, append-nil) refl)

pub branch_begins : (out a b : List ℕ) (n cell m : ℕ) (cs : List Child) (t : Refutation) → t ≡ branch cell (children_view cs) → n ≡ cell → m ≡ length cs → a ≡ out ++ 32 ∷ decimal n → b ≡ a ++ 32 ∷ decimal m
    → b ++ behind_spaces (branches_spelling (children_view cs)) ≡ out ++ behind_spaces (tree_spelling t)
branch_begins out a b n cell m cs t et en em ea eb = rw (eb, ea, en, em, et, count_children cs) (simp append_assoc refl)

pub child_written : (out a b total : List ℕ) (n : ℕ) (cs : List Child) (i : ℕ) (child : Child) → i < length cs → child ≡ get_or cs i child → n ≡ child.tile → a ≡ out ++ 32 ∷ decimal n → b ≡ a ++ behind_spaces (tree_spelling (refutation child.tree))
    → out ++ behind_spaces (branches_spelling (children_view (drop i cs))) ≡ total → b ++ behind_spaces (branches_spelling (children_view (drop (i + 1) cs))) ≡ total
child_written out a b total n cs i child lt at en ea eb so_far =
    let v = view_more cs i child lt at in
    let rest = branches_spelling (children_view (drop (i + 1) cs)) in
    let e : out ++ behind_spaces (branches_spelling (children_view (drop i cs))) ≡ out ++ behind_spaces (decimal child.tile ∷ (tree_spelling (refutation child.tree) ++ rest)) = ap (λ (x : Branches). out ++ behind_spaces (branches_spelling x)) v in
    let f : b ++ behind_spaces rest ≡ out ++ behind_spaces (decimal child.tile ∷ (tree_spelling (refutation child.tree) ++ rest)) = rw (eb, ea, en, behind_both (tree_spelling (refutation child.tree)) rest) (simp append_assoc refl) in
    f ∙ sym e ∙ so_far
