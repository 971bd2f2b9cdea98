-- The reader of certificates follows their grammar.
use Rattle.std.proofs.Common.{arith, ◌≡◌, ℕ, ◌+◌, ◌≤◌, ◌<◌, ◌^◌, List, [], ◌∷◌, ◌++◌, Option, Some, None, true, Result, Ok, refl, ap, ◌∙◌}
use Rattle.std.specs.Prelude.{codes}
use Rattle.wt_grid.specs.declared.image.Image.TheVariants as image
use Rattle.wt_grid.specs.declared.image.Image.{Image}
use Rattle.wt_grid.specs.declared.axis.Axis.TheVariants as axes
use Rattle.wt_grid.specs.declared.axis.Side.TheVariants.{After, Before}
use Rattle.wt_grid.specs.declared.axis.Axis.{Axis}
use Rattle.wt_grid.specs.declared.axis.Side.{Side}
use Rattle.wt_line.specs.declared.faults.What.{What}
use Rattle.wt_line.specs.declared.faults.What.TheVariants.{Steps, Radius, Tiles, Pairs, Expansion, Number}
use Rattle.wt_line.specs.Limits.{small}
use Rattle.wt_text.specs.Lines.{Line}
use Rattle.wt_text.specs.Readers.{◌>>=◌, pair, mapped, Either, first, second, value_behind, seen_value, one_line}
use Rattle.wt_text.proofs.Texts.{line_part}
use Rattle.wt_pattern.specs.TileRows.{no_state}
use Rattle.wt_chain.specs.declared.raw.Version.{Version}
use Rattle.wt_chain.specs.declared.raw.Version.TheVariants as versions
use Rattle.wt_chain.specs.declared.raw.End.TheVariants.{Open}
use Rattle.wt_cert.specs.LineForms.{alone_form, count_form, numbers_form, version_form, steps_form, marker_head, restrict_head, kind_of_step, head_form, allowed_form, pair_form, may_cite, radius_in, refuted_form, lost_form, image_of, image_behind, image_in, image_form, end_form, Head}
use Rattle.wt_cert.specs.Parts.{to_refuted, with_refuted, to_lost, with_lost, to_marker, to_restrict, next_step, to_loop, to_chain, tiles_part, numbers_part, allowed_part, refuted_row, refuted_part, lost_row, lost_part, images_part, marker_part, restrict_part, block_part, link_part, steps_part, end_behind, end_part, chain_part, cert_part}
use Rattle.wt_cert.proofs.LineLaws as laws
use Rattle.wt_faults.specs.Grammars.{Quantity, first_past, one, many, many_in_turn}
use Rattle.wt_faults.specs.Forms.{behind_word, seen}
use Rattle.wt_faults.specs.Certificates.{a_small, word_line, count_line, numbers_line, version_line, steps_line, marker_said, restrict_said, kind_said, head_line, allowed_line, pair_line, radius_said, refuted_line, lost_line, second_tile, image_line, end_line, tiles_grammar, allowed_grammar, refuted_entry, refuted_grammar, lost_entry, lost_grammar, images_grammar, marker_grammar, restrict_grammar, block_grammar, link_grammar, steps_grammar, renaming_behind, cert_grammar}
use Rattle.wt_faults.proofs.Follows.{IsRead, IsOfForm, one_read, seen_read, behind_read, both_read, none_read, many_read, turn_read, counted_read}
use Rattle.wt_faults.proofs.FormLaws.{held, tokens_say, IsSaid, number_said, from_one_said, behind_said, both_said, held_both, whole_said}
use Rattle.wt_faults.proofs.TokenLaws.{word_said, known_said, as_seen, either_said, this_said, counted_said}
use Rattle.wt_faults.proofs.TreeLimitLaws.{tree_law}
use Rattle.wt_faults.proofs.RowReads.{set_read}

-- ---- lines

small_said : IsSaid small a_small
small_said = number_said 65535 Number

word_of : (w : List ℕ) → IsOfForm (alone_form w) (word_line w)
unfolding alone_form
word_of w = whole_said (behind_said w (known_said tt))

count_of : (w : List ℕ) (most : ℕ) (what : What) → IsOfForm (count_form w most what) (count_line w most what)
unfolding count_form
count_of w most what = whole_said (behind_said w (number_said most what))

numbers_of : (w : List ℕ) → IsOfForm (numbers_form w) (numbers_line w)
unfolding numbers_form
numbers_of w = whole_said (behind_said w (counted_said 256 Tiles 65535 Number))

version_of : IsOfForm version_form version_line
unfolding version_form
version_of = whole_said (behind_said (codes "certificate") (word_said (codes "1") versions.One (codes "2") versions.Two))

steps_of : IsOfForm steps_form steps_line
unfolding steps_form
steps_of = whole_said (behind_said (codes "steps") (from_one_said 32 Steps))

marker_of : IsSaid marker_head marker_said
marker_of = both_said (word_said (codes "1") axes.One (codes "2") axes.Two) (behind_said (codes "side") (both_said (word_said (codes "after") After (codes "before") Before) (behind_said (codes "radius") (number_said 4 Radius))))

restrict_of : IsSaid restrict_head restrict_said
restrict_of = behind_said (codes "radius") (number_said 4 Radius)

kind_of : (version : Version) → IsSaid (kind_of_step version) (kind_said version)
kind_of versions.One =
    let law : IsSaid {A = Head} (λ ts. seen_value first (value_behind (codes "axis") marker_head ts)) (seen first (behind_word (codes "axis") marker_said)) = as_seen first (behind_said (codes "axis") marker_of) in
    record { same = law.same }
kind_of versions.Two = record { same = (either_said (codes "axis") (codes "restrict") marker_of restrict_of).same }

head_of : (version : Version) (k : ℕ) → k < 2 ^ 64 → IsOfForm (head_form version k) (head_line version k)
unfolding head_form
head_of version k lt = whole_said (behind_said (codes "step") (this_said k lt (kind_of version)))

allowed_of : (a : List ℕ) → IsOfForm (allowed_form a) (allowed_line a)
unfolding allowed_form
allowed_of a = whole_said (behind_said (codes "allowed") (behind_said a (number_said 65536 Pairs)))

pair_of : IsOfForm pair_form pair_line
unfolding pair_form
pair_of = whole_said (both_said small_said small_said)

radius_of : (version : Version) (r : ℕ) → IsSaid (radius_in version r) (radius_said version r)
radius_of versions.One r = record { same = λ ts. refl }
radius_of versions.Two r = record { same = (number_said 4 Radius).same }

refuted_of : (version : Version) (r nodes : ℕ) → IsOfForm (refuted_form version r nodes) (refuted_line version r nodes)
unfolding refuted_form
refuted_of version r nodes = whole_said (both_said (word_said (codes "1") axes.One (codes "2") axes.Two) (both_said small_said (both_said small_said (both_said (radius_of version r) (tree_law (may_cite version) nodes)))))

lost_of : (nodes : ℕ) → IsOfForm (lost_form nodes) (lost_line nodes)
unfolding lost_form
lost_of nodes = whole_said (both_said small_said (tree_law true nodes))

image_said : IsSaid image_in (λ ts. a_small ts >>= λ u. second_tile u.0 u.1)
image_said = record { same = λ ts. ap (λ (o : Option (Result ℕ What × List (List ℕ))). o >>= λ u. image_behind u.0 u.1) (small_said.same ts) ∙ by (a_small ts) }
  where
    alone : (u : ℕ) (o : Option What) → mapped image.One (held u o) ≡ held (image.One u) o
    alone u None = refl
    alone u (Some what) = refl

    made : (x : ℕ × ℕ) (o : Option What) → mapped image_of (held x o) ≡ held (image_of x) o
    made x None = refl
    made x (Some what) = refl

    right : (u : ℕ × List Quantity) (o : Option ((ℕ × List Quantity) × List (List ℕ)))
        → (tokens_say o >>= λ v. Some (mapped image_of (pair (held u.0 (first_past u.1)) v.0), v.1)) ≡ tokens_say (o >>= λ v. Some ((image_of (u.0, v.0.0), u.1 ++ v.0.1), v.1))
    right u None = refl
    right u (Some v) =
        ap (λ (r : Result (ℕ × ℕ) What). Some (mapped image_of r, v.1)) (held_both u.0 v.0.0 u.1 v.0.1)
        ∙ ap (λ (r : Result Image What). Some (r, v.1)) (made (u.0, v.0.0) (first_past (u.1 ++ v.0.1)))

    left : (u : ℕ × List Quantity) (ts : List (List ℕ)) → image_behind (held u.0 (first_past u.1)) ts ≡ tokens_say (second_tile u ts)
    left u [] = ap (λ (r : Result Image What). Some (r, [])) (alone u.0 (first_past u.1))
    left u (t ∷ ts) = ap (λ (o : Option (Result ℕ What × List (List ℕ))). o >>= λ v. Some (mapped image_of (pair (held u.0 (first_past u.1)) v.0), v.1)) (small_said.same (t ∷ ts)) ∙ right u (a_small (t ∷ ts))

    by : (o : Option ((ℕ × List Quantity) × List (List ℕ))) → (tokens_say o >>= λ u. image_behind u.0 u.1) ≡ tokens_say (o >>= λ u. second_tile u.0 u.1)
    by None = refl
    by (Some u) = left u.0 u.1

image_line_of : IsOfForm image_form image_line
unfolding image_form
image_line_of = whole_said image_said

end_of : IsOfForm end_form end_line
unfolding end_form
end_of = whole_said (either_said (codes "open") (codes "loop") (known_said tt) (both_said small_said (number_said 256 Expansion)))

-- ---- parts

tiles_read : (w : List ℕ) → IsRead (tiles_part w) (tiles_grammar w)
unfolding tiles_part
tiles_read w = behind_read (one_read (count_of w 256 Tiles)) set_read

numbers_read : (w : List ℕ) → IsRead (numbers_part w) (one (numbers_line w))
unfolding numbers_part
numbers_read w = one_read (numbers_of w)

allowed_read : (a : List ℕ) → IsRead (allowed_part a) (allowed_grammar a)
unfolding allowed_part
allowed_read a = counted_read _ (many (one pair_line)) no_state 0 (one_read (allowed_of a)) (λ p q n e. many_read no_state (λ s. one_read pair_of) 0 n)

refuted_row_read : (version : Version) (r nodes : ℕ) → IsRead (refuted_row version r nodes) (refuted_entry version r nodes)
unfolding refuted_row
refuted_row_read version r nodes = seen_read to_refuted (one_read (refuted_of version r nodes))

refuted_read : (version : Version) (r nodes : ℕ) → IsRead (refuted_part version r nodes) (refuted_grammar version r nodes)
unfolding refuted_part
refuted_read version r nodes = counted_read _ (many_in_turn (refuted_entry version r) with_refuted nodes) with_refuted nodes (one_read (count_of (codes "refuted") 131072 Pairs))
    (λ p q n e. turn_read with_refuted (λ s n. Unit {0}) (λ s n can. refuted_row_read version r s) (λ s x n can. tt) nodes n tt)

lost_row_read : (nodes : ℕ) → IsRead (lost_row nodes) (lost_entry nodes)
unfolding lost_row
lost_row_read nodes = seen_read to_lost (one_read (lost_of nodes))

lost_read : (nodes : ℕ) → IsRead (lost_part nodes) (lost_grammar nodes)
unfolding lost_part
lost_read nodes = counted_read _ (many_in_turn lost_entry with_lost nodes) with_lost nodes (one_read (count_of (codes "lost") 256 Tiles))
    (λ p q n e. turn_read with_lost (λ s n. Unit {0}) (λ s n can. lost_row_read s) (λ s x n can. tt) nodes n tt)

images_read : IsRead images_part images_grammar
unfolding images_part
images_read = counted_read _ (many (one image_line)) no_state 0 (one_read (count_of (codes "images") 256 Tiles)) (λ p q n e. many_read no_state (λ s. one_read image_line_of) 0 n)

marker_read : (version : Version) (nodes : ℕ) (head : Axis × (Side × ℕ)) → IsRead (marker_part version nodes head) (marker_grammar version nodes head)
unfolding marker_part
marker_read version nodes head = seen_read (to_marker head)
    (both_read (tiles_read (codes "fine"))
    (both_read (tiles_read (codes "coarse"))
    (both_read (numbers_read (codes "markers"))
    (both_read (allowed_read (codes "1"))
    (both_read (allowed_read (codes "2"))
    (both_read (refuted_read version head.1.1 nodes)
    images_read))))))

restrict_read : (nodes radius : ℕ) → IsRead (restrict_part nodes radius) (restrict_grammar nodes radius)
unfolding restrict_part
restrict_read nodes radius = seen_read (to_restrict radius)
    (both_read (tiles_read (codes "fine"))
    (both_read (tiles_read (codes "coarse"))
    (both_read (numbers_read (codes "kept"))
    (lost_read nodes))))

block_read : (version : Version) (nodes : ℕ) (head : Head) → IsRead (block_part version nodes head) (block_grammar version nodes head)
block_read version nodes (first head) = record { same = (marker_read version nodes head).same }
block_read version nodes (second radius) = record { same = (restrict_read nodes radius).same }

link_read : (version : Version) (k nodes : ℕ) → k < 2 ^ 64 → IsRead (link_part version k nodes) (link_grammar version (k, nodes))
unfolding link_part
link_read version k nodes lt = behind_read (one_read (head_of version k lt)) (block_read version nodes)

-- a count of steps that is read is at most 32
few_steps : (p q : ℕ × List Line) (n : ℕ) → one_line steps_form p ≡ Ok (n, q) → n ≤ 32
few_steps p q n e = ((line_part laws.steps_line).found p n q e).1.0

steps_read : (version : Version) → IsRead (steps_part version) (steps_grammar version)
unfolding steps_part
steps_read version = counted_read _ (many_in_turn (link_grammar version) next_step (0, 0)) next_step (0, 0) (one_read steps_of)
    (λ p q n e. turn_read next_step (λ s n. s.0 + n ≤ 32) (λ s n can. link_read version s.0 s.1 (omega (arith, can))) (λ s x n can. omega (arith, can)) (0, 0) n (let le = few_steps p q n e in omega (arith, le)))

end_behind_read : (e : Either (Unit {0}) (ℕ × ℕ)) → IsRead (end_behind e) (renaming_behind e)
end_behind_read (first u) = record { same = (none_read Open).same }
end_behind_read (second x) = record { same = (seen_read (to_loop x) (numbers_read (codes "renaming"))).same }

end_read : IsRead end_part (λ next. one end_line (λ e. renaming_behind e next))
unfolding end_part
end_read = behind_read (one_read end_of) end_behind_read

chain_read : (version : Version) → IsRead (chain_part version) (λ next. steps_grammar version (λ steps. one end_line (λ e. renaming_behind e (λ end. one (word_line (codes "end")) (λ u. next (to_chain version (steps, (end, u))))))))
unfolding chain_part
chain_read version = seen_read (to_chain version) (both_read (steps_read version) (both_read end_read (one_read (word_of (codes "end")))))

pub cert_read : IsRead cert_part cert_grammar
unfolding cert_part
cert_read = behind_read (one_read version_of) chain_read
