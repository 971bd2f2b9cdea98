-- The parts of a certificate, both ways.
use Rattle.std.proofs.Common.{rules, arith, ◌≡◌, ℕ, suc, ◌+◌, ◌≤◌, ◌<◌, ◌^◌, true, List, [], ◌∷◌, ◌++◌, length, refl, sym, ap, subst, codes}
use Rattle.wt_grid.specs.declared.image.Image.{Image}
use Rattle.wt_grid.specs.declared.axis.Side.{Side}
use Rattle.wt_grid.specs.declared.axis.Axis.{Axis}
use Rattle.std.specs.Fmt.{decimal}
use Rattle.wt_line.specs.declared.faults.What.TheVariants.{Tiles, Pairs}
use Rattle.wt_tile.specs.declared.tile.TileList.{TileList}
use Rattle.wt_refute.specs.Refutation.{Refutation}
use Rattle.wt_refute.specs.View.{refutation}
use Rattle.wt_refute.specs.declared.tree.Refuted.{Refuted}
use Rattle.wt_step.specs.declared.raw.Lost.{Lost}
use Rattle.wt_step.specs.declared.raw.RawStep.{RawStep}
use Rattle.wt_step.specs.declared.raw.RawRestrict.{RawRestrict}
use Rattle.wt_step.specs.declared.raw.RawLink.{RawLink}
use Rattle.wt_step.specs.declared.raw.RawLink.TheVariants.{Marker, Restrict}
use Rattle.wt_chain.specs.declared.raw.Version.{Version}
use Rattle.wt_chain.specs.declared.raw.Version.TheVariants as versions
use Rattle.wt_chain.specs.declared.raw.End.{End}
use Rattle.wt_chain.specs.declared.raw.End.TheVariants.{Open, Loop}
use Rattle.wt_chain.specs.declared.raw.RawChain.{RawChain}
use Rattle.wt_text.specs.Lines.{Line, line_of}
use Rattle.wt_text.specs.Readers.{Either, first, second}
use Rattle.wt_text.specs.Spellings.{IsClean, AllFit, line_spelling, FitInTurn, flat_in_turn}
use Rattle.wt_text.proofs.Texts.{IsPart, line_part, both_part, counted_part}
use Rattle.wt_text.proofs.Bounded.{bounded_part}
use Rattle.wt_pattern.specs.TileRows.{no_state}
use Rattle.wt_pattern.proofs.SetTexts.{tiles_law, listed_fits, fits_listed}
use Rattle.wt_cert.specs.LineForms.{Head, may_cite}
use Rattle.wt_cert.specs.Trees.{tree_spelling, IsWritableTree}
use Rattle.wt_refute.specs.Made.{tree_of}
use Rattle.wt_refute.proofs.Made.{refutation-tree_of}
use Rattle.wt_cert.specs.Parts.{tiles_part, numbers_part, allowed_part, to_refuted, refuted_row, with_refuted, refuted_part, to_lost, lost_row, with_lost, lost_part, images_part, to_marker, marker_part, to_restrict, restrict_part, block_part, link_part, with_link, next_step, steps_part, to_loop, end_behind, end_part, to_chain, chain_part, cert_part}
use Rattle.wt_cert.specs.Seen.{refuted_view, lost_view}
use Rattle.wt_cert.specs.Spelling.{line, count_tokens, numbers_tokens, axis_digit, tiles_lines, allowed_lines, radius_tokens, refuted_tokens, refuted_lines, lost_tokens, lost_lines, images_lines, marker_lines, restrict_lines, link_lines, blocks_lines, end_lines, cert_lines}
use Rattle.wt_cert.specs.Fits.{AreWritableTiles, AreWritableNumbers, IsWritablePair, AreWritablePairs, IsWritableImage, AreWritableImages, IsWritableRefutation, IsWritableLoss, AreWritableRefutations, AreWritableLosses, IsWritableLink, IsWritableEnd, IsWritable}
use Rattle.wt_cert.proofs.Standing.{refuted_again, lost_again}
use Rattle.wt_cert.proofs.Joined.{seen_by, same_part, behind_part, none_part}
use Rattle.wt_cert.proofs.LineLaws.{alone_line, count_line, numbers_line, version_line, steps_line, KindFits, kind_tokens, head_line, allowed_line, pair_line, refuted_line, lost_line, image_line, end_tokens, EndLineFits, end_line}

from_turn : {A : Type 0} (P : A → Type 0) (xs : List A) → FitInTurn (λ s. P) no_state 0 xs → AllFit P xs
from_turn P [] fits = tt
from_turn P (x ∷ xs) fits = (fits.0, from_turn P xs fits.1)

to_turn : {A : Type 0} (P : A → Type 0) (xs : List A) → AllFit P xs → FitInTurn (λ s. P) no_state 0 xs
to_turn P [] fits = tt
to_turn P (x ∷ xs) fits = (fits.0, to_turn P xs fits.1)

tiles : (w : List ℕ) → IsClean w → IsPart (tiles_part w) (tiles_lines w) AreWritableTiles
unfolding tiles_part
tiles w c = same_part (tiles_lines w) AreWritableTiles (λ list fits. (refl, record { few = fits.0; listed = (fits_listed list (length list.tiles) fits.1).1 })) (λ list fits. (fits.few, listed_fits list (length list.tiles) refl fits.listed))
    (behind_part (λ list. length list.tiles) (λ n list fits. (fits_listed list n fits).0) (line_part (count_line w c 256 Tiles (omega arith))) (λ n fits. tiles_law n))

numbers : (w : List ℕ) → IsClean w → IsPart (numbers_part w) (line_spelling (numbers_tokens w)) AreWritableNumbers
unfolding numbers_part
numbers w c = line_part (numbers_line w c)

allowed : (a : List ℕ) → IsClean a → IsPart (allowed_part a) (allowed_lines a) AreWritablePairs
unfolding allowed_part
allowed a c = same_part (allowed_lines a) AreWritablePairs (λ xs fits. (refl, (fits.0, from_turn IsWritablePair xs fits.1))) (λ xs fits. (fits.0, to_turn IsWritablePair xs fits.1))
    (counted_part no_state (λ s. line_part pair_line) (line_part (allowed_line a c)) 0)

images : IsPart images_part images_lines AreWritableImages
unfolding images_part
images = same_part images_lines AreWritableImages (λ xs fits. (refl, (fits.0, from_turn IsWritableImage xs fits.1))) (λ xs fits. (fits.0, to_turn IsWritableImage xs fits.1))
    (counted_part no_state (λ s. line_part image_line) (line_part (count_line (codes "images") (search rules) 256 Tiles (omega arith))) 0)

refuted_one : (version : Version) (r nodes : ℕ) → IsPart (refuted_row version r nodes) (line_spelling (refuted_tokens version)) (IsWritableRefutation version r nodes)
unfolding refuted_row
refuted_one version r nodes = seen_by to_refuted (line_spelling (refuted_tokens version)) (IsWritableRefutation version r nodes)
    (λ a fits.
    let same : a.1.1.1.1 ≡ refutation (tree_of a.1.1.1.1) = sym (refutation-tree_of a.1.1.1.1) in (
      ap (λ (t : Refutation). line_of (axis_digit a.0 ∷ decimal a.1.0 ∷ decimal a.1.1.0 ∷ (radius_tokens version a.1.1.1.0 ++ tree_spelling t)) ∷ []) same,
      record { small_a = fits.1.0; small_b = fits.1.1.0; radius = fits.1.1.1.0; tree = subst (IsWritableTree (may_cite version) 90 nodes) same fits.1.1.1.1 },
    ))
    (λ b fits. (refuted_view b, refuted_again b, (tt, (fits.small_a, (fits.small_b, (fits.radius, fits.tree))))))
    (line_part (refuted_line version r nodes))

refuted_all : (version : Version) (r nodes : ℕ) → IsPart (refuted_part version r nodes) (refuted_lines version) (AreWritableRefutations version r nodes)
unfolding refuted_part
refuted_all version r nodes = counted_part with_refuted (λ n. refuted_one version r n) (line_part (count_line (codes "refuted") (search rules) 131072 Pairs (omega arith))) nodes

lost_one : (nodes : ℕ) → IsPart (lost_row nodes) (line_spelling lost_tokens) (IsWritableLoss nodes)
unfolding lost_row
lost_one nodes = seen_by to_lost (line_spelling lost_tokens) (IsWritableLoss nodes)
    (λ a fits.
    let same : a.1 ≡ refutation (tree_of a.1) = sym (refutation-tree_of a.1) in
    (ap (λ (t : Refutation). line_of (decimal a.0 ∷ tree_spelling t) ∷ []) same, record { small = fits.0; tree = subst (IsWritableTree true 90 nodes) same fits.1 }))
    (λ b fits. (lost_view b, lost_again b, (fits.small, fits.tree)))
    (line_part (lost_line nodes))

lost_all : (nodes : ℕ) → IsPart (lost_part nodes) lost_lines (AreWritableLosses nodes)
unfolding lost_part
lost_all nodes = counted_part with_lost lost_one (line_part (count_line (codes "lost") (search rules) 256 Tiles (omega arith))) nodes

-- ---- a block

abbrev head_of : RawLink → Head
head_of (Marker s) = first (s.axis, (s.side, s.radius))
head_of (Restrict s) = second s.radius

-- what stands behind the head
abbrev body_lines : Version → RawLink → List Line
body_lines version (Marker s) =
    tiles_lines (codes "fine") s.fine ++
    (tiles_lines (codes "coarse") s.coarse ++
    (line (numbers_tokens (codes "markers") s.markers) ++
    (allowed_lines (codes "1") s.allowed1 ++
    (allowed_lines (codes "2") s.allowed2 ++
    (refuted_lines version s.refuted ++
    images_lines s.images)))))
body_lines version (Restrict s) =
    tiles_lines (codes "fine") s.fine ++
    (tiles_lines (codes "coarse") s.coarse ++
    (line (numbers_tokens (codes "kept") s.kept) ++
    lost_lines s.lost))

abbrev Body : Type 0
Body = TileList × (TileList × (List ℕ × (List (ℕ × ℕ) × (List (ℕ × ℕ) × (List Refuted × List Image)))))

abbrev body_of : RawStep → Body
body_of s = (s.fine, (s.coarse, (s.markers, (s.allowed1, (s.allowed2, (s.refuted, s.images))))))

abbrev MarkerBody : Version → ℕ → ℕ → Body → Type 0
MarkerBody version nodes r x = AreWritableTiles x.0 × (AreWritableTiles x.1.0 × (AreWritableNumbers x.1.1.0 × (AreWritablePairs x.1.1.1.0 × (AreWritablePairs x.1.1.1.1.0 × (AreWritableRefutations version r nodes x.1.1.1.1.1.0 × AreWritableImages x.1.1.1.1.1.1)))))

abbrev RestrictBody : ℕ → TileList × (TileList × (List ℕ × List Lost)) → Type 0
RestrictBody nodes x = AreWritableTiles x.0 × (AreWritableTiles x.1.0 × (AreWritableNumbers x.1.1.0 × AreWritableLosses nodes x.1.1.1))

abbrev BodyFits : Version → ℕ → Head → RawLink → Type 0
BodyFits version nodes (first head) (Marker s) = ((s.axis, (s.side, s.radius)) ≡ head) × MarkerBody version nodes head.1.1 (body_of s)
BodyFits version nodes (first head) (Restrict s) = ⊥
BodyFits version nodes (second r) (Marker s) = ⊥
BodyFits version nodes (second r) (Restrict s) = (s.radius ≡ r) × RestrictBody nodes (s.fine, (s.coarse, (s.kept, s.lost)))

marker_body : (version : Version) (nodes : ℕ) (head : Axis × (Side × ℕ)) → IsPart (marker_part version nodes head) (body_lines version) (BodyFits version nodes (first head))
unfolding marker_part
marker_body version nodes head = seen_by (to_marker head) (body_lines version) (BodyFits version nodes (first head)) (λ a fits. (refl, (refl, fits))) back
    (both_part (tiles (codes "fine") (search rules)) (both_part (tiles (codes "coarse") (search rules)) (both_part (numbers (codes "markers") (search rules))
    (both_part (allowed (codes "1") (search rules)) (both_part (allowed (codes "2") (search rules)) (both_part (refuted_all version head.1.1 nodes) images))))))
  where
    again : (s : RawStep) → (s.axis, (s.side, s.radius)) ≡ head → to_marker head (body_of s) ≡ Marker s
    again s e = ap (λ (h : Axis × (Side × ℕ)). to_marker h (body_of s)) (sym e)

    back : (b : RawLink) → BodyFits version nodes (first head) b → (a : Body) × (to_marker head a ≡ b) × MarkerBody version nodes head.1.1 a
    back (Marker s) fits = (body_of s, again s fits.0, fits.1)
    back (Restrict s) fits = absurd fits

restrict_body : (version : Version) (nodes r : ℕ) → IsPart (restrict_part nodes r) (body_lines version) (BodyFits version nodes (second r))
unfolding restrict_part
restrict_body version nodes r = seen_by (to_restrict r) (body_lines version) (BodyFits version nodes (second r)) (λ a fits. (refl, (refl, fits))) back
    (both_part (tiles (codes "fine") (search rules)) (both_part (tiles (codes "coarse") (search rules)) (both_part (numbers (codes "kept") (search rules)) (lost_all nodes))))
  where
    again : (s : RawRestrict) → s.radius ≡ r → to_restrict r (s.fine, (s.coarse, (s.kept, s.lost))) ≡ Restrict s
    again s e = ap (λ (n : ℕ). to_restrict n (s.fine, (s.coarse, (s.kept, s.lost)))) (sym e)

    back : (b : RawLink) → BodyFits version nodes (second r) b → (a : TileList × (TileList × (List ℕ × List Lost))) × (to_restrict r a ≡ b) × RestrictBody nodes a
    back (Marker s) fits = absurd fits
    back (Restrict s) fits = ((s.fine, (s.coarse, (s.kept, s.lost))), again s fits.0, fits.1)

block : (version : Version) (nodes : ℕ) (head : Head) → IsPart (block_part version nodes head) (body_lines version) (BodyFits version nodes head)
block version nodes (first head) = marker_body version nodes head
block version nodes (second r) = restrict_body version nodes r

same_head : (version : Version) (nodes : ℕ) (head : Head) (b : RawLink) → BodyFits version nodes head b → head_of b ≡ head
same_head version nodes (first head) (Marker s) fits = ap first fits.0
same_head version nodes (first head) (Restrict s) fits = absurd fits
same_head version nodes (second r) (Marker s) fits = absurd fits
same_head version nodes (second r) (Restrict s) fits = ap second fits.0

to_link : (version : Version) (k nodes : ℕ) (b : RawLink) → KindFits version (head_of b) × BodyFits version nodes (head_of b) b
    → (line_spelling (λ h. codes "step" ∷ decimal k ∷ kind_tokens h) (head_of b) ++ body_lines version b ≡ link_lines version k b) × IsWritableLink version nodes b
unfolding marker_lines restrict_lines
to_link version k nodes (Marker s) fits =
    let f = fits.1.1 in
    (refl, record { radius = fits.0; fine = f.0; coarse = f.1.0; markers = f.1.1.0; allowed1 = f.1.1.1.0; allowed2 = f.1.1.1.1.0; refuted = f.1.1.1.1.1.0; images = f.1.1.1.1.1.1 })
to_link versions.One k nodes (Restrict s) fits = absurd fits.0
to_link versions.Two k nodes (Restrict s) fits = let f = fits.1.1 in (refl, record { radius = fits.0; fine = f.0; coarse = f.1.0; kept = f.1.1.0; lost = f.1.1.1 })

from_link : (version : Version) (nodes : ℕ) (b : RawLink) → IsWritableLink version nodes b → KindFits version (head_of b) × BodyFits version nodes (head_of b) b
from_link version nodes (Marker s) fits = (fits.radius, (refl, (fits.fine, (fits.coarse, (fits.markers, (fits.allowed1, (fits.allowed2, (fits.refuted, fits.images))))))))
from_link versions.One nodes (Restrict s) fits = absurd fits
from_link versions.Two nodes (Restrict s) fits = (fits.radius, (refl, (fits.fine, (fits.coarse, (fits.kept, fits.lost)))))

link : (version : Version) (k nodes : ℕ) → k < 2 ^ 64 → IsPart (link_part version k nodes) (link_lines version k) (IsWritableLink version nodes)
unfolding link_part
link version k nodes lt = same_part (link_lines version k) (IsWritableLink version nodes) (to_link version k nodes) (from_link version nodes)
    (behind_part head_of (same_head version nodes) (line_part (head_line version k lt)) (λ head fits. block version nodes head))

-- ---- the steps

abbrev Can : ℕ × ℕ → ℕ → Type 0
Can s n = s.0 + n ≤ 32

abbrev StepsFit : Version → List RawLink → Type 0
StepsFit version xs = ((length xs ≤ 32) × (1 ≤ length xs)) × FitInTurn (IsWritableLink version) with_link 0 xs

blocks_same : (version : Version) (k nodes : ℕ) (xs : List RawLink) → flat_in_turn (λ s x. link_lines version s.0 x) next_step (k, nodes) xs ≡ blocks_lines version k xs
blocks_same version k nodes [] = refl
blocks_same version k nodes (x ∷ xs) = ap (λ (y : List Line). link_lines version k x ++ y) (blocks_same version (k + 1) (with_link nodes x) xs)

from_states : (version : Version) (k nodes : ℕ) (xs : List RawLink) → FitInTurn (λ s x. IsWritableLink version s.1 x) next_step (k, nodes) xs → FitInTurn (IsWritableLink version) with_link nodes xs
from_states version k nodes [] fits = tt
from_states version k nodes (x ∷ xs) fits = (fits.0, from_states version (k + 1) (with_link nodes x) xs fits.1)

to_states : (version : Version) (k nodes : ℕ) (xs : List RawLink) → FitInTurn (IsWritableLink version) with_link nodes xs → FitInTurn (λ s x. IsWritableLink version s.1 x) next_step (k, nodes) xs
to_states version k nodes [] fits = tt
to_states version k nodes (x ∷ xs) fits = (fits.0, to_states version (k + 1) (with_link nodes x) xs fits.1)

abbrev steps_lines : Version → List RawLink → List Line
steps_lines version xs = line (count_tokens (codes "steps") (length xs)) ++ blocks_lines version 0 xs

steps : (version : Version) → IsPart (steps_part version) (steps_lines version) (StepsFit version)
unfolding steps_part
steps version = same_part (steps_lines version) (StepsFit version)
    (λ xs fits. (ap (λ (y : List Line). line (count_tokens (codes "steps") (length xs)) ++ y) (blocks_same version 0 0 xs), (fits.0, from_states version 0 0 xs fits.1)))
    (λ xs fits. (fits.0, to_states version 0 0 xs fits.1))
    (bounded_part next_step Can (λ s n c. link version s.0 s.1 (few s.0 n c)) (λ s x n c. more s.0 n c) (line_part steps_line) (0, 0) (λ n fits. all n fits.0))
  where
    few : (k n : ℕ) → k + suc n ≤ 32 → k < 2 ^ 64
    few k n c = omega (arith, c)

    more : (k n : ℕ) → k + suc n ≤ 32 → (k + 1) + n ≤ 32
    more k n c = omega (arith, c)

    all : (n : ℕ) → n ≤ 32 → 0 + n ≤ 32
    all n le = omega (arith, le)

-- ---- the end

abbrev end_head : End → Either (Unit {0}) (ℕ × ℕ)
end_head Open = first tt
end_head (Loop start renaming expansion) = second (start, expansion)

abbrev end_rest : End → List Line
end_rest Open = []
end_rest (Loop start renaming expansion) = line (numbers_tokens (codes "renaming") renaming)

abbrev EndRest : Either (Unit {0}) (ℕ × ℕ) → End → Type 0
EndRest (first u) Open = u ≡ tt
EndRest (first u) (Loop start renaming expansion) = ⊥
EndRest (second x) Open = ⊥
EndRest (second x) (Loop start renaming expansion) = ((start, expansion) ≡ x) × AreWritableNumbers renaming

end_body : (h : Either (Unit {0}) (ℕ × ℕ)) → EndLineFits h → IsPart (end_behind h) end_rest (EndRest h)
end_body (first u) known = same_part end_rest (EndRest (first u)) to from (none_part Open)
  where
    to : (e : End) → e ≡ Open → ([] ≡ end_rest e) × EndRest (first u) e
    to Open same = (refl, known)
    to (Loop start renaming expansion) same = absurd cc

    from : (e : End) → EndRest (first u) e → e ≡ Open
    from Open fits = refl
    from (Loop start renaming expansion) fits = absurd fits
end_body (second x) known = seen_by (to_loop x) end_rest (EndRest (second x)) (λ ns fits. (refl, (refl, fits))) back (numbers (codes "renaming") (search rules))
  where
    back : (e : End) → EndRest (second x) e → (ns : List ℕ) × (to_loop x ns ≡ e) × AreWritableNumbers ns
    back Open fits = absurd fits
    back (Loop start renaming expansion) fits = (renaming, ap (λ (y : ℕ × ℕ). to_loop y renaming) (sym fits.0), fits.1)

same_end : (h : Either (Unit {0}) (ℕ × ℕ)) (e : End) → EndRest h e → end_head e ≡ h
same_end (first u) Open fits = ap first (sym fits)
same_end (first u) (Loop start renaming expansion) fits = absurd fits
same_end (second x) Open fits = absurd fits
same_end (second x) (Loop start renaming expansion) fits = ap second fits.0

end_all : IsPart end_part end_lines IsWritableEnd
unfolding end_part
end_all = same_part end_lines IsWritableEnd to from (behind_part end_head same_end (line_part end_line) end_body)
  where
    to : (e : End) → EndLineFits (end_head e) × EndRest (end_head e) e → (line_spelling end_tokens (end_head e) ++ end_rest e ≡ end_lines e) × IsWritableEnd e
    to Open fits = (refl, tt)
    to (Loop start renaming expansion) fits = (refl, (fits.0.0, fits.0.1, fits.1.1))

    from : (e : End) → IsWritableEnd e → EndLineFits (end_head e) × EndRest (end_head e) e
    from Open fits = (refl, refl)
    from (Loop start renaming expansion) fits = ((fits.0, fits.1), (refl, fits.2))

-- ---- a certificate, whole

abbrev ChainFits : Version → RawChain → Type 0
ChainFits version c = (c.version ≡ version) × (StepsFit version c.steps × IsWritableEnd c.end)

abbrev chain_rest : RawChain → List Line
chain_rest c = steps_lines c.version c.steps ++ (end_lines c.end ++ line (codes "end" ∷ []))

chain : (version : Version) → IsPart (chain_part version) chain_rest (ChainFits version)
unfolding chain_part
chain version = seen_by (to_chain version) chain_rest (ChainFits version) (λ a fits. (refl, (refl, (fits.0, fits.1.0)))) back
    (both_part (steps version) (both_part end_all (line_part (alone_line (codes "end") (search rules)))))
  where
    back : (c : RawChain) → ChainFits version c → (a : List RawLink × (End × Unit {0})) × (to_chain version a ≡ c) × (StepsFit version a.0 × (IsWritableEnd a.1.0 × (a.1.1 ≡ tt)))
    back c fits = ((c.steps, (c.end, tt)), ap (λ (v : Version). to_chain v (c.steps, (c.end, tt))) (sym fits.0), (fits.1.0, (fits.1.1, refl)))

pub certificate : IsPart cert_part cert_lines IsWritable
unfolding cert_part cert_lines
certificate = same_part cert_lines IsWritable (λ c fits. (refl, record { some = fits.1.1.0.0.1; few = fits.1.1.0.0.0; steps = fits.1.1.0.1; end = fits.1.1.1 })) (λ c fits. (tt, (refl, (((fits.few, fits.some), fits.steps), fits.end))))
    (behind_part (λ c. c.version) (λ v c fits. fits.0) (line_part version_line) (λ v fits. chain v))
