-- The lines of a certificate, both ways.
use Rattle.std.proofs.Common.{rules, arith, ◌≡◌, ◌⊎◌, inl, inr, ℕ, ◌≤◌, ◌<◌, ◌^◌, Bool, true, false, cond, nat_eq, List, [], ◌∷◌, ◌++◌, Option, Some, None, Result, Ok, Err, refl, ap, ◌∙◌, subst, codes}
use Rattle.wt_grid.specs.declared.image.Image.TheVariants.{One as Single, Two as Double}
use Rattle.wt_grid.specs.declared.image.Image.{Image}
use Rattle.wt_grid.specs.declared.axis.Side.TheVariants.{After, Before}
use Rattle.wt_grid.specs.declared.axis.Side.{Side}
use Rattle.wt_grid.specs.declared.axis.Axis.TheVariants.{One, Two}
use Rattle.wt_grid.specs.declared.axis.Axis.{Axis}
use Rattle.std.specs.Fmt.{decimal}
use Rattle.std.proofs.lemmas.Bool.{eqb-false}
use Rattle.std.proofs.lemmas.Bool.Decides.{nat_tests}
use Rattle.wt_line.specs.declared.faults.What.{What}
use Rattle.wt_line.specs.declared.faults.What.TheVariants.{Steps, Radius, Tiles, Pairs, Expansion, Number}
use Rattle.wt_chain.specs.declared.raw.Version.{Version}
use Rattle.wt_chain.specs.declared.raw.Version.TheVariants as versions
use Rattle.wt_text.specs.Words.{number}
use Rattle.wt_text.specs.Readers.{pair, mapped, within, either_word, Either, first, second}
use Rattle.wt_text.specs.Spellings.{IsClean, AllFit, IsNotEmpty, number_spelling}
use Rattle.wt_text.proofs.Numbers.{number_found, number_again, decimal_clean}
use Rattle.wt_text.proofs.Formats.{IsFormat, IsLine, bind_some, read_is, pair_ok, within_ok, within_again, number_format, both_format, behind_format, whole_line}
use Rattle.wt_text.proofs.Last.{IsLast, both_last, behind_last, whole_last, word_format, numbers_last}
use Rattle.wt_line.specs.Limits.{small, radius, number_from_one}
use Rattle.wt_line.specs.Directions.{axis, side}
use Rattle.wt_cert.specs.LineForms.{alone_form, count_form, numbers_form, version_form, steps_form, marker_head, restrict_head, Head, kind_of_step, head_form, allowed_form, pair_form, may_cite, radius_in, refuted_form, lost_form, image_of, image_behind, image_in, image_form, end_form}
use Rattle.wt_cert.specs.Spelling.{count_tokens, numbers_tokens, version_word, axis_digit, side_word, pair_tokens, radius_tokens, image_tokens}
use Rattle.wt_cert.specs.Fits.{IsSmall, AreWritableNumbers, IsWritablePair, IsWritableRadius, IsWritableImage}
use Rattle.wt_cert.specs.Trees.{tree_spelling, IsWritableTree}
use Rattle.wt_cert.proofs.TreeLines.{tree_last}
use Rattle.wt_cert.proofs.Joined.{given_format, first_format, FirstFits, either_format, either_spelling, EitherFits, same_format}

which_axis : (x : Axis) → (x ≡ One) ⊎ (x ≡ Two)
which_axis One = inl refl
which_axis Two = inr refl

which_side : (x : Side) → (x ≡ After) ⊎ (x ≡ Before)
which_side After = inl refl
which_side Before = inr refl

which_version : (x : Version) → (x ≡ versions.One) ⊎ (x ≡ versions.Two)
which_version versions.One = inl refl
which_version versions.Two = inr refl

axis_format : IsFormat {W = What} axis (λ a. axis_digit a ∷ []) (λ x. Unit {0})
axis_format = word_format (codes "1") One (codes "2") Two axis_digit refl refl (search rules) (search rules) refl which_axis

side_format : IsFormat {W = What} side (λ s. side_word s ∷ []) (λ x. Unit {0})
side_format = word_format (codes "after") After (codes "before") Before side_word refl refl (search rules) (search rules) refl which_side

version_format : IsFormat {W = What} (either_word (codes "1") versions.One (codes "2") versions.Two) (λ v. version_word v ∷ []) (λ x. Unit {0})
version_format = word_format (codes "1") versions.One (codes "2") versions.Two version_word refl refl (search rules) (search rules) refl which_version

small_format : IsFormat {W = What} small number_spelling IsSmall
small_format = number_format 65535 Number (omega arith)

radius_format : IsFormat {W = What} radius number_spelling (λ n. n ≤ 4)
radius_format = number_format 4 Radius (omega arith)

pub alone_line : (w : List ℕ) → IsClean w → IsLine (alone_form w) (λ x. w ∷ []) (λ x. x ≡ tt)
unfolding alone_form
alone_line w c = whole_line (λ x. tt) (behind_format w c (given_format tt))

pub count_line : (w : List ℕ) → IsClean w → (most : ℕ) (what : What) → most < 2 ^ 64 → IsLine (count_form w most what) (count_tokens w) (λ n. n ≤ most)
unfolding count_form
count_line w c most what lt = whole_line (λ x. tt) (behind_format w c (number_format most what lt))

pub numbers_line : (w : List ℕ) → IsClean w → IsLine (numbers_form w) (numbers_tokens w) AreWritableNumbers
unfolding numbers_form
numbers_line w c = whole_last (λ x. tt) (behind_last w c (numbers_last 256 Tiles 65535 Number (omega arith) (omega arith)))

pub version_line : IsLine version_form (λ v. codes "certificate" ∷ version_word v ∷ []) (λ v. Unit {0})
unfolding version_form
version_line = whole_line (λ x. tt) (behind_format (codes "certificate") (search rules) version_format)

other : (n : ℕ) → 1 ≤ n → nat_eq n 0 ≡ false
other n le = grind (arith, nat_tests)

steps_format : IsFormat (number_from_one 32 Steps) number_spelling (λ n. (n ≤ 32) × (1 ≤ n))
steps_format = record {
  found = found;
  again = λ n rest fits. let le : n ≤ 32 = fits.0 in rw (number_again n (omega (arith, le)), other n fits.1, within_again 32 Steps n le) refl;
  clean = λ n fits. let le : n ≤ 32 = fits.0 in (decimal_clean n (omega (arith, le)), tt);
}
  where
    go : (t : List ℕ) (ts : List (List ℕ)) (n x : ℕ) (rest : List (List ℕ)) (b : Bool) → number t ≡ Some n → nat_eq n 0 ≡ b → ◌≡◌ {A = Option (Result ℕ What × List (List ℕ))} (cond b None (Some (within 32 Steps n, ts))) (Some (Ok x, rest))
        → (t ∷ ts ≡ number_spelling x ++ rest) × ((x ≤ 32) × (1 ≤ x))
    go t ts n x rest true k h e = absurd cc
    go t ts n x rest false k h e =
        let p = read_is (within 32 Steps n) (Ok x) ts rest e in
        let w = within_ok 32 Steps n x p.0 in
        let spelled : t ≡ decimal x = number_found t n k (omega (arith, w.0, w.1)) ∙ ap decimal w.0 in
        let left : ts ≡ rest = p.1 in
        let some : 1 ≤ x = omega (arith, eqb-false n 0 h, w.0) in
        (cc, (w.1, some))

    found : (ts : List (List ℕ)) (x : ℕ) (rest : List (List ℕ)) → number_from_one 32 Steps ts ≡ Some (Ok x, rest) → (ts ≡ number_spelling x ++ rest) × ((x ≤ 32) × (1 ≤ x))
    found [] x rest e = absurd cc
    found (t ∷ ts) x rest e = let n = bind_some (number t) _ (Ok x, rest) e in go t ts n.0 x rest (nat_eq n.0 0) n.1 refl n.2

pub steps_line : IsLine steps_form (count_tokens (codes "steps")) (λ n. (n ≤ 32) × (1 ≤ n))
unfolding steps_form
steps_line = whole_line (λ x. tt) (behind_format (codes "steps") (search rules) steps_format)

-- ---- the head of a block

marker_format : IsFormat {W = What} marker_head (λ x. axis_digit x.0 ∷ codes "side" ∷ side_word x.1.0 ∷ codes "radius" ∷ decimal x.1.1 ∷ []) (λ x. Unit {0} × (Unit {0} × (x.1.1 ≤ 4)))
marker_format = both_format axis_format (behind_format (codes "side") (search rules) (both_format side_format (behind_format (codes "radius") (search rules) radius_format)))

restrict_format : IsFormat {W = What} restrict_head (λ r. codes "radius" ∷ decimal r ∷ []) (λ r. r ≤ 4)
restrict_format = behind_format (codes "radius") (search rules) radius_format

abbrev pub kind_tokens : Head → List (List ℕ)
kind_tokens (first x) = codes "axis" ∷ axis_digit x.0 ∷ codes "side" ∷ side_word x.1.0 ∷ codes "radius" ∷ decimal x.1.1 ∷ []
kind_tokens (second r) = codes "restrict" ∷ codes "radius" ∷ decimal r ∷ []

abbrev pub KindFits : Version → Head → Type 0
KindFits version (first x) = x.1.1 ≤ 4
KindFits versions.One (second r) = ⊥
KindFits versions.Two (second r) = r ≤ 4

kind_format : (version : Version) → IsFormat (kind_of_step version) kind_tokens (KindFits version)
kind_format versions.One = same_format kind_tokens (KindFits versions.One) (λ h. refl) to from (first_format kind_tokens (λ a. refl) (behind_format (codes "axis") (search rules) marker_format))
  where
    to : (h : Head) → FirstFits (λ x. Unit {0} × (Unit {0} × (x.1.1 ≤ 4))) h → KindFits versions.One h
    to (first x) fits = fits.1.1
    to (second r) fits = absurd fits

    from : (h : Head) → KindFits versions.One h → FirstFits (λ x. Unit {0} × (Unit {0} × (x.1.1 ≤ 4))) h
    from (first x) fits = (tt, (tt, fits))
    from (second r) fits = absurd fits
kind_format versions.Two = same_format kind_tokens (KindFits versions.Two) same to from (either_format (codes "axis") (codes "restrict") (search rules) (search rules) refl marker_format restrict_format)
  where
    same : (h : Head) → either_spelling (codes "axis") (λ x. axis_digit x.0 ∷ codes "side" ∷ side_word x.1.0 ∷ codes "radius" ∷ decimal x.1.1 ∷ []) (codes "restrict") (λ r. codes "radius" ∷ decimal r ∷ []) h ≡ kind_tokens h
    same (first x) = refl
    same (second r) = refl

    to : (h : Head) → EitherFits (λ x. Unit {0} × (Unit {0} × (x.1.1 ≤ 4))) (λ r. r ≤ 4) h → KindFits versions.Two h
    to (first x) fits = fits.1.1
    to (second r) fits = fits

    from : (h : Head) → KindFits versions.Two h → EitherFits (λ x. Unit {0} × (Unit {0} × (x.1.1 ≤ 4))) (λ r. r ≤ 4) h
    from (first x) fits = (tt, (tt, fits))
    from (second r) fits = fits

pub head_line : (version : Version) (k : ℕ) → k < 2 ^ 64 → IsLine (head_form version k) (λ h. codes "step" ∷ decimal k ∷ kind_tokens h) (KindFits version)
unfolding head_form
head_line version k lt = whole_line (λ x. tt) (behind_format (codes "step") (search rules) (behind_format (decimal k) (decimal_clean k lt) (kind_format version)))

-- ---- the lines of lists

pub allowed_line : (a : List ℕ) → IsClean a → IsLine (allowed_form a) (λ n. codes "allowed" ∷ count_tokens a n) (λ n. n ≤ 65536)
unfolding allowed_form
allowed_line a c = whole_line (λ x. tt) (behind_format (codes "allowed") (search rules) (behind_format a c (number_format 65536 Pairs (omega arith))))

pub pair_line : IsLine pair_form pair_tokens IsWritablePair
unfolding pair_form
pair_line = whole_line (λ x. tt) (both_format small_format small_format)

radius_in_format : (version : Version) (r : ℕ) → IsFormat (radius_in version r) (radius_tokens version) (IsWritableRadius version r)
radius_in_format versions.One r = given_format r
radius_in_format versions.Two r = radius_format

pub refuted_line : (version : Version) (r nodes : ℕ) → IsLine (refuted_form version r nodes) (λ x. axis_digit x.0 ∷ decimal x.1.0 ∷ decimal x.1.1.0 ∷ (radius_tokens version x.1.1.1.0 ++ tree_spelling x.1.1.1.1))
    (λ x. Unit {0} × (IsSmall x.1.0 × (IsSmall x.1.1.0 × (IsWritableRadius version r x.1.1.1.0 × IsWritableTree (may_cite version) 90 nodes x.1.1.1.1))))
unfolding refuted_form
refuted_line version r nodes = whole_last (λ x. tt) (both_last axis_format (both_last small_format (both_last small_format (both_last (radius_in_format version r) (tree_last (may_cite version) nodes)))))

pub lost_line : (nodes : ℕ) → IsLine (lost_form nodes) (λ x. decimal x.0 ∷ tree_spelling x.1) (λ x. IsSmall x.0 × IsWritableTree true 90 nodes x.1)
unfolding lost_form
lost_line nodes = whole_last (λ x. tt) (both_last small_format (tree_last true nodes))

image_last : IsLast image_in image_tokens IsWritableImage
image_last = record { found = found; again = again; clean = clean }
  where
    one_is : (r : Result ℕ What) (x : Image) → mapped Single r ≡ Ok x → (u : ℕ) × (r ≡ Ok u) × (Single u ≡ x)
    one_is (Ok u) x e = (u, refl, cc)
    one_is (Err w) x e = absurd cc

    two_is : (r : Result (ℕ × ℕ) What) (x : Image) → mapped image_of r ≡ Ok x → (u : ℕ × ℕ) × (r ≡ Ok u) × (image_of u ≡ x)
    two_is (Ok u) x e = (u, refl, cc)
    two_is (Err w) x e = absurd cc

    behind_first : (ts : List (List ℕ)) (u : Result ℕ What) (us : List (List ℕ)) (x : Image) (rest : List (List ℕ)) → small ts ≡ Some (u, us) → image_behind u us ≡ Some (Ok x, rest) → (ts ≡ image_tokens x ++ rest) × IsWritableImage x
    behind_first ts u [] x rest s e =
        let p = read_is (mapped Single u) (Ok x) [] rest e in
        let o = one_is u x p.0 in
        let f = small_format.found ts o.0 [] (s ∙ ap (λ (r : Result ℕ What). Some (r, [])) o.1) in
        let P : Image → Type 0 = λ y. (ts ≡ image_tokens y ++ rest) × IsWritableImage y in
        subst P o.2 (f.0 ∙ ap (λ (y : List (List ℕ)). decimal o.0 ∷ y) p.1, f.1)
    behind_first ts u (v ∷ us) x rest s e =
        let b = bind_some (small (v ∷ us)) _ (Ok x, rest) e in
        let p = read_is (mapped image_of (pair u b.0.0)) (Ok x) b.0.1 rest b.2 in
        let o = two_is (pair u b.0.0) x p.0 in
        let k = pair_ok u b.0.0 o.0 o.1 in
        let f = small_format.found ts o.0.0 (v ∷ us) (s ∙ ap (λ (r : Result ℕ What). Some (r, v ∷ us)) k.0) in
        let g = small_format.found (v ∷ us) o.0.1 rest (b.1 ∙ ap (λ (r : Result ℕ What). Some (r, b.0.1)) k.1 ∙ ap (λ (r : List (List ℕ)). Some (Ok o.0.1, r)) p.1) in
        let P : Image → Type 0 = λ y. (ts ≡ image_tokens y ++ rest) × IsWritableImage y in
        subst P o.2 (f.0 ∙ ap (λ (y : List (List ℕ)). decimal o.0.0 ∷ y) g.0, (f.1, g.1))

    found : (ts : List (List ℕ)) (x : Image) (rest : List (List ℕ)) → image_in ts ≡ Some (Ok x, rest) → (ts ≡ image_tokens x ++ rest) × IsWritableImage x
    found ts x rest e = let u = bind_some (small ts) _ (Ok x, rest) e in behind_first ts u.0.0 u.0.1 x rest u.1 u.2

    again : (x : Image) → IsWritableImage x → image_in (image_tokens x) ≡ Some (Ok x, [])
    again (Single u) le = rw (number_again u (omega (arith, le)), within_again 65535 Number u le) refl
    again (Double u v) fits =
        let a : u ≤ 65535 = fits.0 in
        let b : v ≤ 65535 = fits.1 in
        rw (number_again u (omega (arith, a)), number_again v (omega (arith, b)), within_again 65535 Number u a, within_again 65535 Number v b) refl

    clean : (x : Image) → IsWritableImage x → AllFit IsClean (image_tokens x)
    clean (Single u) le = (decimal_clean u (omega (arith, le)), tt)
    clean (Double u v) fits = let a : u ≤ 65535 = fits.0 in let b : v ≤ 65535 = fits.1 in (decimal_clean u (omega (arith, a)), (decimal_clean v (omega (arith, b)), tt))

some_image : (x : Image) → IsNotEmpty (image_tokens x)
some_image (Single u) = tt
some_image (Double u v) = tt

pub image_line : IsLine image_form image_tokens IsWritableImage
unfolding image_form
image_line = whole_last some_image image_last

-- ---- the end

abbrev pub end_tokens : Either (Unit {0}) (ℕ × ℕ) → List (List ℕ)
end_tokens (first u) = codes "open" ∷ []
end_tokens (second x) = codes "loop" ∷ decimal x.0 ∷ decimal x.1 ∷ []

abbrev pub EndLineFits : Either (Unit {0}) (ℕ × ℕ) → Type 0
EndLineFits (first u) = u ≡ tt
EndLineFits (second x) = IsSmall x.0 × (x.1 ≤ 256)

pub end_line : IsLine end_form end_tokens EndLineFits
unfolding end_form
end_line = whole_line some (same_format end_tokens EndLineFits same (λ h fits. to h fits) (λ h fits. from h fits) (either_format (codes "open") (codes "loop") (search rules) (search rules) refl (given_format tt) (both_format small_format (number_format 256 Expansion (omega arith)))))
  where
    some : (h : Either (Unit {0}) (ℕ × ℕ)) → IsNotEmpty (end_tokens h)
    some (first u) = tt
    some (second x) = tt

    same : (h : Either (Unit {0}) (ℕ × ℕ)) → either_spelling (codes "open") (λ y. []) (codes "loop") (λ x. decimal x.0 ∷ decimal x.1 ∷ []) h ≡ end_tokens h
    same (first u) = refl
    same (second x) = refl

    to : (h : Either (Unit {0}) (ℕ × ℕ)) → EitherFits (λ u. u ≡ tt) (λ x. IsSmall x.0 × (x.1 ≤ 256)) h → EndLineFits h
    to (first u) fits = fits
    to (second x) fits = fits

    from : (h : Either (Unit {0}) (ℕ × ℕ)) → EndLineFits h → EitherFits (λ u. u ≡ tt) (λ x. IsSmall x.0 × (x.1 ≤ 256)) h
    from (first u) fits = fits
    from (second x) fits = fits
