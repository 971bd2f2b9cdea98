-- Each line of a certificate has an example, so a certificate can always be carried on.
use Rattle.std.proofs.Common.{rules, ◌≡◌, ℕ, zero, suc, List, [], ◌∷◌, Some, true, refl, eq-eqb}
use Rattle.std.specs.Prelude.{codes}
use Rattle.wt_line.specs.declared.faults.What.{What}
use Rattle.wt_line.specs.declared.faults.What.TheVariants.{Tiles, Pairs}
use Rattle.wt_grid.specs.declared.axis.Axis.{Axis}
use Rattle.wt_grid.specs.declared.axis.Side.{Side}
use Rattle.wt_text.specs.Words.{number}
use Rattle.wt_text.specs.Readers.{Either, first, second}
use Rattle.wt_text.specs.Spellings.{IsClean, AllFit}
use Rattle.wt_text.proofs.Formats.{after_again}
use Rattle.wt_pattern.specs.TileRows.{rows_list}
use Rattle.wt_chain.specs.declared.raw.Version.{Version}
use Rattle.wt_chain.specs.declared.raw.Version.TheVariants as versions
use Rattle.wt_chain.specs.declared.raw.End.TheVariants.{Open}
use Rattle.wt_cert.specs.LineForms.{Head}
use Rattle.wt_cert.specs.Parts.{with_refuted, with_lost, next_step, to_refuted, to_lost, to_marker, to_restrict, to_loop, to_chain}
use Rattle.wt_faults.specs.Grammars.{Grammar, ends, has_form, one, many_in_turn}
use Rattle.wt_faults.specs.Certificates.{word_line, count_line, numbers_line, version_line, steps_line, head_line, allowed_line, pair_line, refuted_line, lost_line, image_line, end_line, tiles_grammar, allowed_grammar, refuted_grammar, lost_grammar, images_grammar, marker_grammar, restrict_grammar, block_grammar, link_grammar, steps_grammar, renaming_behind, cert_grammar, certificate_grammar, desub_grammar}
use Rattle.wt_faults.specs.Rows.{shaped_grammar}
use Rattle.wt_faults.proofs.First.{IsOpen}
use Rattle.wt_faults.proofs.Open.{HasLine, IsOpenPart, one_open, many_open, names_open, pattern_open}
use Rattle.wt_faults.proofs.Numerals.{numeral}

-- ---- lines

zero_token : List ℕ
zero_token = 48 ∷ []

word_example : (w : List ℕ) → IsClean w → HasLine (word_line w)
word_example w c = record { tokens = w ∷ []; some = tt; clean = (c, tt); fits = rw (after_again w []) refl }

count_example : (w : List ℕ) (most : ℕ) (what : What) → IsClean w → HasLine (count_line w most what)
unfolding zero_token
count_example w most what c = record { tokens = w ∷ zero_token ∷ []; some = tt; clean = (c, (search rules, tt)); fits = rw (after_again w (zero_token ∷ [])) refl }

numbers_example : (w : List ℕ) → IsClean w → HasLine (numbers_line w)
unfolding zero_token
numbers_example w c = record { tokens = w ∷ zero_token ∷ []; some = tt; clean = (c, (search rules, tt)); fits = rw (after_again w (zero_token ∷ [])) refl }

version_example : HasLine version_line
version_example = record { tokens = codes "certificate" ∷ codes "1" ∷ []; some = tt; clean = search rules; fits = refl }

steps_example : HasLine steps_line
steps_example = record { tokens = codes "steps" ∷ codes "1" ∷ []; some = tt; clean = search rules; fits = refl }

kind_tokens : List (List ℕ)
kind_tokens = codes "axis" ∷ codes "1" ∷ codes "side" ∷ codes "after" ∷ codes "radius" ∷ codes "0" ∷ []

kind_clean : AllFit IsClean kind_tokens
unfolding kind_tokens
kind_clean = search rules

head_fits : (version : Version) (k : ℕ) (t : List ℕ) → number t ≡ Some k → has_form (head_line version k (codes "step" ∷ t ∷ kind_tokens)) ≡ true
unfolding kind_tokens
head_fits versions.One k t e = rw (e, eq-eqb k k refl) refl
head_fits versions.Two k t e = rw (e, eq-eqb k k refl) refl

head_example : (version : Version) (k : ℕ) → HasLine (head_line version k)
head_example version k =
    let n = numeral k in
    record { tokens = codes "step" ∷ n.token ∷ kind_tokens; some = tt; clean = (search rules, (n.clean, kind_clean)); fits = head_fits version k n.token n.spells }

allowed_example : (a : List ℕ) → IsClean a → HasLine (allowed_line a)
unfolding zero_token
allowed_example a c = record { tokens = codes "allowed" ∷ a ∷ zero_token ∷ []; some = tt; clean = (search rules, (c, (search rules, tt))); fits = rw (after_again a (zero_token ∷ [])) refl }

pair_example : HasLine pair_line
pair_example = record { tokens = codes "0" ∷ codes "0" ∷ []; some = tt; clean = search rules; fits = refl }

refuted_example : (version : Version) (r nodes : ℕ) → HasLine (refuted_line version r nodes)
refuted_example versions.One r nodes = record { tokens = codes "1" ∷ codes "0" ∷ codes "0" ∷ codes "0" ∷ codes "0" ∷ []; some = tt; clean = search rules; fits = refl }
refuted_example versions.Two r nodes = record { tokens = codes "1" ∷ codes "0" ∷ codes "0" ∷ codes "0" ∷ codes "0" ∷ codes "0" ∷ []; some = tt; clean = search rules; fits = refl }

lost_example : (nodes : ℕ) → HasLine (lost_line nodes)
lost_example nodes = record { tokens = codes "0" ∷ codes "0" ∷ codes "0" ∷ []; some = tt; clean = search rules; fits = refl }

image_example : HasLine image_line
image_example = record { tokens = codes "0" ∷ []; some = tt; clean = search rules; fits = refl }

end_example : HasLine end_line
end_example = record { tokens = codes "open" ∷ []; some = tt; clean = search rules; fits = refl }

-- ---- parts

turn_open : {A S : Type 0} {part : S → (A → Grammar) → Grammar} (left : S → A → S) → ((s : S) → IsOpenPart (part s)) → (s : S) (n : ℕ) → IsOpenPart (many_in_turn part left s n)
turn_open left f s zero = record { opens = λ next later. later [] }
turn_open left f s (suc n) = record { opens = λ next later. (f s).opens _ (λ x. (turn_open left f (left s x) n).opens _ (λ xs. later (x ∷ xs))) }

-- a line, and then a part that goes by it
behind_open : {A B : Type 0} {pa : (A → Grammar) → Grammar} {pb : A → (B → Grammar) → Grammar} → IsOpenPart pa → ((a : A) → IsOpenPart (pb a)) → IsOpenPart (λ next. pa (λ a. pb a next))
behind_open f g = record { opens = λ next later. f.opens _ (λ a. (g a).opens next later) }

seen_open : {A B : Type 0} {part : (A → Grammar) → Grammar} (to : A → B) → IsOpenPart part → IsOpenPart (λ next. part (λ x. next (to x)))
seen_open to f = record { opens = λ next later. f.opens _ (λ x. later (to x)) }

tiles_open : (w : List ℕ) → IsClean w → IsOpenPart (tiles_grammar w)
tiles_open w c = behind_open (one_open (count_example w 256 Tiles c)) (λ n. seen_open rows_list (many_open names_open n))

allowed_open : (a : List ℕ) → IsClean a → IsOpenPart (allowed_grammar a)
allowed_open a c = behind_open (one_open (allowed_example a c)) (λ n. many_open (one_open pair_example) n)

refuted_open : (version : Version) (r nodes : ℕ) → IsOpenPart (refuted_grammar version r nodes)
refuted_open version r nodes = behind_open (one_open (count_example (codes "refuted") 131072 Pairs (search rules))) (λ n. turn_open with_refuted (λ s. seen_open to_refuted (one_open (refuted_example version r s))) nodes n)

lost_open : (nodes : ℕ) → IsOpenPart (lost_grammar nodes)
lost_open nodes = behind_open (one_open (count_example (codes "lost") 256 Tiles (search rules))) (λ n. turn_open with_lost (λ s. seen_open to_lost (one_open (lost_example s))) nodes n)

images_open : IsOpenPart images_grammar
images_open = behind_open (one_open (count_example (codes "images") 256 Tiles (search rules))) (λ n. many_open (one_open image_example) n)

both_open : {A B : Type 0} {pa : (A → Grammar) → Grammar} {pb : (B → Grammar) → Grammar} → IsOpenPart pa → IsOpenPart pb → IsOpenPart {A = A × B} (λ next. pa (λ a. pb (λ b. next (a, b))))
both_open f g = record { opens = λ next later. f.opens _ (λ a. g.opens _ (λ b. later (a, b))) }

marker_open : (version : Version) (nodes : ℕ) (head : Axis × (Side × ℕ)) → IsOpenPart (marker_grammar version nodes head)
marker_open version nodes head =
    let law = seen_open (to_marker head)
    (both_open (tiles_open (codes "fine") (search rules))
    (both_open (tiles_open (codes "coarse") (search rules))
    (both_open (one_open (numbers_example (codes "markers") (search rules)))
    (both_open (allowed_open (codes "1") (search rules))
    (both_open (allowed_open (codes "2") (search rules))
    (both_open (refuted_open version head.1.1 nodes)
    images_open)))))) in
    record { opens = law.opens }

restrict_open : (nodes radius : ℕ) → IsOpenPart (restrict_grammar nodes radius)
restrict_open nodes radius =
    let law = seen_open (to_restrict radius)
    (both_open (tiles_open (codes "fine") (search rules))
    (both_open (tiles_open (codes "coarse") (search rules))
    (both_open (one_open (numbers_example (codes "kept") (search rules)))
    (lost_open nodes)))) in
    record { opens = law.opens }

block_open : (version : Version) (nodes : ℕ) (head : Head) → IsOpenPart (block_grammar version nodes head)
block_open version nodes (first head) = record { opens = (marker_open version nodes head).opens }
block_open version nodes (second radius) = record { opens = (restrict_open nodes radius).opens }

link_open : (version : Version) (s : ℕ × ℕ) → IsOpenPart (link_grammar version s)
link_open version s = behind_open (one_open (head_example version s.0)) (λ head. block_open version s.1 head)

steps_open : (version : Version) → IsOpenPart (steps_grammar version)
steps_open version = behind_open (one_open steps_example) (λ n. turn_open next_step (link_open version) (0, 0) n)

end_open : (e : Either (Unit {0}) (ℕ × ℕ)) → IsOpenPart (renaming_behind e)
end_open (first u) = record { opens = λ next later. later Open }
end_open (second x) = let law = seen_open (to_loop x) (one_open (numbers_example (codes "renaming") (search rules))) in record { opens = law.opens }

chain_open : (version : Version) → IsOpenPart (λ next. steps_grammar version (λ steps. one end_line (λ e. renaming_behind e (λ end. one (word_line (codes "end")) (λ u. next (to_chain version (steps, (end, u))))))))
chain_open version =
    let law = seen_open (to_chain version) (both_open (steps_open version) (both_open (behind_open (one_open end_example) end_open) (one_open (word_example (codes "end") (search rules))))) in
    record { opens = law.opens }

pub cert_open : IsOpenPart cert_grammar
cert_open = let law = behind_open (one_open version_example) chain_open in record { opens = law.opens }

pub certificate_open : IsOpen certificate_grammar
certificate_open = cert_open.opens (λ c. ends) (λ c. tt)

pub desub_open : IsOpen desub_grammar
desub_open = cert_open.opens (λ c. shaped_grammar (λ x. ends)) (λ c. pattern_open)
