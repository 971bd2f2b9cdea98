-- The image of a tile, and why there is none.
use Rattle.std.proofs.Common.{◌≡◌, ℕ, List, refl, sym, ap, ◌∙◌, drop}
use Rattle.std.specs.Prelude.{Option, None, Some, Bool, true, false, nat_lt, codes}
use Rattle.wt_text.specs.Lines.{bytes_of}
use Rattle.wt_grid.specs.declared.limits.TheConstants.{MAX_SIDE}
use Rattle.wt_grid.specs.Grid.{Grid}
use Rattle.wt_pattern.specs.PatternRows.{pattern_lines}
use Rattle.wt_step.specs.declared.raw.RawLink.{RawLink}
use Rattle.wt_chain.specs.declared.raw.End.{End}
use Rattle.wt_chain.specs.declared.raw.End.TheVariants.{Open, Loop}
use Rattle.wt_chain.specs.Sets.{first_count}
use Rattle.wt_expand.specs.declared.turning.TurnFault.{TurnFault}
use Rattle.wt_expand.specs.declared.turning.TurnFault.TheVariants.{OpenChain, NoTile, Width, Height, OutOfMemory}
use Rattle.wt_expand.specs.Turn.{turned_tile, sides_fault, loop_turn_fault, end_turn_fault, IsTurnedBy, IsTurnRefusal}
use Rattle.wt_session.specs.Replies.{Reply, says, limit, no_tile, open_chain}
use Rattle.wt_session.specs.Image.{image_text, image_in, image_by}

-- the reply to a fault; running out of memory is none that a chain has
abbrev pub refusal : ℕ → TurnFault → Reply
refusal t OpenChain = open_chain
refusal t NoTile = no_tile t
refusal t Width = limit (codes "limit width\n")
refusal t Height = limit (codes "limit height\n")
refusal t OutOfMemory = open_chain

-- the same, and that to none
abbrev pub reply_to : ℕ → Grid → Option TurnFault → Reply
reply_to t g None = says (bytes_of (pattern_lines g))
reply_to t g (Some fault) = refusal t fault

of_sides : (t : ℕ) (g : Grid) → image_text g ≡ reply_to t g (sides_fault g)
of_sides t g = by (nat_lt MAX_SIDE g.width) (nat_lt MAX_SIDE g.height) refl refl
  where
    by : (b d : Bool) → nat_lt MAX_SIDE g.width ≡ b → nat_lt MAX_SIDE g.height ≡ d → image_text g ≡ reply_to t g (sides_fault g)
    by true d p q = rw p refl
    by false true p q = rw (p, q) refl
    by false false p q = rw (p, q) refl

of_loop : (loop : List RawLink) (renaming : List ℕ) (t : ℕ) → image_in loop renaming t ≡ reply_to t (turned_tile loop renaming t) (loop_turn_fault loop renaming t)
of_loop loop renaming t = by (nat_lt t (first_count loop)) refl
  where
    by : (b : Bool) → nat_lt t (first_count loop) ≡ b → image_in loop renaming t ≡ reply_to t (turned_tile loop renaming t) (loop_turn_fault loop renaming t)
    by true p = rw p (of_sides t (turned_tile loop renaming t))
    by false p = rw p refl

pub imaged : (steps : List RawLink) (end : End) (t : ℕ) (g : Grid) → IsTurnedBy steps end t g → end_turn_fault steps end t ≡ None → image_by steps end t ≡ says (bytes_of (pattern_lines g))
imaged steps Open t g is e = absurd is
imaged steps (Loop start renaming x) t g is e = of_loop (drop start steps) renaming t ∙ ap (reply_to t (turned_tile (drop start steps) renaming t)) e ∙ ap (λ (h : Grid). says (bytes_of (pattern_lines h))) (sym is)

not_imaged : (steps : List RawLink) (end : End) (t : ℕ) (fault : TurnFault) → end_turn_fault steps end t ≡ Some fault → image_by steps end t ≡ refusal t fault
not_imaged steps Open t fault e = let k : OpenChain ≡ fault = cc in ap (refusal t) k
not_imaged steps (Loop start renaming x) t fault e = of_loop (drop start steps) renaming t ∙ ap (reply_to t (turned_tile (drop start steps) renaming t)) e

told : (f : Option TurnFault) (fault : TurnFault) → IsTurnRefusal f fault → (fault ≡ OutOfMemory → ⊥) → f ≡ Some fault
told None fault is other = absurd (other is)
told (Some cause) fault is other = ap Some (sym is)

pub open_image : (steps : List RawLink) (end : End) (t : ℕ) → IsTurnRefusal (end_turn_fault steps end t) OpenChain → image_by steps end t ≡ open_chain
open_image steps end t is = not_imaged steps end t OpenChain (told (end_turn_fault steps end t) OpenChain is (λ e. cc))

pub strange_image : (steps : List RawLink) (end : End) (t : ℕ) → IsTurnRefusal (end_turn_fault steps end t) NoTile → image_by steps end t ≡ no_tile t
strange_image steps end t is = not_imaged steps end t NoTile (told (end_turn_fault steps end t) NoTile is (λ e. cc))

pub wide_image : (steps : List RawLink) (end : End) (t : ℕ) → IsTurnRefusal (end_turn_fault steps end t) Width → image_by steps end t ≡ limit (codes "limit width\n")
wide_image steps end t is = not_imaged steps end t Width (told (end_turn_fault steps end t) Width is (λ e. cc))

pub high_image : (steps : List RawLink) (end : End) (t : ℕ) → IsTurnRefusal (end_turn_fault steps end t) Height → image_by steps end t ≡ limit (codes "limit height\n")
high_image steps end t is = not_imaged steps end t Height (told (end_turn_fault steps end t) Height is (λ e. cc))
